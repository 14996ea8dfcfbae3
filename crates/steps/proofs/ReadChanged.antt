-- What new bytes in a block make of the reading: the object of the block is another, and all else is as it was.
use Prim.Native.Nat.{ℕ, ◌+◌, ◌≤◌, ◌<◌}
use native.Mathlib.Omega.{arith}
use mathlib.Core.Bool.{true, cond}
use mathlib.Core.List.{List, [], ◌∷◌, map, map-id}
use mathlib.Core.Logic.{◌≢◌}
use mathlib.Core.Path.{◌≡◌, refl, sym, ap, fun_ext, subst, ◌∙◌}
use borrow.Author.Tests.{eqb-true, eqb-false, ne_eqb}
use lib.Dec.{eqb}
use lib.ListN.{length, get_or}
use lib.Seq.{get_or-set_same, get_or-set_other, set-get_or}
use Rattle.lists.specs.Blocks.{overwritten}
use Rattle.lists.specs.Tables.{read_from}
use Rattle.lists.proofs.All.{all_imp, all_map}
use Rattle.lists.proofs.Cases.{by_test, cond_same}
use Rattle.lists.proofs.Permutations.{map_perm}
use Rattle.lists.proofs.Replacing.{read_from_set_same}
use Rattle.lists.proofs.Tables.{map_read_from, entry_within}
use Rattle.ledger.specs.Objects.{Object, with_objects}
use Rattle.ledger.specs.Ledger.{Ledger}
use Rattle.ledger.specs.Compared.{shown_object, view_of}
use Rattle.ledger.specs.Kept.{Ascending}
use Rattle.ledger.specs.Noticed.{disturbed, disturbed_in}
use Rattle.ledger.specs.declared.Limits.{Limits}
use Rattle.record.specs.Codes.{free_block}
use Rattle.record.specs.Reading.{is_whole_small, is_whole_large, is_whole, block_bytes, size_of, object_in, record_view, Typed, Reads}
use Rattle.record.specs.WellFormed.{handle_of}
use Rattle.record.specs.Tables.{BlockEntry, Tables}
use Rattle.record.proofs.Facts.{Fit, fit_used}
use Rattle.record.proofs.Distinct.{handle_at, same_handle}
use Rattle.stores.specs.Places.{InBlock, small_after, large_after}
use Rattle.stores.proofs.Places.{first_bytes}
use Rattle.stores.proofs.Changes.{BytesChanged, bytes_changed}
use Rattle.steps.proofs.Finding.{object_of}
use Rattle.steps.proofs.StoreBytes.{whole_block}
use Rattle.steps.proofs.Summed.{summed_shown}
use Rattle.steps.specs.Objects.{with_block_sum}

-- of whole stores every object shows as it is
pub shown_whole : (limits : Limits) (small large : List ℕ) → is_whole_small limits small ≡ true → is_whole_large limits large ≡ true → (o : Object)
    → shown_object (is_whole limits small large) o ≡ o
shown_whole limits small large s l o = rw (s, l, cond_same)

all_shown : (limits : Limits) (small large : List ℕ) → is_whole_small limits small ≡ true → is_whole_large limits large ≡ true → (os : List Object)
    → map (shown_object (is_whole limits small large)) os ≡ os
all_shown limits small large s l os = ap (λ (f : Object → Object). map f os) (fun_ext (shown_whole limits small large s l)) ∙ map-id os

-- a change that leaves the handles leaves their order
ascending_after : (f : Object → Object) → ((o : Object) → (f o).handle ≡ o.handle) → (os : List Object) → Ascending os → Ascending (map f os)
ascending_after f same [] a = tt
ascending_after f same (o ∷ os) (l, a) = (
  all_map _ f os (all_imp {P = λ (q : Object). o.handle < q.handle} {Q = λ (q : Object). (f o).handle < (f q).handle} (λ q h. rw (same o, same q) h) os l),
  ascending_after f same os a,
)

-- the ledger with a change of its objects
abbrev pub changed_by : (Object → Object) → Ledger → Ledger
changed_by f L = record { memory = with_objects (map f L.memory.objects) L.memory; expirations = L.expirations }

-- the object in block j after new bytes in a block, and a new sum in that block's entry
abbrev pub object_after : Tables → List ℕ → List ℕ → ℕ → ℕ → List ℕ → ℕ → ℕ → Object
object_after p small large block offset new sum j =
    let b = get_or p.blocks j free_block in
    let old = block_bytes small large j (size_of j) in
    record {
      handle = b.handle;
      size = b.length;
      bytes = cond (eqb j block) (overwritten offset new old) old;
      sum = cond (eqb j block) sum b.sum;
      maker = b.maker;
      prefix = b.prefix;
    }

-- New bytes in a block in use, of whole stores.
module _ (p : Tables) (small large : List ℕ) (fit : Fit p) (small_whole_lem : is_whole_small p.limits small ≡ true) (large_whole_lem : is_whole_large p.limits large ≡ true)
    (block offset : ℕ) (new : List ℕ) (used : handle_at p.blocks block ≢ 0) (within : offset + length new ≤ size_of block) where
  abbrev small' : List ℕ
  small' = small_after block offset new small

  abbrev large' : List ℕ
  large' = large_after block offset new large

  -- a block in use is listed, and so its bytes lie in its store
  listed : (j : ℕ) → handle_at p.blocks j ≢ 0 → j < length p.blocks
  listed j u = entry_within free_block p.blocks j (λ e. u (ap handle_of e))

  all_of : (j : ℕ) → handle_at p.blocks j ≢ 0 → InBlock small large j (size_of j)
  all_of j u = whole_block p.limits fit.allowed small large small_whole_lem large_whole_lem j (fit_used fit j (ne_eqb _ 0 u)).listed

  pub in_place : InBlock small large block (offset + length new)
  in_place = first_bytes (all_of block used) (offset + length new) within

  change : BytesChanged small large small' large' block offset new
  change = bytes_changed offset new in_place

  pub changed_sizes : (length (small_after block offset new small) ≡ length small) × (length (large_after block offset new large) ≡ length large)
  changed_sizes = (change.small_size_lem, change.large_size_lem)

  -- each block in use has the bytes of its object after the change
  bytes_after : (j : ℕ) → handle_at p.blocks j ≢ 0
      → let old = block_bytes small large j (size_of j) in
      block_bytes small' large' j (size_of j) ≡ cond (eqb j block) (overwritten offset new old) old
  bytes_after j u =
      by_test (eqb j block)
      (λ e. rw (e, eqb-true j block e) (change.block_bytes_lem (size_of block) (all_of block used) within))
      (λ e. rw e (change.other_bytes j (size_of j) (all_of j u) (eqb-false j block e)))

  -- A sum in the block's entry, and what then becomes of each object.
  module _ (sum' : ℕ) (f : Object → Object) (same : (o : Object) → (f o).handle ≡ o.handle)
      (each : (j : ℕ) → handle_at p.blocks j ≢ 0 → f (object_of small large p.blocks j) ≡ object_after p small large block offset new sum' j) where
    entry_after : (j : ℕ)
        → let b = get_or p.blocks j free_block in
        get_or (with_block_sum block sum' p).blocks j free_block ≡ record { handle = b.handle; length = b.length; sum = cond (eqb j block) sum' b.sum; maker = b.maker; prefix = b.prefix }
    entry_after j =
        by_test (eqb j block)
        (λ e. rw (e, eqb-true j block e) (get_or-set_same p.blocks block _ free_block (listed block used)))
        (λ e. rw e (get_or-set_other p.blocks block j _ free_block (eqb-false j block e)))

    object_after_lem : (j : ℕ)
        → object_in small' large' j (get_or (with_block_sum block sum' p).blocks j free_block) ≡ map f (object_in small large j (get_or p.blocks j free_block))
    unfolding object_in
    object_after_lem j =
        rw (entry_after j)
        (by_test (eqb (handle_at p.blocks j) 0)
        (λ z. rw z)
        (λ z. let u = eqb-false _ 0 z in rw (z, bytes_after j u) (ap (λ (o : Object). o ∷ []) (sym (each j u)))))

    objects_after : read_from 0 (object_in small' large') (with_block_sum block sum' p).blocks ≡ map f (read_from 0 (object_in small large) p.blocks)
    objects_after =
        read_from_set_same free_block _ (λ j b. map f (object_in small large j b)) p.blocks block _ object_after_lem
        ∙ sym (map_read_from f 0 (object_in small large) p.blocks)

    -- the record with the new sum and the new stores reads as the ledger with the change
    pub changed_reads : {L : Ledger} → Reads p small large L
        → Reads (with_block_sum block sum' p) (small_after block offset new small) (large_after block offset new large) (changed_by f L)
    unfolding record_view view_of
    changed_reads {L} reads =
        let os = L.memory.objects in
        let whole = all_shown p.limits small' large' (rw change.small_size_lem small_whole_lem) (rw change.large_size_lem large_whole_lem) in
        record {
          alike =
              record {
                limits = reads.alike.limits;
                tasks = reads.alike.tasks;
                global = reads.alike.global;
                given = reads.alike.given;
                shares = reads.alike.shares;
                objects =
                    rw (objects_after, whole (map f os), whole (map f (read_from 0 (object_in small large) p.blocks)))
                    (map_perm f
                    (rw (all_shown p.limits small large small_whole_lem large_whole_lem os, all_shown p.limits small large small_whole_lem large_whole_lem (read_from 0 (object_in small large) p.blocks))
                    at reads.alike.objects));
                expirations = rw (summed_shown block sum' p) reads.alike.expirations;
              };
          ascending = ascending_after f same os reads.ascending;
          pins = reads.pins;
        }

-- a sum that was there already
same_sum : (p : Tables) (block : ℕ) → with_block_sum block (get_or p.blocks block free_block).sum p ≡ p
same_sum p block =
    ap
    (λ (bs : List BlockEntry). record { limits = p.limits; tasks = p.tasks; global = p.global; given = p.given; shares = p.shares; blocks = bs; expirations = p.expirations })
    (set-get_or p.blocks block free_block)

-- One byte of a block in use is another, and nothing else: the record reads as the ledger in which that byte of the object is.
pub disturbed_reads : {p : Tables} {small large : List ℕ} {L : Ledger} → Fit p → Typed p → Reads p small large L
    → is_whole_small p.limits small ≡ true → is_whole_large p.limits large ≡ true
    → (block at value : ℕ) → handle_at p.blocks block ≢ 0 → at < size_of block
    → Reads p (small_after block at (value ∷ []) small) (large_after block at (value ∷ []) large) (disturbed_in (handle_at p.blocks block) at value L)
unfolding disturbed
disturbed_reads {p} {small} {large} {L} fit types reads small_whole_lem large_whole_lem block at value used inside =
    let f = disturbed (handle_at p.blocks block) at value in
    subst (λ (q : Tables). Reads q (small_after block at (value ∷ []) small) (large_after block at (value ∷ []) large) (changed_by f L)) (same_sum p block)
    (changed_reads p small large fit small_whole_lem large_whole_lem block at (value ∷ []) used (omega arith) _ f (λ o. refl)
    (λ j u. rw (same_handle p.blocks fit.distinct block j used)
    (by_test (eqb j block) (λ e. rw (e, eqb-true j block e)) (λ e. rw e)))
    reads)
