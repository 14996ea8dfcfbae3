-- Make and refresh leave a well-formed record well-formed, whichever free block and free entry they take.
use Prim.Native.Nat.{ℕ, zero, suc, ◌+◌, ◌≤◌, ◌<◌}
use native.Mathlib.Omega.{arith}
use mathlib.Core.Bool.{◌&&◌, true, false, false≢true, not, ◌||◌, and-eq-true_iff, or-true}
use mathlib.Core.List.{List, [], ◌∷◌, map}
use mathlib.Core.Path.{◌≡◌, refl, sym, ap, ◌∙◌}
use borrow.Author.Tests.{not-true, eqb-false, leb-true, leb-false, le-leb, lt-ltb, eq-eqb, ne_eqb}
use lib.Dec.{eqb}
use lib.ListN.{get_or, set}
use lib.Seq.{get_or-set_same}
use Rattle.lists.specs.Tests.{any, all}
use Rattle.lists.specs.Tables.{all_from}
use Rattle.lists.proofs.Cases.{by_test, and₃, or_map, or_false_parts}
use Rattle.lists.proofs.All.{all_imp, All→none, none_set}
use Rattle.lists.proofs.Counts.{any_map, any_set_kept, any_set_new}
use Rattle.lists.proofs.Tests.{passes_imp, passes_set}
use Rattle.lists.proofs.Tables.{map_set, all_from_imp, all_from_set}
use Rattle.ledger.specs.Limits.{task_count, small_size, large_size, is_small}
use Rattle.ledger.specs.Refusals.{is_pinning}
use Rattle.ledger.specs.declared.Kind.{Kind}
use Rattle.ledger.specs.declared.Kind.TheVariants.{Local, Global, Pinned}
use Rattle.ledger.specs.declared.Limits.{Limits}
use Rattle.record.specs.Codes.{due_by, due_of, is_pinned_due, free_block, free_entry}
use Rattle.record.specs.Reading.{Typed}
use Rattle.record.specs.WellFormed.{is_used, is_fit_due, is_fit_entry, is_naming, is_sized_for, is_prefixed, is_fit_block, is_distinct, is_block_at, is_entry_at, handle_of}
use Rattle.record.specs.Tables.{BlockEntry, ExpirationEntry, Tables}
use Rattle.record.proofs.Facts.{Fit}
use Rattle.steps.proofs.FitSwept.{used_fits}
use Rattle.steps.specs.Objects.{entry_for, with_entry, with_object}
use Rattle.steps.proofs.PinnedOnce.{once_set, none_pinned}
use Rattle.steps.proofs.Taken.{MaySet, SlotFree, PlaceFree, new_block, slot_due, local_due, global_due, units_set, clock_range, block_stays, blocks_given}

-- a block that is named is named still when a free entry is set
named_still : {limits : Limits} (slot block : ℕ) (e : ExpirationEntry) (xs : List ExpirationEntry) → SlotFree limits slot xs
    → any (is_naming block) xs ≡ true → any (is_naming block) (set xs slot e) ≡ true
named_still slot block e xs entry = any_set_kept (is_naming block) xs slot e free_entry (rw (slot_due slot xs entry))

-- so fit blocks stay fit, also as more handles are given
blocks_still : {limits : Limits} (given after slot : ℕ) (e : ExpirationEntry) (xs : List ExpirationEntry) (blocks : List BlockEntry) → given ≤ after → SlotFree limits slot xs
    → all_from 0 (is_fit_block given xs) blocks ≡ true → all_from 0 (is_fit_block after (set xs slot e)) blocks ≡ true
unfolding is_fit_block
blocks_still given after slot e xs blocks more entry =
    all_from_imp _ _
    (λ i b. or_map (not (is_used b)) (λ h.
    let (shaped, numbered) = (and-eq-true_iff (any (is_naming i) xs && is_sized_for i b.length && is_prefixed b) _).0 h in
    let (named, sized, prefixed) = and₃ (any (is_naming i) xs) _ _ shaped in
    rw (named_still slot i e xs entry named, sized, prefixed, le-leb b.handle after (omega (arith, leb-true b.handle given numbered)))))
    0 blocks

-- an entry of the figures comes into use
counted_set : (p : Tables) (slot : ℕ) (e : ExpirationEntry) → SlotFree p.limits slot p.expirations → Fit p
    → all_from 0 (is_entry_at p.limits) (set p.expirations slot e) ≡ true
counted_set p slot e entry fit =
    all_from_set (is_entry_at p.limits) p.expirations slot e (rw (lt-ltb slot p.limits.expirations entry.below, or-true)) fit.counted

-- a free entry set to a fit one
pub fit_entry_set : (p : Tables) → Fit p → (slot : ℕ) (e : ExpirationEntry) → SlotFree p.limits slot p.expirations
    → is_fit_entry p.limits p.tasks p.global p.blocks e ≡ true → is_pinned_due (due_of e) ≡ false → Fit (with_entry slot e p)
fit_entry_set p fit slot e entry new plain =
    record {
      tasks = fit.tasks;
      unticked = fit.unticked;
      entries = passes_set _ p.expirations slot e fit.entries new;
      blocks = blocks_still p.given p.given slot e p.expirations p.blocks (omega arith) entry fit.blocks;
      distinct = fit.distinct;
      once = once_set p.expirations slot e (λ pinned. absurd (false≢true (sym plain ∙ pinned))) fit.once;
      allowed = fit.allowed;
      listed = fit.listed;
      counted = counted_set p slot e entry fit;
    }

-- the new entry is fit by any blocks of which its own is used
pub entry_fits : (p : Tables) → Typed p → (kind : Kind) (task extension place : ℕ) → MaySet task extension p
    → (blocks : List BlockEntry) → is_used (get_or blocks place free_block) ≡ true
    → is_fit_entry p.limits p.tasks p.global blocks (entry_for kind task extension place p) ≡ true
unfolding entry_for due_by is_fit_due
entry_fits p types Local task extension place may blocks used =
    rw (
      local_due task _ may.known,
      used,
      lt-ltb task task_count may.known,
      may.present,
      units_set _ (extension + 1) (clock_range p types task) (omega (arith, may.most)),
      le-leb 1 (extension + 1) (omega arith),
      le-leb (extension + 1) (p.limits.extension + 1) (omega (arith, may.short)),
    )
entry_fits p types Global task extension place may blocks used =
    rw (
      global_due task _ may.known,
      used,
      may.present,
      or-true,
      units_set p.global.0 (extension + 2) types.global (omega (arith, may.most)),
      le-leb 1 (extension + 2) (omega arith),
      le-leb (extension + 2) (p.limits.extension + 2) (omega (arith, may.short)),
    )
entry_fits p types Pinned task extension place may blocks used = rw used

-- it is pinned by its kind alone
entry_pinned : (kind : Kind) (task extension place : ℕ) (p : Tables) → task < task_count
    → is_pinned_due (due_of (entry_for kind task extension place p)) ≡ is_pinning kind
unfolding entry_for due_by
entry_pinned Local task extension place p known = rw (local_due task _ known)
entry_pinned Global task extension place p known = rw (global_due task _ known)
entry_pinned Pinned task extension place p known = refl

-- and names its block
entry_names : (kind : Kind) (task extension place : ℕ) (p : Tables) → task < task_count → is_naming place (entry_for kind task extension place p) ≡ true
unfolding entry_for due_by
entry_names Local task extension place p known = rw (local_due task _ known) (eq-eqb place place refl)
entry_names Global task extension place p known = rw (global_due task _ known) (eq-eqb place place refl)
entry_names Pinned task extension place p known = eq-eqb place place refl

entry_place : (kind : Kind) (task extension place : ℕ) (p : Tables) → (entry_for kind task extension place p).block ≡ place
unfolding entry_for
entry_place Local task extension place p = refl
entry_place Global task extension place p = refl
entry_place Pinned task extension place p = refl

-- a refresh of the object in a block
pub fit_refreshed : (p : Tables) → Fit p → Typed p → (kind : Kind) (task extension place slot : ℕ) → MaySet task extension p
    → SlotFree p.limits slot p.expirations → is_used (get_or p.blocks place free_block) ≡ true
    → is_pinning kind ≡ false → Fit (with_entry slot (entry_for kind task extension place p) p)
fit_refreshed p fit types kind task extension place slot may entry used plain =
    fit_entry_set p fit slot _ entry (entry_fits p types kind task extension place may p.blocks used)
    (entry_pinned kind task extension place p may.known ∙ plain)

-- the next handle is new
next_new : (p : Tables) → Fit p → any (eqb (p.given + 1)) (map handle_of p.blocks) ≡ false
next_new p fit =
    any_map _ handle_of p.blocks
    ∙ All→none _ p.blocks (all_imp (λ b h. ne_eqb (p.given + 1) b.handle (λ e. omega arith)) p.blocks (blocks_given p fit))

-- handles stay distinct when a new one is set
distinct_set : (hs : List ℕ) (i h : ℕ) → any (eqb h) hs ≡ false → is_distinct hs ≡ true → is_distinct (set hs i h) ≡ true
distinct_set [] i h new e = refl
distinct_set (g ∷ hs) zero h new e =
    rw ((or_false_parts (eqb h g) _ new).1, or-true) ((and-eq-true_iff (eqb g 0 || not (any (eqb g) hs)) _).0 e).1
distinct_set (g ∷ hs) (suc i) h new e =
    let (other, others) = or_false_parts (eqb h g) _ new in
    let (head, tail) = (and-eq-true_iff (eqb g 0 || not (any (eqb g) hs)) _).0 e in
    let apart = ne_eqb g h (λ q. eqb-false h g other (sym q)) in
    rw (or_map (eqb g 0) (λ old. ap not (none_set (eqb g) hs i h apart (not-true _ old))) head) (distinct_set hs i h others tail)

-- the size of a new object is of its store's range
new_sized : (place size : ℕ) (limits : Limits) (blocks : List BlockEntry) → PlaceFree limits place size blocks → is_sized_for place size ≡ true
new_sized place size limits blocks block =
    by_test (is_small size)
    (λ s. rw (block.store, s, le-leb 1 size block.least))
    (λ s. rw (block.store, s, le-leb size large_size block.most, le-leb (small_size + 1) size (omega (arith, leb-false size small_size s))))

-- A make
module _ (p : Tables) (fit : Fit p) (types : Typed p) (kind : Kind) (task extension size prefix place slot : ℕ)
    (may : MaySet task extension p) (short : prefix ≤ size) (block : PlaceFree p.limits place size p.blocks) (entry : SlotFree p.limits slot p.expirations) where
  -- older entries are fit by the new blocks
  entries_still : all (is_fit_entry p.limits p.tasks p.global (with_object task place size prefix p).blocks) p.expirations ≡ true
  entries_still =
      passes_imp
      (λ e h.
      let stays = block_stays p.limits p.tasks p.global p.blocks place (new_block task p.given size prefix) block.free e h in
      used_fits p.limits _ p.global _ _ (due_of e) (λ dated. ap is_used (stays dated)) h)
      p.expirations fit.entries

  new_used : is_used (get_or (with_object task place size prefix p).blocks place free_block) ≡ true
  new_used =
      rw (get_or-set_same p.blocks place (new_block task p.given size prefix) free_block block.listed, ne_eqb (p.given + 1) 0 (λ z. omega arith))

  -- the new block is named by the new entry
  block_fits : is_fit_block (p.given + 1) (set p.expirations slot (entry_for kind task extension place p)) place (new_block task p.given size prefix) ≡ true
  unfolding is_fit_block
  block_fits =
      rw (
        any_set_new (is_naming place) p.expirations slot _ entry.listed (entry_names kind task extension place p may.known),
        new_sized place size p.limits p.blocks block,
        le-leb prefix size short,
        le-leb (p.given + 1) (p.given + 1) (omega arith),
        or-true,
      )

  pub fit_made : Fit (with_entry slot (entry_for kind task extension place p) (with_object task place size prefix p))
  fit_made =
      record {
        tasks = fit.tasks;
        unticked = fit.unticked;
        entries = passes_set _ p.expirations slot _ entries_still (entry_fits p types kind task extension place may (with_object task place size prefix p).blocks new_used);
        blocks =
            all_from_set _ p.blocks place _ block_fits
            (blocks_still p.given (p.given + 1) slot _ p.expirations p.blocks (omega arith) entry fit.blocks);
        distinct = rw map_set (distinct_set (map handle_of p.blocks) place (p.given + 1) (next_new p fit) fit.distinct);
        once =
            once_set p.expirations slot _
            (λ pinned. rw (entry_place kind task extension place p)
            (none_pinned p.limits p.tasks p.global p.blocks p.expirations place (rw block.free) fit.entries))
            fit.once;
        allowed = fit.allowed;
        listed = all_from_set (is_block_at p.limits) p.blocks place (new_block task p.given size prefix) (rw (block.its, or-true)) fit.listed;
        counted = counted_set p slot _ entry fit;
      }
