-- Make and refresh do the same to the ledger that a well-formed record reads as, whichever free block and free entry they take.
use Prim.Native.Nat.{ℕ, ◌+◌, ◌-◌, ◌<◌}
use native.Mathlib.Omega.{arith}
use mathlib.Core.Bool.{true, false}
use mathlib.Core.List.{List, [], ◌∷◌, ◌++◌, map, map-append, Permᴰ}
use mathlib.Core.Path.{◌≡◌, refl, ap, fun_ext, ◌∙◌}
use borrow.Author.Tests.{eqb-false, eq-eqb, ne_eqb}
use lib.Dec.{eqb}
use lib.ListN.{get_or, set}
use lib.Seq.{get_or-set_same}
use Rattle.lists.specs.Tests.{All}
use Rattle.lists.specs.Tables.{read_by, read_from}
use Rattle.lists.proofs.Cases.{by_test, or_right}
use Rattle.lists.proofs.All.{all_imp, all_left, all_true}
use Rattle.lists.proofs.Filters.{filter_append, filter_all}
use Rattle.lists.proofs.Pairwise.{pairwise_append}
use Rattle.lists.proofs.Permutations.{last_perm, map_perm, read_by_set, read_from_set}
use Rattle.lists.proofs.Tables.{read_by_same, read_from_same}
use Rattle.ledger.specs.Limits.{is_small, block_size}
use Rattle.ledger.specs.Tasks.{Clocks, task_at}
use Rattle.ledger.specs.Expirations.{Expiration, is_of, due_after, remaining}
use Rattle.ledger.specs.Objects.{Object, zeroed, stands, standing}
use Rattle.ledger.specs.Rules.{memory_after, expirations_after}
use Rattle.ledger.specs.Ledger.{Ledger, settled}
use Rattle.ledger.specs.Compared.{left_of, shown, shown_object, view_of}
use Rattle.ledger.specs.Refusals.{is_pinning}
use Rattle.ledger.specs.declared.Kind.{Kind}
use Rattle.ledger.proofs.KeptPins.{pins_carried}
use Rattle.ledger.specs.declared.Kind.TheVariants.{Local, Global, Pinned}
use Rattle.ledger.specs.declared.Call.TheVariants.{Make, Refresh}
use Rattle.record.specs.Codes.{due_by, due_of, free_block, free_entry}
use Rattle.record.specs.Reading.{is_small_block, shown_due, shown_entry, is_whole_small, is_whole_large, is_whole, object_in, record_view, Typed, Reads, size_of}
use Rattle.record.specs.WellFormed.{handle_of}
use Rattle.record.specs.Tables.{BlockEntry, Tables}
use Rattle.record.proofs.Facts.{Fit, fit_used}
use Rattle.record.proofs.Distinct.{handle_at}
use Rattle.steps.proofs.ReadObjects.{same_shown}
use Rattle.steps.specs.Objects.{entry_for, with_entry, with_object}
use Rattle.steps.proofs.Finding.{every_object_stands, handles_given}
use Rattle.steps.proofs.StoreBytes.{BytesCleared, whole_block}
use Rattle.steps.proofs.Taken.{MaySet, SlotFree, PlaceFree, new_block, slot_due, local_due, global_due, units_set, clock_range, block_stays}

-- the object stands by these expirations
abbrev Stands : List Expiration → Object → Type 0
Stands ys o = stands ys o.handle ≡ true

-- objects that all stand do with one expiration more
pub standing_more : (y : Expiration) (ys : List Expiration) (os : List Object) → standing ys os ≡ os → standing (y ∷ ys) os ≡ os
standing_more y ys os all =
    filter_all _ os (all_imp {P = Stands ys} (λ o s. or_right (is_of o.handle y) s) os (rw all at (all_left (λ (o : Object). stands ys o.handle) os)))

-- and with its object
standing_made : (y : Expiration) (ys : List Expiration) (os : List Object) (o : Object) → is_of o.handle y ≡ true → standing ys os ≡ os
    → standing (y ∷ ys) (os ++ (o ∷ [])) ≡ os ++ (o ∷ [])
standing_made y ys os o own all = rw (filter_append, standing_more y ys os all, own)

-- the expiration that the ledger sets
abbrev new_expiration : Clocks → Kind → ℕ → ℕ → ℕ → Expiration
new_expiration clocks kind task extension handle = record { handle = handle; due = due_after clocks task kind extension }

-- the record's new entry shows what it does, by any clocks: the units that were set
entry_shown : (p : Tables) → Typed p → (kind : Kind) (task extension place : ℕ) → MaySet task extension p → (blocks : List BlockEntry) (clocks : Clocks)
    → shown_entry p.tasks p.global blocks (entry_for kind task extension place p)
    ≡ shown clocks (new_expiration clocks kind task extension (handle_at blocks place)) ∷ []
unfolding entry_for due_by shown_due due_after left_of remaining
entry_shown p types Local task extension place may blocks clocks =
    let units : (task_at clocks task).clock + extension + 1 - (task_at clocks task).clock ≡ extension + 1 = omega arith in
    rw (local_due task _ may.known, units_set _ (extension + 1) (clock_range p types task) (omega (arith, may.most)), units)
entry_shown p types Global task extension place may blocks clocks =
    let units : clocks.global + extension + 2 - clocks.global ≡ extension + 2 = omega arith in
    rw (global_due task _ may.known, units_set p.global.0 (extension + 2) types.global (omega (arith, may.most)), units)
entry_shown p types Pinned task extension place may blocks clocks = refl

-- A call that sets an expiration
module _ (p : Tables) (small large : List ℕ) (L : Ledger) (fit : Fit p) (types : Typed p) (reads : Reads p small large L)
    (kind : Kind) (task extension place slot : ℕ) (may : MaySet task extension p) (entry : SlotFree p.limits slot p.expirations) where
  -- where the older entries show by these blocks what they showed, the new one is one more
  expirations_set : (blocks : List BlockEntry) (handle : ℕ) → handle_at blocks place ≡ handle
      → read_by (shown_entry p.tasks p.global blocks) p.expirations ≡ read_by (shown_entry p.tasks p.global p.blocks) p.expirations
      → Permᴰ (read_by (shown_entry p.tasks p.global blocks) (set p.expirations slot (entry_for kind task extension place p)))
      (map (shown L.memory.clocks) (new_expiration L.memory.clocks kind task extension handle ∷ L.expirations))
  unfolding record_view view_of shown_due
  expirations_set blocks handle named same =
      let shows = shown_entry p.tasks p.global blocks in
      let new = entry_for kind task extension place p in
      let front = read_by_set free_entry shows p.expirations slot new entry.listed (rw (slot_due slot p.expirations entry)) in
      Permᴰ.trans (rw (entry_shown p types kind task extension place may blocks L.memory.clocks, named, same) at front)
      (Permᴰ.cons refl reads.alike.expirations)

  -- a refresh of the object in a block
  pub refreshed_reads : (handle : ℕ) → handle_at p.blocks place ≡ handle → is_pinning kind ≡ false
      → (let call = Refresh task kind extension handle in
      Reads (with_entry slot (entry_for kind task extension place p) p) small large
      (settled (memory_after call [] L.memory) (expirations_after call [] L.memory L.expirations)))
  unfolding record_view view_of memory_after expirations_after
  refreshed_reads handle named plain =
      let y = new_expiration L.memory.clocks kind task extension handle in
      let all = standing_more y L.expirations L.memory.objects (every_object_stands fit reads) in
      record {
        alike =
            record {
              limits = reads.alike.limits;
              tasks = reads.alike.tasks;
              global = reads.alike.global;
              given = reads.alike.given;
              shares = reads.alike.shares;
              objects = rw all reads.alike.objects;
              expirations = expirations_set p.blocks handle named refl;
            };
        ascending = rw all reads.ascending;
        pins = pins_carried L.memory L.expirations (Refresh task kind extension handle) [] plain reads.pins;
      }

-- a block of the store to which a size goes has the bytes that the ledger gives its object
block_size_lem : (place size : ℕ) → is_small_block place ≡ is_small size → size_of place ≡ block_size size
unfolding size_of
block_size_lem place size store = rw store

-- A make
module _ (p : Tables) (small large small' large' : List ℕ) (L : Ledger) (fit : Fit p) (types : Typed p) (reads : Reads p small large L)
    (kind : Kind) (task extension size prefix place slot : ℕ) (may : MaySet task extension p) (block : PlaceFree p.limits place size p.blocks)
    (entry : SlotFree p.limits slot p.expirations) (small_whole_lem : is_whole_small p.limits small ≡ true) (large_whole_lem : is_whole_large p.limits large ≡ true)
    (cleared : BytesCleared small large small' large' place) where
  -- the older entries show what they showed: those in use name blocks that were in use
  expirations_stay : read_by (shown_entry p.tasks p.global (with_object task place size prefix p).blocks) p.expirations
      ≡ read_by (shown_entry p.tasks p.global p.blocks) p.expirations
  expirations_stay =
      read_by_same _ _ p.expirations
      (all_imp
      (λ e h.
      let stays = block_stays p.limits p.tasks p.global p.blocks place (new_block task p.given size prefix) block.free e h in
      same_shown p.tasks p.global _ _ (due_of e) (λ dated. ap handle_of (stays dated)))
      p.expirations (all_true _ p.expirations fit.entries))

  -- the older blocks have the objects that they had
  object_stays : (i : ℕ) → object_in small' large' i (get_or p.blocks i free_block) ≡ object_in small large i (get_or p.blocks i free_block)
  unfolding object_in
  object_stays i =
      let b = get_or p.blocks i free_block in
      by_test (eqb b.handle 0)
      (λ z. rw z)
      (λ z.
      let part = whole_block p.limits fit.allowed small large small_whole_lem large_whole_lem i (fit_used fit i z).listed in
      rw (z, cleared.others i (λ at. eqb-false b.handle 0 z (rw at block.free)) (size_of i) part))

  -- the new one has zeros
  object_shown : object_in small' large' place (new_block task p.given size prefix) ≡ zeroed task (L.memory.given + 1) size prefix ∷ []
  unfolding object_in record_view view_of
  object_shown = rw (ne_eqb (p.given + 1) 0 (λ z. omega arith), cleared.zeros (size_of place) (omega arith), block_size_lem place size block.store, reads.alike.given)

  -- the record's blocks have it in some place, the ledger at the end
  objects_set : Permᴰ (map (shown_object (is_whole p.limits small large)) (read_from 0 (object_in small' large') (with_object task place size prefix p).blocks))
      (map (shown_object (is_whole p.limits small large)) (L.memory.objects ++ (zeroed task (L.memory.given + 1) size prefix ∷ [])))
  unfolding record_view view_of object_in
  objects_set =
      let front = read_from_set free_block (object_in small' large') p.blocks place (new_block task p.given size prefix) block.listed (rw block.free) in
      rw map-append
      (Permᴰ.trans (map_perm (shown_object (is_whole p.limits small large)) (rw (object_shown, read_from_same free_block _ (object_in small large) p.blocks object_stays) at front))
      (Permᴰ.trans (Permᴰ.cons refl reads.alike.objects) (last_perm _ _)))

  -- its handle is above all others of the ledger
  handles_below : All (λ (o : Object). o.handle < L.memory.given + 1) L.memory.objects
  handles_below = all_imp (λ o h. omega arith) L.memory.objects (handles_given fit reads)

  same_whole : is_whole p.limits small' large' ≡ is_whole p.limits small large
  same_whole = fun_ext (λ n. rw (cleared.small_size_lem, cleared.large_size_lem))

  pub made_reads : (let call = Make task kind extension size prefix in
      Reads (with_entry slot (entry_for kind task extension place p) (with_object task place size prefix p)) small' large'
      (settled (memory_after call [] L.memory) (expirations_after call [] L.memory L.expirations)))
  unfolding record_view view_of memory_after expirations_after
  made_reads =
      let handle = L.memory.given + 1 in
      let y = new_expiration L.memory.clocks kind task extension handle in
      let old = every_object_stands fit reads in
      let all = standing_made y L.expirations L.memory.objects (zeroed task handle size prefix) (eq-eqb handle handle refl) old in
      let given = ap (λ n. n + 1) reads.alike.given in
      let named = ap handle_of (get_or-set_same p.blocks place (new_block task p.given size prefix) free_block block.listed) ∙ given in
      record {
        alike =
            record {
              limits = reads.alike.limits;
              tasks = reads.alike.tasks;
              global = reads.alike.global;
              given = given;
              shares = reads.alike.shares;
              objects = rw (all, same_whole) objects_set;
              expirations =
                  expirations_set p small large L fit types reads kind task extension place slot may entry (with_object task place size prefix p).blocks handle named
                  expirations_stay;
            };
        ascending = rw all (pairwise_append _ (zeroed task handle size prefix) L.memory.objects handles_below reads.ascending);
        pins = pins_carried L.memory L.expirations (Make task kind extension size prefix) [] tt reads.pins;
      }
