-- A handle finds its block in the record just where its object stands in the ledger, and the block has what the object has.
use Prim.Native.Nat.{ℕ, ◌≤◌, ◌<◌}
use native.Mathlib.Nat.{zero-add}
use native.Mathlib.Omega.{arith}
use mathlib.Core.Bool.{Bool, true, false, false≢true, not, and-eq-true_iff, or-false}
use mathlib.Core.List.{List, [], ◌∷◌}
use mathlib.Core.Logic.{◌≢◌}
use mathlib.Core.Path.{◌≡◌, refl, sym, ap, ◌∙◌}
use borrow.Author.Tests.{eqb-true, eqb-false, eq-eqb, ne_eqb}
use lib.Dec.{eqb, leb}
use lib.ListN.{length, get_or}
use Rattle.lists.specs.Tests.{any, All}
use Rattle.lists.proofs.Cases.{by_test, same_test}
use Rattle.lists.specs.Tables.{read_from}
use Rattle.lists.proofs.All.{map_all, all_map}
use Rattle.lists.proofs.Counts.{any_map, any_at, any_shows}
use Rattle.lists.proofs.Filters.{filter_all}
use Rattle.lists.proofs.First.{first_none, first_within, first_passes}
use Rattle.lists.proofs.Permutations.{all_perm, any_perm}
use Rattle.lists.proofs.Tables.{all_places, any_read_from}
use Rattle.ledger.specs.Objects.{Object, object_at, stands, standing}
use Rattle.ledger.specs.Compared.{shown_object, view_of}
use Rattle.ledger.specs.Ledger.{Ledger}
use Rattle.ledger.specs.declared.Limits.{Limits}
use Rattle.record.specs.Codes.{due_of, is_dated, free_block}
use Rattle.record.specs.Reading.{is_whole, block_bytes, size_of, object_in, record_view, Typed, Reads}
use Rattle.record.specs.WellFormed.{is_used}
use Rattle.record.specs.Tables.{BlockEntry, Tables, block_entries}
use Rattle.record.proofs.Facts.{Fit, FitUsed, fit_used}
use Rattle.record.proofs.Distinct.{handle_at, same_handle}
use Rattle.steps.proofs.ReadObjects.{shown_stands, named_stands}
use Rattle.steps.specs.Objects.{is_block_of, place_of, block_of, is_free_block}

-- the object in a block, if that is in use
abbrev pub object_of : List ℕ → List ℕ → List BlockEntry → ℕ → Object
object_of small large blocks i =
    let b = get_or blocks i free_block in
    record { handle = b.handle; size = b.length; bytes = block_bytes small large i (size_of i); sum = b.sum; maker = b.maker; prefix = b.prefix }

abbrev is_object_of : ℕ → Object → Bool
is_object_of handle o = eqb o.handle handle

-- what holds of every object with a handle holds of the one that is found by it
at_handle : (P : Object → Type 0) (handle : ℕ) (os : List Object) → any (is_object_of handle) os ≡ true
    → All (λ (o : Object). is_object_of handle o ≡ true → P o) os → P (object_at handle os)
unfolding object_at
at_handle P handle [] e h = absurd (false≢true e)
at_handle P handle (o ∷ os) e (h, hs) = by_test (is_object_of handle o) (λ d. rw d (h d)) (λ d. rw d (at_handle P handle os (rw d at e) hs))

-- Where a handle is found: the block of the object, with its size and its sum, and with its bytes.
pub record Found (limits : Limits) (small large : List ℕ) (blocks : List BlockEntry) (handle : ℕ) (o : Object) : Type 0 where
  pub within : place_of handle blocks < length blocks
  pub its : (block_of handle blocks).handle ≡ handle
  pub used : is_used (block_of handle blocks) ≡ true
  pub size : o.size ≡ (block_of handle blocks).length
  pub sum : o.sum ≡ (block_of handle blocks).sum
  pub prefix : o.prefix ≡ (block_of handle blocks).prefix
  pub bytes : is_whole limits small large (block_of handle blocks).length ≡ true
      → o.bytes ≡ block_bytes small large (place_of handle blocks) (size_of (place_of handle blocks))

-- what a block in use shows of its object
pub each_used : {p : Tables} → Fit p → (small large : List ℕ) (P : Object → Type 0) (i : ℕ)
    → (FitUsed p i → P (object_of small large p.blocks i)) → All P (object_in small large i (get_or p.blocks i free_block))
unfolding object_in
each_used {p} fit small large P i shows =
    by_test (is_free_block (get_or p.blocks i free_block)) (λ z. rw z tt) (λ z. rw z (shows (fit_used fit i z), tt))

module _ {p : Tables} {small large : List ℕ} {L : Ledger} (fit : Fit p) (reads : Reads p small large L) where
  -- what all blocks in use show holds of the ledger's objects as they are shown
  each_object : (P : Object → Type 0) → ((i : ℕ) → FitUsed p i → P (shown_object (is_whole p.limits small large) (object_of small large p.blocks i)))
      → All (λ (o : Object). P (shown_object (is_whole p.limits small large) o)) L.memory.objects
  unfolding record_view view_of
  each_object P shows =
      map_all P _ L.memory.objects
      (all_perm P reads.alike.objects
      (all_map P _ (read_from 0 (object_in small large) p.blocks)
      (all_places _ free_block (object_in small large) 0 p.blocks (λ i h. rw zero-add (each_used fit small large _ i (shows i))))))

  -- the object in a block in use stands
  used_stands : (i : ℕ) → FitUsed p i → stands L.expirations (handle_at p.blocks i) ≡ true
  unfolding record_view view_of
  used_stands i f =
      sym
      (named_stands p.tasks p.global p.blocks p.expirations fit.distinct L.memory.clocks L.expirations
      reads.alike.expirations i f.used)
      ∙ f.named

  -- so does every object, since each is in a block in use
  pub objects_stand : All (λ (o : Object). stands L.expirations o.handle ≡ true) L.memory.objects
  objects_stand = each_object (λ (o : Object). stands L.expirations o.handle ≡ true) used_stands

  pub every_object_stands : standing L.expirations L.memory.objects ≡ L.memory.objects
  every_object_stands = filter_all _ L.memory.objects objects_stand

  pub handles_given : All (λ (o : Object). (1 ≤ o.handle) × (o.handle ≤ L.memory.given)) L.memory.objects
  unfolding record_view view_of
  handles_given =
      each_object (λ (o : Object). (1 ≤ o.handle) × (o.handle ≤ L.memory.given))
      (λ i f. (omega (arith, f.used), rw reads.alike.given at f.numbered))

  module _ (handle : ℕ) (nonzero : eqb handle 0 ≡ false) where
    -- no free block has this handle
    free_fails : eqb 0 handle ≡ false
    free_fails = ne_eqb 0 handle (λ e. eqb-false handle 0 nonzero (sym e))

    -- the block at its place has it, where some block has
    its_handle : any (is_block_of handle) p.blocks ≡ true → handle_at p.blocks (place_of handle p.blocks) ≡ handle
    its_handle some = eqb-true _ handle (first_passes (is_block_of handle) free_block p.blocks some)

    -- some block has it just where its object stands
    block_stands : any (is_block_of handle) p.blocks ≡ stands L.expirations handle
    unfolding record_view view_of
    block_stands =
        let place = place_of handle p.blocks in
        same_test _ _ (λ some. rw (its_handle some) at (used_stands place (fit_used fit place (rw (its_handle some) nonzero))))
        (λ s.
        any_shows _
        (λ e d. any_at (is_block_of handle) free_block free_fails p.blocks e.block ((and-eq-true_iff (is_dated (due_of e)) _).0 d).1)
        p.expirations
        (shown_stands p.tasks p.global p.blocks p.expirations fit.distinct L.memory.clocks L.expirations
        reads.alike.expirations handle
        ∙ s))

    -- and just where there is an object with it
    object_held : any (is_object_of handle) L.memory.objects ≡ any (is_block_of handle) p.blocks
    unfolding record_view view_of object_in
    object_held =
        sym (any_map (is_object_of handle) (shown_object (is_whole p.limits small large)) L.memory.objects)
        ∙ sym (any_perm (is_object_of handle) reads.alike.objects)
        ∙ any_map (is_object_of handle) (shown_object (is_whole p.limits small large)) (read_from 0 (object_in small large) p.blocks)
        ∙ any_read_from _ (is_block_of handle) (object_in small large)
        (λ i b. by_test (is_free_block b) (λ z. rw (z, eqb-true b.handle 0 z, free_fails)) (λ z. rw z (or-false _))) 0 p.blocks

    -- that object is the one in the block, as far as it is shown
    object_found : any (is_block_of handle) p.blocks ≡ true
        → shown_object (is_whole p.limits small large) (object_at handle L.memory.objects)
        ≡ shown_object (is_whole p.limits small large) (object_of small large p.blocks (place_of handle p.blocks))
    object_found some =
        let place = place_of handle p.blocks in
        let here : ℕ → Object = λ i. shown_object (is_whole p.limits small large) (object_of small large p.blocks i) in
        let its = its_handle some in
        at_handle (λ (o : Object). shown_object (is_whole p.limits small large) o ≡ here place) handle L.memory.objects (object_held ∙ some)
        (each_object (λ (o : Object). is_object_of handle o ≡ true → o ≡ here place)
        (λ i f e.
        let same = same_handle p.blocks fit.distinct place i (rw its (eqb-false handle 0 nonzero)) in
        ap here (eqb-true i place (sym same ∙ rw its e))))

    -- the place is past the last entry just where the object is gone
    pub gone_alike : Typed p → leb block_entries (place_of handle p.blocks) ≡ not (stands L.expirations handle)
    gone_alike typed = rw (← block_stands, ← first_none (is_block_of handle) 0 p.blocks, zero-add, typed.blocks)

    pub found : stands L.expirations handle ≡ true → Found p.limits small large p.blocks handle (object_at handle L.memory.objects)
    found s =
        let some = block_stands ∙ s in
        let same = object_found some in
        record {
          within = first_within (is_block_of handle) p.blocks some;
          its = its_handle some;
          used = rw (its_handle some, nonzero);
          size = ap (λ (o : Object). o.size) same;
          prefix = ap (λ (o : Object). o.prefix) same;
          sum = ap (λ (o : Object). o.sum) same;
          bytes = λ w. rw (ap (λ (o : Object). o.size) same, w) at (ap (λ (o : Object). o.bytes) same);
        }

  -- The object of a block in use, by its handle: it is one of the ledger's,
  module _ (i : ℕ) (used : handle_at p.blocks i ≢ 0) where
    abbrev its : ℕ
    its = handle_at p.blocks i

    named : eqb its 0 ≡ false
    named = ne_eqb its 0 used

    some_block : any (is_block_of its) p.blocks ≡ true
    some_block = any_at (is_block_of its) free_block (free_fails its named) p.blocks i (eq-eqb its its refl)

    pub used_listed : any (λ (o : Object). eqb o.handle (handle_at p.blocks i)) L.memory.objects ≡ true
    used_listed = object_held its named ∙ some_block

    -- and the one in the block, as far as it is shown
    pub used_object : shown_object (is_whole p.limits small large) (object_at (handle_at p.blocks i) L.memory.objects)
        ≡ shown_object (is_whole p.limits small large) (object_of small large p.blocks i)
    used_object =
        let place = place_of its p.blocks in
        let same = same_handle p.blocks fit.distinct i place used in
        object_found its named some_block
        ∙ ap (λ (j : ℕ). shown_object (is_whole p.limits small large) (object_of small large p.blocks j)) (eqb-true place i (sym same ∙ eq-eqb _ its (its_handle its named some_block)))
