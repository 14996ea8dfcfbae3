-- What an accepted verdict shows, by the tests that passed: the task may set an expiration, and the block and the entry that are chosen are
-- free; or the object stands, its block's bytes add up to their sum, and a write lies within it.
use Prim.Native.Nat.{ℕ, ◌+◌, ◌≤◌, ◌<◌}
use native.Mathlib.Nat.{zero-add, le_trans}
use native.Mathlib.Omega.{arith}
use mathlib.Core.Bool.{Bool, true, false, not, ◌||◌}
use mathlib.Core.List.{List, []}
use mathlib.Core.Path.{◌≡◌, refl, sym, ◌∙◌}
use borrow.Author.Tests.{not-true, not-false, leb-false, ltb-false, eqb-true, eqb-false, lt-ltb, le-ltb, lt-leb}
use lib.Dec.{eqb, leb, ltb}
use lib.ListN.{length, get_or, take, drop, length-take, length-drop}
use lib.Seq.{get_or-take, get_or-drop}
use Rattle.lists.specs.Tables.{first_from}
use Rattle.lists.proofs.Cases.{by_test, or_false_parts}
use Rattle.lists.proofs.First.{first_at, first_full, count_before, first_before}
use Rattle.lists.proofs.Tables.{all_from_at}
use Rattle.ledger.specs.Limits.{capacity, task_count, large_size, last_handle, is_small}
use Rattle.ledger.proofs.Figures.{allowed}
use Rattle.ledger.proofs.Passed.{AllPassed, passed, accepted_none}
use Rattle.ledger.specs.Tasks.{is_absent}
use Rattle.ledger.specs.Refusals.{most_extension, is_pinning, Test}
use Rattle.ledger.specs.Rules.{tests_of}
use Rattle.ledger.specs.declared.Call.TheVariants.{Make, Refresh, Read, Write, Release}
use Rattle.ledger.specs.declared.Kind.{Kind}
use Rattle.ledger.specs.declared.Kind.TheVariants.{Local, Global, Pinned}
use Rattle.ledger.specs.declared.Limits.{Limits}
use Rattle.stores.specs.Places.{sum_at}
use Rattle.record.specs.Codes.{free_block, free_entry}
use Rattle.record.specs.Reading.{is_small_block, Typed}
use Rattle.record.specs.Shares.{is_limited}
use Rattle.record.specs.WellFormed.{is_block, is_entry_at}
use Rattle.record.proofs.Facts.{Fit}
use Rattle.record.specs.Tables.{BlockEntry, Tables, block_entries}
use Rattle.steps.specs.Facts.{is_here, is_filled, is_summed, facts_with, task_tests, handle_tests, verdict_with, verdict_by}
use Rattle.steps.specs.Objects.{place_of, block_of, is_free_block, end_for, free_place, is_free_entry, standing_in, free_slot, state_in}
use Rattle.steps.proofs.Rooms.{room_left}
use Rattle.steps.proofs.Taken.{MaySet, SlotFree, PlaceFree}
use Rattle.std.specs.Prelude.{Ok}

-- every test by which a verdict accepts has passed
pub all_passed : (small large : List ℕ) (tests : List Test) (p : Tables) → verdict_with small large tests p ≡ Ok tt
    → AllPassed (facts_with small large p) tests
unfolding verdict_with
all_passed small large tests p v = passed (facts_with small large p) tests (accepted_none _ v)

-- no kind has more than the largest extension
most_within : (limits : Limits) (kind : Kind) → most_extension limits kind ≤ limits.extension
most_within limits Local = omega arith
most_within limits Global = omega arith
most_within limits Pinned = omega arith

pub may_set : (task : ℕ) (kind : Kind) (extension : ℕ) (p : Tables) → Fit p → leb task_count task ≡ false
    → is_absent (state_in p.tasks task) ≡ false
    → ltb (most_extension p.limits kind) extension ≡ false → MaySet task extension p
may_set task kind extension p fit known present within =
    let short = le_trans (ltb-false (most_extension p.limits kind) extension within) (most_within p.limits kind) in
    record {
      known = leb-false task_count task known;
      present = present;
      short = short;
      most = le_trans short (allowed p.limits fit.allowed).most_extension_lem;
    }

or_false_left : (a : Bool) {b : Bool} → b ≡ false → (a || b) ≡ true → a ≡ true
or_false_left true e h = refl
or_false_left false e h = sym e ∙ h

-- the first free entry, where there is one
pub slot_free : (p : Tables) → Fit p → Typed p → standing_in p.expirations < p.limits.expirations
    → SlotFree p.limits (free_slot p.expirations) p.expirations
slot_free p fit types few =
    let xs = p.expirations in
    let n = p.limits.expirations in
    let fits : n ≤ length xs = omega (arith, types.expirations, (allowed p.limits fit.allowed).most_expirations) in
    let past : (k : ℕ) → n ≤ k → is_free_entry (get_or xs k free_entry) ≡ true = λ k h. or_false_left (eqb (get_or xs k free_entry).clock 0) (le-ltb k n h) (all_from_at (is_entry_at p.limits) free_entry (λ i. refl) xs fit.counted k) in
    let below = first_before is_free_entry n xs fits (omega (arith, few, count_before is_free_entry free_entry n xs past)) in
    let room : standing_in xs < length xs = omega (arith, few, fits) in
    let full : leb (0 + length xs) (free_slot xs) ≡ false = sym (first_full is_free_entry 0 xs) ∙ lt-leb (length xs) (standing_in xs) room in
    let (k, listed, at, free) = first_at is_free_entry free_entry 0 xs full in
    let place : free_slot xs ≡ k = omega (arith, at) in
    rw place (record { listed = listed; free = eqb-true _ 0 free; below = omega (arith, place, below) })

-- the first free block of a size's store, where there is one
module _ (p : Tables) (fit : Fit p) (types : Typed p) (size : ℕ) (range : (eqb size 0 || ltb large_size size) ≡ false) where
  place_at : (place : ℕ) → place < block_entries → is_free_block (get_or p.blocks place free_block) ≡ true → is_small_block place ≡ is_small size → is_block p.limits place ≡ true
      → PlaceFree p.limits place size p.blocks
  place_at place listed free store its =
      let (least, most) = or_false_parts (eqb size 0) (ltb large_size size) range in
      record {
        listed = omega (arith, types.blocks);
        free = eqb-true _ 0 free;
        store = store;
        its = its;
        least = omega (arith, eqb-false size 0 least);
        most = ltb-false large_size size most;
      }

  place_free : leb (end_for p.limits size) (free_place p.limits size p.blocks) ≡ false
      → PlaceFree p.limits (free_place p.limits size p.blocks) size p.blocks
  unfolding free_place
  place_free room =
      let may = allowed p.limits fit.allowed in
      by_test (is_small size)
      (λ s.
      let n = p.limits.small in
      let part = take n p.blocks in
      let count : length part ≡ n = simp length-take (omega (arith, types.blocks, may.most_small)) in
      let full : leb (0 + length part) (first_from 0 is_free_block part) ≡ false = rw (zero-add, count) (rw s at room) in
      let (k, listed, at, free) = first_at is_free_block free_block 0 part full in
      let below : k < n = omega (arith, count) in
      let small = lt-ltb k capacity.small (omega (arith, may.most_small)) in
      let here : first_from 0 is_free_block part ≡ k = omega (arith, at) in
      rw (s, here)
      (place_at k (omega (arith, may.most_small)) (rw (get_or-take n p.blocks k free_block below) at free) (small ∙ sym s) (rw small (lt-ltb k n below))))
      (λ s.
      let n = capacity.small in
      let end = n + p.limits.large in
      let part = drop n (take end p.blocks) in
      let count : n + length part ≡ end = simp (length-drop, length-take) (omega (arith, types.blocks, may.most_large)) in
      let full : leb (n + length part) (first_from n is_free_block part) ≡ false = rw count (rw s at room) in
      let (k, listed, at, free) = first_at is_free_block free_block n part full in
      let below : n + k < end = omega (arith, count) in
      let large = le-ltb (n + k) n (omega arith) in
      rw (s, at)
      (place_at (n + k) (omega (arith, may.most_large)) (rw (get_or-drop n (take end p.blocks) k free_block, get_or-take end p.blocks (n + k) free_block below) at free)
      (large ∙ sym s) (rw large (lt-ltb (n + k) end below))))

-- what a make that is accepted takes
pub record Taken (task extension size prefix : ℕ) (p : Tables) : Type 0 where
  pub may : MaySet task extension p
  pub prefixed : prefix ≤ size
  pub unspent : p.given < last_handle
  pub limited : is_limited (is_small size) p.shares p.blocks task ≡ false
  pub filled : is_filled (is_small size) p.limits p.shares p.blocks task ≡ false
  pub block : PlaceFree p.limits (free_place p.limits size p.blocks) size p.blocks
  pub room : standing_in p.expirations < p.limits.expirations
  pub entry : SlotFree p.limits (free_slot p.expirations) p.expirations

pub make_takes : (task : ℕ) (kind : Kind) (extension size prefix : ℕ) (p : Tables) → Fit p → Typed p
    → verdict_by (tests_of (Make task kind extension size prefix) []) p ≡ Ok tt → Taken task extension size prefix p
unfolding tests_of
make_takes task kind extension size prefix p fit types v =
    let (
      known,
      (
        present,
        (
          active,
          (acts, (within, (ranged, (prefixed, (unspent, (limited, (filled, (room, end)))))))),
        ),
      ),
    ) = all_passed [] [] _ p v in
    let few = leb-false p.limits.expirations (standing_in p.expirations) room in
    record {
      may = may_set task kind extension p fit known present within;
      prefixed = ltb-false size prefix prefixed;
      unspent = leb-false last_handle p.given unspent;
      limited = limited;
      filled = filled;
      block = place_free p fit types size ranged (room_left p fit types task size filled);
      room = few;
      entry = slot_free p fit types few;
    }

-- what a refresh that is accepted has: an object that stands, and a free entry
pub record Renewed (task : ℕ) (kind : Kind) (extension handle : ℕ) (p : Tables) : Type 0 where
  pub may : MaySet task extension p
  pub plain : is_pinning kind ≡ false
  pub here : is_here p.blocks handle ≡ true
  pub room : standing_in p.expirations < p.limits.expirations
  pub entry : SlotFree p.limits (free_slot p.expirations) p.expirations

pub refresh_takes : (task : ℕ) (kind : Kind) (extension handle : ℕ) (p : Tables) → Fit p → Typed p
    → verdict_by (tests_of (Refresh task kind extension handle) []) p ≡ Ok tt → Renewed task kind extension handle p
unfolding tests_of
refresh_takes task kind extension handle p fit types v =
    let (known, (present, (active, (acts, (plain, (within, (given, (gone, (room, end))))))))) = all_passed [] [] _ p v in
    let few = leb-false p.limits.expirations (standing_in p.expirations) room in
    record {
      may = may_set task kind extension p fit known present within;
      plain = plain;
      here = not-false _ gone;
      room = few;
      entry = slot_free p fit types few;
    }

-- an object that has a block: its handle is not 0, and its place is that of an entry
pub here_found : (handle : ℕ) (blocks : List BlockEntry) → is_here blocks handle ≡ true
    → (eqb handle 0 ≡ false) × (leb block_entries (place_of handle blocks) ≡ false)
here_found handle blocks h = or_false_parts (eqb handle 0) _ (not-true _ h)

pub here_listed : (handle : ℕ) (blocks : List BlockEntry) → is_here blocks handle ≡ true → place_of handle blocks < block_entries
here_listed handle blocks h = leb-false _ _ (here_found handle blocks h).1

-- what is asked of a task and an object before any other test: who asks is one of the tasks, and the object has a block
pub record Known (task handle : ℕ) (p : Tables) : Type 0 where
  pub known : task < task_count
  pub here : is_here p.blocks handle ≡ true

pub using_known : (acts : Bool) (task handle : ℕ) (p : Tables) → verdict_by (task_tests acts task (handle_tests handle)) p ≡ Ok tt
    → Known task handle p
using_known true task handle p v =
    let (known, (present, (active, (acts, (given, (gone, end)))))) = all_passed [] [] (task_tests true task (handle_tests handle)) p v in
    record { known = leb-false task_count task known; here = not-false _ gone }
using_known false task handle p v =
    let (known, (present, (active, (given, (gone, end))))) = all_passed [] [] (task_tests false task (handle_tests handle)) p v in
    record { known = leb-false task_count task known; here = not-false _ gone }

pub release_known : (task handle : ℕ) (p : Tables) → verdict_by (tests_of (Release task handle) []) p ≡ Ok tt → Known task handle p
unfolding tests_of
release_known task handle p v =
    let (known, (present, (active, (acts, (given, (gone, (pinned, end))))))) = all_passed [] [] _ p v in
    record { known = leb-false task_count task known; here = not-false _ gone }

-- a read that is accepted, and a write, is one of a task that there is, and finds the object in a block whose bytes add up to the sum in
-- its entry
pub record Intact (task handle : ℕ) (small large : List ℕ) (p : Tables) : Type 0 where
  pub known : task < task_count
  pub here : is_here p.blocks handle ≡ true
  pub summed : sum_at small large (place_of handle p.blocks) ≡ (block_of handle p.blocks).sum

intact : (task handle : ℕ) (small large : List ℕ) (p : Tables) → leb task_count task ≡ false → not (is_here p.blocks handle) ≡ false
    → not (is_summed small large p.blocks handle) ≡ false → Intact task handle small large p
intact task handle small large p known gone differs =
    record { known = leb-false task_count task known; here = not-false _ gone; summed = eqb-true _ _ (not-false _ (rw gone at differs)) }

pub read_intact : (task handle : ℕ) (small large : List ℕ) (p : Tables) → verdict_with small large (tests_of (Read task handle) []) p
    ≡ Ok tt
    → Intact task handle small large p
unfolding tests_of
read_intact task handle small large p v =
    let (
      known,
      (
        present,
        (
          active,
          (given, (gone, (differs, end))),
        ),
      ),
    ) = all_passed small large _ p v in intact task handle small large p known gone differs

-- a write as many bytes as it asks for
pub write_intact : (task handle offset : ℕ) (new small large : List ℕ) (p : Tables)
    → verdict_with small large (tests_of (Write task handle offset) new) p ≡ Ok tt
    → Intact task handle small large p × (offset + length new ≤ (block_of handle p.blocks).length)
unfolding tests_of
write_intact task handle offset new small large p v =
    let (known, (present, (active, (acts, (given, (gone, (differs, (outside, end)))))))) = all_passed small large _ p v in
    (intact task handle small large p known gone differs, ltb-false _ _ (rw (not-false (is_here p.blocks handle) gone) at outside))
