-- Every well-formed record, with any stores, reads as some ledger.
use Rattle.std.proofs.Common.{◌≡◌, ℕ, suc, ◌+◌, ◌<◌, Bool, true, ◌||◌, eqb, leb, ◌≢◌, List, [], ◌∷◌, map, sym, refl, ◌∙◌, map-id, mod-eq_of_lt, arith, eq-eqb, ne_eqb, eqb-true, leb-true}
use native.Mathlib.Nat.{add-sub_cancel_left}
use mathlib.Core.Bool.{and-eq-true_iff, and-true, and-false}
use mathlib.Core.List.Permᴰ
use mathlib.Core.List.{map-map}
use borrow.Author.Tests.{eqb-false, lt-leb}
use Rattle.lists.specs.Tests.{any, All}
use Rattle.lists.specs.Tables.{read_from}
use Rattle.lists.proofs.Cases.{by_test, cond_twice}
use Rattle.lists.proofs.All.{all_imp, all_map, map_same}
use Rattle.lists.proofs.Pairwise.{Pairwise}
use Rattle.lists.proofs.Permutations.{map_perm}
use Rattle.lists.proofs.Sorting.{sort_by, sort_perm, sort_ascending}
use Rattle.ledger.specs.Limits.{small_size, large_size, counter_range, is_small}
use Rattle.ledger.specs.Tasks.{Clocks, task_at}
use Rattle.ledger.specs.Expirations.{DueTime, by_local, by_global, pinned, Expiration, remaining, is_pin_of}
use Rattle.ledger.specs.Objects.{Object}
use Rattle.ledger.specs.Compared.{wrapped, wrapped_task, Left, local_left, global_left, pinned_left, Shown, left_of, shown_object, View, view_of, Alike}
use Rattle.ledger.specs.Kept.{PinsKept}
use Rattle.ledger.specs.Ledger.{Ledger}
use Rattle.record.specs.Codes.{task_of}
use Rattle.record.specs.Reading.{is_small_block, is_whole, object_in, record_view, Typed, Reads}
use Rattle.record.specs.WellFormed.{is_sized_for}
use Rattle.record.specs.declared.TaskEntry.{TaskEntry}
use Rattle.record.specs.Tables.{BlockEntry, Tables, tables_of}
use Rattle.record.specs.Pools.{EveryFitRecordReads}
use Rattle.record.proofs.Facts.{Fit, fit_parts}
use Rattle.record.proofs.Distinct.{Apart, apart_blocks}

-- due with these units left
due_in : Clocks → Left → DueTime
due_in clocks (local_left setter units) = by_local setter ((task_at clocks setter).clock + units)
due_in clocks (global_left setter units) = by_global setter (clocks.global + units)
due_in clocks pinned_left = pinned

left_due : (clocks : Clocks) (left : Left) → left_of clocks (due_in clocks left) ≡ left
unfolding due_in left_of remaining
left_due clocks (local_left setter units) = rw add-sub_cancel_left
left_due clocks (global_left setter units) = rw add-sub_cancel_left
left_due clocks pinned_left = refl

abbrev expiration_in : Clocks → Shown → Expiration
expiration_in clocks s = record { handle = s.handle; due = due_in clocks s.left }

-- the objects that are shown as pinned
abbrev pinned_one : ℕ → Left → List ℕ → List ℕ
pinned_one handle (local_left setter units) handles = handles
pinned_one handle (global_left setter units) handles = handles
pinned_one handle pinned_left handles = handle ∷ handles

abbrev pinned_in : List Shown → List ℕ
pinned_in [] = []
pinned_in (s ∷ ss) = pinned_one s.handle s.left (pinned_in ss)

swapped : (a b : ℕ) → eqb a b ≡ eqb b a
swapped a b = by_test (eqb b a) (λ e. rw (e, eq-eqb a b (sym (eqb-true b a e)))) (λ e. rw (e, ne_eqb a b (λ q. eqb-false b a e (sym q))))

pins_in : (clocks : Clocks) (ss : List Shown) → PinsKept (pinned_in ss) (map (expiration_in clocks) ss)
unfolding due_in
pins_in clocks [] handle = refl
pins_in clocks (s ∷ ss) handle = one s.left (pins_in clocks ss handle)
  where
    one : (left : Left) → any (eqb handle) (pinned_in ss) ≡ any (is_pin_of handle) (map (expiration_in clocks) ss)
        → any (eqb handle) (pinned_one s.handle left (pinned_in ss))
        ≡ (is_pin_of handle (record { handle = s.handle; due = due_in clocks left }) || any (is_pin_of handle) (map (expiration_in clocks) ss))
    one (local_left setter units) rest = rw and-false rest
    one (global_left setter units) rest = rw and-false rest
    one pinned_left rest = rw (and-true, swapped handle s.handle, rest)

abbrev handle_of_object : Object → ℕ
handle_of_object o = o.handle

-- a ledger that shows what a view shows
ledger_of : View → Ledger
ledger_of v =
    let clocks : Clocks = record { tasks = v.tasks; global = v.global } in
    record {
      memory = record { limits = v.limits; clocks = clocks; given = v.given; objects = sort_by handle_of_object v.objects; shares = v.shares; pinned = pinned_in v.expirations };
      expirations = map (expiration_in clocks) v.expirations;
    }

-- it does, where the view holds nothing that a ledger does not show: no counter past its range, no bytes of a store that is not whole
ledger_alike : (is_whole : ℕ → Bool) (v : View) → map wrapped_task v.tasks ≡ v.tasks → wrapped v.global ≡ v.global
    → map (shown_object is_whole) v.objects ≡ v.objects → Alike v (view_of is_whole (ledger_of v))
unfolding ledger_of view_of
ledger_alike is_whole v tasks global objects =
    record {
      limits = refl;
      tasks = sym tasks;
      global = sym global;
      given = refl;
      shares = refl;
      objects = rw objects at (map_perm (shown_object is_whole) (sort_perm handle_of_object v.objects));
      expirations = simp (map-map, left_due, map-id) (Permᴰ.refl v.expirations);
    }

-- a clock within its range shows as it is
task_shown : (e : TaskEntry) → e.clock.0 < counter_range → wrapped_task (task_of e) ≡ task_of e
task_shown e h = rw (mod-eq_of_lt h)

-- a length of its store's range says which store that is
pub sized_small : (block size : ℕ) → is_sized_for block size ≡ true → is_small size ≡ is_small_block block
sized_small block size e =
    by_test (is_small_block block)
    (λ s. rw s ((and-eq-true_iff (leb 1 size) (leb size small_size)).0 (rw s at e)).1)
    (λ s.
    let (above, _) = (and-eq-true_iff (leb (small_size + 1) size) (leb size large_size)).0 (rw s at e) in
    rw s (lt-leb size small_size (omega (arith, leb-true (small_size + 1) size above))))

module _ (small large : List ℕ) where
  -- what holds of the blocks' handles holds of the objects'
  pub handles_read : (P : ℕ → Type 0) (i : ℕ) (bs : List BlockEntry) → All (λ (b : BlockEntry). P b.handle) bs
      → All (λ (o : Object). P o.handle) (read_from i (object_in small large) bs)
  unfolding object_in
  handles_read P i [] h = tt
  handles_read P i (b ∷ bs) (h, hs) =
      by_test (eqb b.handle 0) (λ z. rw z (handles_read P (suc i) bs hs)) (λ z. rw z (h, handles_read P (suc i) bs hs))

  -- no two objects have one handle
  objects_apart : (i : ℕ) (bs : List BlockEntry) → Pairwise Apart bs
      → Pairwise (λ (o p : Object). o.handle ≢ p.handle) (read_from i (object_in small large) bs)
  unfolding object_in
  objects_apart i [] d = tt
  objects_apart i (b ∷ bs) (d, ds) =
      by_test (eqb b.handle 0)
      (λ z. rw z (objects_apart (suc i) bs ds))
      (λ z.
      let others = all_imp (λ c a. a (eqb-false b.handle 0 z)) bs d in
      rw z (handles_read (λ (h : ℕ). b.handle ≢ h) (suc i) bs others, objects_apart (suc i) bs ds))

-- what is shown shows as it is
shown_twice : (is_whole : ℕ → Bool) (os : List Object) → map (shown_object is_whole) (map (shown_object is_whole) os) ≡ map (shown_object is_whole) os
shown_twice is_whole [] = refl
shown_twice is_whole (o ∷ os) = rw (cond_twice (is_whole o.size) o.bytes [], shown_twice is_whole os)

-- and has the handles that it had
apart_shown : (is_whole : ℕ → Bool) (os : List Object) → Pairwise (λ (o p : Object). o.handle ≢ p.handle) os
    → Pairwise (λ (o p : Object). o.handle ≢ p.handle) (map (shown_object is_whole) os)
apart_shown is_whole [] d = tt
apart_shown is_whole (o ∷ os) (d, ds) = (all_map _ (shown_object is_whole) os d, apart_shown is_whole os ds)

pub fit_tables_read : (p : Tables) → Typed p → Fit p → (small large : List ℕ) → (L : Ledger) × Reads p small large L
unfolding record_view ledger_of
fit_tables_read p range fit small large =
    let v = record_view p small large in
    let tasks = map-map wrapped_task task_of p.tasks ∙ map_same _ _ p.tasks (all_imp task_shown p.tasks range.clocks) in
    let objects = shown_twice (is_whole p.limits small large) (read_from 0 (object_in small large) p.blocks) in
    let apart = apart_shown (is_whole p.limits small large) (read_from 0 (object_in small large) p.blocks) (objects_apart small large 0 p.blocks (apart_blocks p.blocks fit.distinct)) in (
      ledger_of v,
      record {
        alike = ledger_alike (is_whole p.limits small large) v tasks (mod-eq_of_lt range.global) objects;
        ascending = sort_ascending handle_of_object v.objects apart;
        pins = pins_in _ v.expirations;
      },
    )

pub every_fit_record_reads : EveryFitRecordReads
every_fit_record_reads p range e = fit_tables_read (tables_of p) range (fit_parts (tables_of p) e)
