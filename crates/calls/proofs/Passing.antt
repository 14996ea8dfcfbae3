-- What an event ends by the time that it leaves is what it ends in the record: an expiration of a well-formed record is ahead while its
-- clock stands still.
use Rattle.tasks.specs.declared.Ending.{Ending}
use Prim.Native.Nat.{ℕ, ◌≤◌, ◌<◌}
use native.Mathlib.Omega.{arith}
use mathlib.Core.Bool.{Bool, true, false, cond, not, ◌&&◌, ◌||◌}
use mathlib.Core.List.{List, map, map-id, map-map}
use mathlib.Core.Logic.{◌≢◌}
use mathlib.Core.Path.{◌≡◌, refl, sym, ap, subst, ◌∙◌}
use borrow.Author.Tests.{eqb-true, eqb-false, eq-eqb, ne_eqb, lt-ltb, ltb-true, ltb-false}
use lib.Dec.{eqb, ltb}
use lib.ListN.{length, get_or, get_or-map}
use lib.Seq.{get_or-set_same, get_or-set_other}
use Rattle.lists.specs.Tests.{all}
use Rattle.lists.proofs.All.{all_every, all_imp, all_true, map_same}
use Rattle.lists.proofs.Cases.{by_test}
use Rattle.ledger.specs.Limits.{task_count}
use Rattle.ledger.specs.declared.Event.{Event}
use Rattle.ledger.specs.declared.Event.TheVariants.{Leave, Block, Resume, Tick, View}
use Rattle.ledger.specs.declared.Limits.{Limits}
use Rattle.record.specs.Codes.{due_of, setter_of, units_left, absent_entry, freed_entry}
use Rattle.record.specs.Tables.{BlockEntry, ExpirationEntry}
use Rattle.record.specs.WellFormed.{is_fit_due, is_fit_entry}
use Rattle.record.specs.declared.TaskEntry.{TaskEntry}
use Rattle.record.specs.declared.GlobalTime.{GlobalTime}
use Rattle.record.specs.declared.Due.{Due}
use Rattle.record.specs.declared.Due.TheVariants.{Free, Local, Global, Pinned, Unknown}
use Rattle.record.proofs.Facts.{fit_local, fit_global}
use Rattle.steps.specs.Events.{next_time, moved_entry, unticked_entry, moved_tasks, advanced_tasks, advanced_time, leaver_of, late_entry, is_lasting, kept_entry, passed_entry}
use Rattle.steps.proofs.Late.{late_due, late_due_lem, late_none}
use Rattle.tasks.specs.Steps.{is_leave, ending_at, tested_after}
use Rattle.tasks.specs.declared.Planned.{Planned}
use Rattle.endings.specs.Ending.{is_ending, ended_entry}
use Rattle.endings.specs.declared.Passing.{Passing}

-- the time that a plan leaves
abbrev pub passing_of : ℕ → GlobalTime → Ending → Passing
passing_of task global ending = record { task = task; leaves = ending.leaves; local = ending.local; advanced = ending.advanced; global = global }

-- who leaves, by the plan
pub leaver_as : (event : Event) (task : ℕ) → cond (is_leave event) task task_count ≡ leaver_of event task
leaver_as Leave task = refl
leaver_as Block task = refl
leaver_as Resume task = refl
leaver_as View task = refl
leaver_as Tick task = refl

-- the leaver's own go, and nobody else's
own_leaver : (event : Event) (task : ℕ) → task < task_count → eqb task (leaver_of event task) ≡ is_leave event
own_leaver Leave task known = eq-eqb task task refl
own_leaver Block task known = ne_eqb task task_count (λ e. omega arith)
own_leaver Resume task known = ne_eqb task task_count (λ e. omega arith)
own_leaver View task known = ne_eqb task task_count (λ e. omega arith)
own_leaver Tick task known = ne_eqb task task_count (λ e. omega arith)

other_leaver : (event : Event) (task s : ℕ) → s < task_count → s ≢ task → eqb s (leaver_of event task) ≡ false
other_leaver Leave task s known other = ne_eqb s task other
other_leaver Block task s known other = ne_eqb s task_count (λ e. omega arith)
other_leaver Resume task s known other = ne_eqb s task_count (λ e. omega arith)
other_leaver View task s known other = ne_eqb s task_count (λ e. omega arith)
other_leaver Tick task s known other = ne_eqb s task_count (λ e. omega arith)

-- units left or none
lasts_or_ends : (gone : Bool) (n : ℕ) → (not gone && ltb 0 n) ≡ not (gone || eqb n 0)
lasts_or_ends true n = refl
lasts_or_ends false n =
    by_test (ltb 0 n)
    (λ l. rw (l, ne_eqb n 0 (λ z. omega (arith, ltb-true 0 n l))))
    (λ l. rw (l, eq-eqb n 0 (omega (arith, ltb-false 0 n l))))

cond_not {ℓ} : {A : Type ℓ} (b : Bool) (x y : A) → cond (not b) y x ≡ cond b x y
cond_not true x y = refl
cond_not false x y = refl

-- clearing the marks leaves the clocks
unticked_clocks : (advanced : Bool) (tasks : List TaskEntry) (i : ℕ)
    → (get_or (advanced_tasks advanced tasks) i absent_entry).clock.0 ≡ (get_or tasks i absent_entry).clock.0
unticked_clocks true tasks i = ap (λ (e : TaskEntry). e.clock.0) (get_or-map unticked_entry tasks i absent_entry)
unticked_clocks false tasks i = refl

-- by the global time, which stands still or advances, with what is put off then
global_lasts : (advanced waits : Bool) (at : ℕ) (global : GlobalTime) → 1 ≤ units_left at global.0
    → (let left = units_left (cond (advanced && waits) (next_time at) at) (advanced_time advanced global).0 in ltb 0 left ≡ not (advanced && eqb left 0))
global_lasts true waits at global ahead = lasts_or_ends false (units_left (cond waits (next_time at) at) (advanced_time true global).0)
global_lasts false waits at global ahead = lt-ltb 0 _ ahead

-- An accepted event with an advance test
module _ (event : Event) (task : ℕ) (tasks : List TaskEntry) (global : GlobalTime) (sixteen : length tasks ≡ task_count) (known : task < task_count) where
  abbrev moved : List TaskEntry
  moved = moved_tasks event task tasks

  abbrev plan : Bool → Planned
  plan advanced = tested_after event task advanced moved global (moved_entry event (get_or tasks task absent_entry))

  abbrev passing : Bool → Passing
  passing advanced = passing_of task (plan advanced).global (ending_at event advanced (moved_entry event (get_or tasks task absent_entry)).clock)

  module _ (advanced : Bool) where
    own_clock : (get_or (advanced_tasks advanced moved) task absent_entry).clock.0 ≡ (moved_entry event (get_or tasks task absent_entry)).clock.0
    own_clock =
        unticked_clocks advanced moved task
        ∙ ap (λ (e : TaskEntry). e.clock.0) (get_or-set_same tasks task _ absent_entry (omega arith))

    other_clock : (s : ℕ) → s ≢ task → (get_or (advanced_tasks advanced moved) s absent_entry).clock.0 ≡ (get_or tasks s absent_entry).clock.0
    other_clock s other =
        unticked_clocks advanced moved s
        ∙ ap (λ (e : TaskEntry). e.clock.0) (get_or-set_other tasks task s _ absent_entry other)

    -- an expiration before it is judged
    abbrev late : Due → Due
    late due = late_due (leaver_of event task) advanced (plan advanced).tasks due

    abbrev pub lately : ExpirationEntry → ExpirationEntry
    lately e = late_entry (leaver_of event task) advanced (plan advanced).tasks e

    -- what lasts is what does not end
    abbrev LastsAs : Due → Type 0
    LastsAs due =
        is_lasting (leaver_of event task) (get_or (plan advanced).tasks (setter_of due) absent_entry) (plan advanced).global due
        ≡ not (is_ending (passing advanced) due)

    lasting_as : (limits : Limits) (used : Bool) (due : Due) → is_fit_due limits (get_or tasks (setter_of due) absent_entry) global used due ≡ true → LastsAs (late due)
    lasting_as limits used Free fit = refl
    lasting_as limits used (Local s at) fit =
        by_test (eqb s task)
        (λ own.
        rw (eqb-true s task own, own_leaver event task known, own_clock, eq-eqb task task refl)
        (lasts_or_ends (is_leave event) (units_left at.0 (moved_entry event (get_or tasks task absent_entry)).clock.0)))
        (λ other.
        let f = fit_local limits (get_or tasks s absent_entry) global used s at fit in
        let apart = eqb-false s task other in
        rw (other, other_leaver event task s f.known apart, other_clock s apart, lt-ltb 0 _ f.ahead))
    lasting_as limits used (Global s at) fit = global_lasts advanced _ at.0 global (fit_global limits (get_or tasks s absent_entry) global used s at fit).ahead
    lasting_as limits used (Pinned due) fit = refl
    lasting_as limits used Unknown fit = refl

    -- so the entries after it are those that the record's sweep leaves
    entry_as : (limits : Limits) (blocks : List BlockEntry) (e : ExpirationEntry) → is_fit_entry limits tasks global blocks e ≡ true
        → kept_entry (leaver_of event task) (plan advanced).tasks (plan advanced).global (lately e) ≡ ended_entry (passing advanced) (lately e)
    entry_as limits blocks e f =
        let lasts : LastsAs (due_of (lately e)) = subst LastsAs (sym (late_due_lem (leaver_of event task) advanced (plan advanced).tasks e)) (lasting_as limits _ (due_of e) f) in
        ap (λ (stands : Bool). cond stands (lately e) (freed_entry (lately e))) lasts
        ∙ cond_not (is_ending (passing advanced) (due_of (lately e))) (freed_entry (lately e)) (lately e)

    pub kept_as : (limits : Limits) (blocks : List BlockEntry) (xs : List ExpirationEntry) → all (is_fit_entry limits tasks global blocks) xs ≡ true
        → map (passed_entry (leaver_of event task) advanced (plan advanced).tasks (plan advanced).global) xs
        ≡ map (ended_entry (passing advanced)) (map lately xs)
    kept_as limits blocks xs fits = map_same _ _ xs (all_imp (entry_as limits blocks) xs (all_true _ xs fits)) ∙ sym (map-map _ lately xs)

-- A block that leaves the global time ends nothing.
module _ (task : ℕ) (tasks : List TaskEntry) (global : GlobalTime) (sixteen : length tasks ≡ task_count) (known : task < task_count) where
  abbrev blocked : Planned
  blocked = plan Block task tasks global sixteen known false

  abbrev blocking : Passing
  blocking = passing Block task tasks global sixteen known false

  unending : (limits : Limits) (used : Bool) (due : Due) → is_fit_due limits (get_or tasks (setter_of due) absent_entry) global used due ≡ true
      → is_ending blocking due ≡ false
  unending limits used Free fit = refl
  unending limits used (Local s at) fit =
      let f = fit_local limits (get_or tasks s absent_entry) global used s at fit in
      by_test (eqb s task)
      (λ own. rw (own, ← eqb-true s task own, ne_eqb (units_left at.0 (get_or tasks s absent_entry).clock.0) 0 (λ z. omega (arith, f.ahead))))
      (λ other. rw other)
  unending limits used (Global s at) fit = refl
  unending limits used (Pinned due) fit = refl
  unending limits used Unknown fit = refl

  entry_stays : (limits : Limits) (blocks : List BlockEntry) (e : ExpirationEntry) → is_fit_entry limits tasks global blocks e ≡ true → ended_entry blocking e ≡ e
  entry_stays limits blocks e f = rw (unending limits _ (due_of e) f)

  pub block_keeps : (limits : Limits) (blocks : List BlockEntry) (xs : List ExpirationEntry) → all (is_fit_entry limits tasks global blocks) xs ≡ true
      → map (passed_entry (leaver_of Block task) false blocked.tasks blocked.global) xs ≡ xs
  block_keeps limits blocks xs fits =
      kept_as Block task tasks global sixteen known false limits blocks xs fits
      ∙ ap (map (ended_entry blocking)) (map_same _ (λ e. e) xs (all_every _ (late_none blocked.tasks) xs) ∙ map-id xs)
      ∙ map_same _ (λ e. e) xs (all_imp (entry_stays limits blocks) xs (all_true _ xs fits)) ∙ map-id xs
