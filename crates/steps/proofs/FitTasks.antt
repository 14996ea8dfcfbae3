-- Task entries and times after an event, as the test of well-formedness sees them.
use Prim.Native.Nat.{ℕ, ◌≤◌, ◌<◌}
use native.Mathlib.Omega.{arith}
use mathlib.Core.Bool.{Bool, true, false, not, ◌&&◌, ◌||◌, and-eq-true_iff, and-false}
use mathlib.Core.List.{List, [], ◌∷◌, map}
use mathlib.Core.Path.{◌≡◌, refl, ◌∙◌}
use borrow.Author.Tests.{leb-true, leb-false}
use lib.Dec.{eqb, leb, ltb}
use lib.ListN.{length, get_or, set, get_or-map}
use lib.Seq.{set_out}
use Rattle.lists.proofs.Cases.{by_test, and₃}
use Rattle.lists.proofs.Tables.{map_set}
use Rattle.lists.proofs.Tests.{fails_set}
use Rattle.lists.proofs.All.{at_set}
use Rattle.ledger.specs.Limits.{counter_range}
use Rattle.ledger.specs.Tasks.{Task, is_absent, is_running, all_ticked}
use Rattle.ledger.proofs.KeptTasks.{ticked_as}
use Rattle.ledger.specs.Refusals.{verdict}
use Rattle.ledger.specs.Rules.{tests_of}
use Rattle.ledger.specs.declared.State.{State}
use Rattle.ledger.specs.declared.State.TheVariants.{Absent, Running, Waiting, Viewing}
use Rattle.ledger.specs.declared.Event.TheVariants.{Tick, View}
use Rattle.record.specs.Codes.{state_of, task_of, units_left, absent_entry}
use Rattle.record.specs.WellFormed.{is_fit_task}
use Rattle.record.specs.declared.TaskEntry.{TaskEntry}
use Rattle.steps.specs.Events.{verdict_of, next_time, moved_entry, unticked_entry, advanced_tasks}
use Rattle.std.specs.Prelude.{Ok}

-- What is due at some time ahead of the one is no further ahead of the other.
abbrev pub Later : ℕ → ℕ → Type 0
Later before after = (due : ℕ) → 1 ≤ units_left due before → units_left due after ≤ units_left due before

-- so are a time and itself, and a time and the next
pub later_same : (now : ℕ) → Later now now
later_same now due h = omega arith

pub later_next : (now : ℕ) → now < counter_range → Later now (next_time now)
unfolding counter_range
later_next now r due h = omega arith

-- A task that was present is present, and its clock has moved so.
abbrev pub StaysPresent : (ℕ → ℕ → Type 0) → TaskEntry → TaskEntry → Type 0
StaysPresent moves before after =
    is_absent (state_of before.state) ≡ false
    → (is_absent (state_of after.state) ≡ false) × moves before.clock.0 after.clock.0

-- every task but the leaver stays present, by its clock the same or later
abbrev pub OthersStayPresent : ℕ → List TaskEntry → List TaskEntry → Type 0
OthersStayPresent leaver before after =
    (task : ℕ) → eqb task leaver ≡ false → StaysPresent Later (get_or before task absent_entry) (get_or after task absent_entry)

-- after one entry is set, each stays present if that one does
pub set_stays_present : (moves : ℕ → ℕ → Type 0) → ((now : ℕ) → moves now now) → (tasks : List TaskEntry) (task : ℕ) (e : TaskEntry) (any : ℕ)
    → (any ≡ task → StaysPresent moves (get_or tasks task absent_entry) e)
    → StaysPresent moves (get_or tasks any absent_entry) (get_or (set tasks task e) any absent_entry)
set_stays_present moves same tasks task e any f =
    at_set (StaysPresent moves (get_or tasks any absent_entry)) tasks task any absent_entry
    (λ at. rw at (f at)) (λ present. (present, same _))

-- the state of a task that may become a viewer,
pub view_absent : (s : State) → verdict_of View s ≡ Ok tt → s ≡ Absent
unfolding verdict tests_of
view_absent Absent a = refl
view_absent Running a = cc
view_absent Waiting a = cc
view_absent Viewing a = cc

-- and of one that may tick
pub tick_running : (s : State) → verdict_of Tick s ≡ Ok tt → s ≡ Running
unfolding verdict tests_of
tick_running Absent a = cc
tick_running Running a = refl
tick_running Waiting a = cc
tick_running Viewing a = cc

-- a fit entry's state is known, and its clock 0 if the task is absent
fit_entry : (e : TaskEntry) → is_fit_task e ≡ true
    → (ltb e.state 4 ≡ true) × ((not (is_absent (state_of e.state)) || eqb e.clock.0 0) ≡ true)
unfolding is_fit_task
fit_entry e h =
    let (codes, running, clock) = and₃ (ltb e.state 4 && ltb e.ticked 2) _ _ h in
    (((and-eq-true_iff (ltb e.state 4) _).0 codes).0, clock)

-- a running task's entry stays fit when it ticks, and any entry when it is unticked
pub ticked_fits : (e : TaskEntry) → state_of e.state ≡ Running → is_fit_task e ≡ true → is_fit_task (moved_entry Tick e) ≡ true
unfolding is_fit_task
ticked_fits e r h = rw ((fit_entry e h).0, r)

pub unticked_fits : (e : TaskEntry) → is_fit_task e ≡ true → is_fit_task (unticked_entry e) ≡ true
unfolding is_fit_task
unticked_fits e h = let (known, clock) = fit_entry e h in rw (known, clock)

-- the advance test fails where no task has ticked
none_ticked : (tasks : List TaskEntry) → all_ticked (map task_of (map unticked_entry tasks)) ≡ false
unfolding all_ticked
none_ticked [] = refl
none_ticked (e ∷ tasks) = by_test (is_running (state_of e.state)) (λ r. rw r) (λ r. rw r (none_ticked tasks))

-- it fails after an advance, or has failed
pub advanced_unticked : (tasks : List TaskEntry) → all_ticked (map task_of (advanced_tasks (all_ticked (map task_of tasks)) tasks)) ≡ false
advanced_unticked tasks = by_test (all_ticked (map task_of tasks)) (λ e. rw e (none_ticked tasks)) (λ e. rw e e)

-- it comes out the same where one that does not run takes the place of another
pub idle_unticked : (tasks : List TaskEntry) (task : ℕ) (e : TaskEntry) → is_running (state_of e.state) ≡ false
    → is_running (state_of (get_or tasks task absent_entry).state) ≡ false → all_ticked (map task_of tasks) ≡ false → all_ticked (map task_of (set tasks task e)) ≡ false
idle_unticked tasks task e still before h =
    rw (map_set task_of) (ticked_as (map task_of tasks) task (task_of e) still (rw (get_or-map task_of tasks task absent_entry) before) ∙ h)

-- it fails where a task runs that has not ticked
pub running_unticked : (tasks : List TaskEntry) (task : ℕ) (e : TaskEntry) → state_of e.state ≡ Running → eqb e.ticked 1 ≡ false
    → all_ticked (map task_of tasks) ≡ false → all_ticked (map task_of (set tasks task e)) ≡ false
unfolding all_ticked
running_unticked tasks task e r u h =
    let test : Task → Bool = λ t. not (is_running t.state) || t.ticked in
    by_test (leb (length tasks) task)
    (λ past. rw (set_out tasks task e (leb-true _ _ past)) h)
    (λ within. rw (fails_set test task_of tasks task e (leb-false _ _ within) (rw (r, u)), and-false))
