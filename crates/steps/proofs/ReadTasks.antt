-- An event does the same to the record's tasks and times as to the ledger's.
use Prim.Native.Nat.{ℕ, ◌+◌}
use native.Mathlib.Omega.{arith}
use mathlib.Core.Bool.{true, false, cond}
use mathlib.Core.List.{List, map, map-map}
use mathlib.Core.Path.{◌≡◌, refl, ap, sym, ◌∙◌}
use lib.Dec.{leb}
use lib.ListN.{get_or, get_or-map}
use Rattle.lists.proofs.Cases.{by_test}
use Rattle.lists.proofs.Tables.{map_set}
use Rattle.lists.proofs.Counts.{any_map, all_mapped}
use Rattle.ledger.specs.Limits.{task_count, counter_range}
use Rattle.ledger.specs.Tasks.{Task, Clocks, absent_task, task_at, moved, is_tested, all_ticked, unticked, tasks_after, advances, clocks_after}
use Rattle.ledger.specs.Expirations.{Expiration}
use Rattle.ledger.specs.Objects.{Memory}
use Rattle.ledger.specs.Refusals.{facts_of, verdict, as_verdict}
use Rattle.ledger.specs.Rules.{tests_of}
use Rattle.ledger.specs.Compared.{wrapped, wrapped_task}
use Rattle.ledger.specs.declared.Event.{Event}
use Rattle.ledger.specs.declared.Event.TheVariants.{Leave, Block, Resume, Tick, View}
use Rattle.ledger.specs.declared.Call.TheVariants.{Schedule}
use Rattle.ledger.specs.declared.Refusal.TheVariants.{NoSuchTask}
use Rattle.record.specs.Codes.{state_of, task_of, absent_entry}
use Rattle.record.specs.declared.TaskEntry.{TaskEntry}
use Rattle.record.specs.declared.GlobalTime.{GlobalTime}
use Rattle.steps.specs.Events.{verdict_of, verdict_at, next_time, moved_entry, unticked_entry, moved_tasks, advanced_tasks, advanced_time}
use Rattle.std.specs.Prelude.{Err}

-- the record's tasks read as the ledger's, one by one
module _ (tasks : List TaskEntry) (c : Clocks) (same : map task_of tasks ≡ map wrapped_task c.tasks) (i : ℕ) where
  task_alike : task_of (get_or tasks i absent_entry) ≡ wrapped_task (task_at c i)
  unfolding counter_range
  task_alike =
      sym (get_or-map task_of tasks i absent_entry) ∙ ap (λ ts. get_or ts i absent_task) same
      ∙ get_or-map wrapped_task c.tasks i absent_task

  pub state_alike : state_of (get_or tasks i absent_entry).state ≡ (task_at c i).state
  state_alike = ap (λ (t : Task). t.state) task_alike

  pub clock_alike : (get_or tasks i absent_entry).clock.0 ≡ wrapped (task_at c i).clock
  clock_alike = ap (λ (t : Task). t.clock) task_alike

-- the ledger's verdict on an event is the record's: first 1, then the tests of the task's state
state_tests : (m : Memory) (xs : List Expiration) (event : Event) (task : ℕ) (new : List ℕ)
    → as_verdict (verdict (facts_of m xs) (tests_of (Schedule event task) new))
    ≡ cond (leb task_count task) (Err NoSuchTask) (verdict_of event (task_at m.clocks task).state)
unfolding verdict tests_of
state_tests m xs Leave task new = by_test (leb task_count task) (λ e. rw e) (λ e. rw e)
state_tests m xs Block task new = by_test (leb task_count task) (λ e. rw e) (λ e. rw e)
state_tests m xs Resume task new = by_test (leb task_count task) (λ e. rw e) (λ e. rw e)
state_tests m xs View task new = by_test (leb task_count task) (λ e. rw e) (λ e. rw e)
state_tests m xs Tick task new = by_test (leb task_count task) (λ e. rw e) (λ e. rw e)

pub event_verdict : (m : Memory) (xs : List Expiration) (event : Event) (task : ℕ) (new : List ℕ) (tasks : List TaskEntry)
    → map task_of tasks ≡ map wrapped_task m.clocks.tasks → as_verdict (verdict (facts_of m xs) (tests_of (Schedule event task) new))
    ≡ verdict_at event task tasks
event_verdict m xs event task new tasks same = rw (state_tests m xs event task new, state_alike tasks m.clocks same task)

-- one task's entry
entry_moved : (event : Event) (e : TaskEntry) (t : Task) → task_of e ≡ wrapped_task t → task_of (moved_entry event e) ≡ wrapped_task (moved event t)
unfolding moved counter_range
entry_moved Leave e t same = refl
entry_moved Block e t same = rw (ap (λ (u : Task). u.clock) same)
entry_moved Resume e t same = rw (ap (λ (u : Task). u.clock) same)
entry_moved View e t same = refl
entry_moved Tick e t same =
    let before : e.clock.0 ≡ wrapped t.clock = ap (λ (u : Task). u.clock) same in
    let after : next_time e.clock.0 ≡ wrapped (t.clock + 1) = omega arith in
    rw (ap (λ (u : Task). u.state) same, after)

-- the advance test does not look at clocks
ticked_wrapped : (ts : List Task) → all_ticked (map wrapped_task ts) ≡ all_ticked ts
unfolding all_ticked
ticked_wrapped ts = rw (any_map, all_mapped)

module _ (event : Event) (task : ℕ) (tasks : List TaskEntry) (c : Clocks) (same : map task_of tasks ≡ map wrapped_task c.tasks) where
  -- the tasks stay alike, up to the advance test
  pub moved_alike : map task_of (moved_tasks event task tasks) ≡ map wrapped_task (tasks_after event task c)
  unfolding tasks_after
  moved_alike =
      rw (
        map_set task_of,
        map_set wrapped_task,
        same,
        entry_moved event (get_or tasks task absent_entry) (task_at c task) (task_alike tasks c same task),
      )

  pub ticked_alike : all_ticked (map task_of (moved_tasks event task tasks)) ≡ all_ticked (tasks_after event task c)
  ticked_alike = rw (moved_alike, ticked_wrapped)

  -- the two advance together
  pub advances_alike : is_tested event ≡ true → all_ticked (map task_of (moved_tasks event task tasks)) ≡ advances event task c
  unfolding advances
  advances_alike tested = rw (tested, ticked_alike)

-- The record's tasks and global time read as the ledger's.
pub record ClocksAlike (entries : List TaskEntry) (time : GlobalTime) (c : Clocks) : Type 0 where
  pub tasks : map task_of entries ≡ map wrapped_task c.tasks
  pub global : time.0 ≡ wrapped c.global

unticked_alike : (xs : List TaskEntry) (ts : List Task) → map task_of xs ≡ map wrapped_task ts
    → map task_of (map unticked_entry xs) ≡ map wrapped_task (map unticked ts)
unticked_alike xs ts same =
    map-map task_of unticked_entry xs ∙ sym (map-map unticked task_of xs) ∙ ap (map unticked) same
    ∙ map-map unticked wrapped_task ts ∙ sym (map-map wrapped_task unticked ts)

module _ (event : Event) (task : ℕ) {tasks : List TaskEntry} {global : GlobalTime} {c : Clocks} (same : ClocksAlike tasks global c) where
  -- by whether the ledger advances
  advanced_alike : (let advanced = advances event task c in
      ClocksAlike (advanced_tasks advanced (moved_tasks event task tasks)) (advanced_time advanced global) (clocks_after event task c))
  unfolding clocks_after counter_range
  advanced_alike =
      let moved = moved_alike event task tasks c same.tasks in
      by_test (advances event task c)
      (λ e. rw e (record { tasks = unticked_alike (moved_tasks event task tasks) (tasks_after event task c) moved; global = omega (arith, same.global) }))
      (λ e. rw e (record { tasks = moved; global = same.global }))

  -- tasks and global time stay alike at an event with an advance test
  pub clocks_alike : is_tested event ≡ true
      → (let moved = moved_tasks event task tasks in
      let advanced = all_ticked (map task_of moved) in
      ClocksAlike (advanced_tasks advanced moved) (advanced_time advanced global) (clocks_after event task c))
  clocks_alike tested = rw (advances_alike event task tasks c same.tasks tested) advanced_alike

  -- and at one with none
  pub untested_clocks_alike : is_tested event ≡ false → ClocksAlike (moved_tasks event task tasks) global (clocks_after event task c)
  unfolding advances
  untested_clocks_alike untested = rw untested at advanced_alike
