-- The task entries stay as `ClocksKept` says.
use Prim.Native.Nat.{ℕ, ◌<◌}
use mathlib.Core.Bool.{true, false, cond, not, ◌||◌, and-false}
use mathlib.Core.List.{List, [], ◌∷◌, map}
use mathlib.Core.Path.{◌≡◌, refl, sym, ◌∙◌}
use borrow.Author.Tests.{leb-false, not-false}
use lib.Dec.{leb}
use lib.ListN.{length, get_or, set, length-set, length-map}
use Rattle.lists.specs.Tests.{All}
use Rattle.lists.proofs.Cases.{by_test}
use Rattle.lists.proofs.All.{all_imp, all_map, all_set}
use Rattle.lists.proofs.Counts.{all_false, any_set_as, all_set_as}
use Rattle.ledger.specs.Limits.{task_count}
use Rattle.ledger.specs.Tasks.{Task, Clocks, task_at, absent_task, joined, is_absent, is_running, is_waiting, is_viewing, is_active, moved, all_ticked, unticked, tasks_after, advances, clocks_after, entered}
use Rattle.ledger.specs.Expirations.{Expiration}
use Rattle.ledger.specs.Objects.{Memory}
use Rattle.ledger.specs.Rules.{tests_of}
use Rattle.ledger.specs.Kept.{TaskKept, ClocksKept}
use Rattle.ledger.specs.declared.State.{State}
use Rattle.ledger.specs.declared.State.TheVariants.{Absent, Running, Waiting, Viewing}
use Rattle.ledger.specs.declared.Event.{Event}
use Rattle.ledger.specs.declared.Event.TheVariants.{Leave, Block, Resume, Tick, View}
use Rattle.ledger.specs.declared.Share.{Share}
use Rattle.ledger.specs.declared.Call.TheVariants.{Join, Schedule}
use Rattle.ledger.proofs.Passed.{Passed}

-- what is true before the advance test, and stays so when the marks are cleared, is true after it
pub tasks_after_lem : (P : List Task → Type 0) → ((ts : List Task) → P ts → P (map unticked ts))
    → (event : Event) (task : ℕ) (clocks : Clocks)
    → P (set clocks.tasks task (moved event (task_at clocks task))) → P (clocks_after event task clocks).tasks
unfolding clocks_after tasks_after
tasks_after_lem P f event task clocks h = by_test (advances event task clocks) (λ e. rw e (f _ h)) (λ e. rw e h)

-- the sixteen entries are as many
pub sixteen_after : (event : Event) (task : ℕ) (clocks : Clocks) → length clocks.tasks ≡ task_count → length (clocks_after event task clocks).tasks ≡ task_count
sixteen_after event task clocks n =
    tasks_after_lem (λ ts. length ts ≡ task_count) (λ ts m. length-map ts unticked ∙ m) event task clocks (rw length-set n)

-- once the marks are cleared, not every running task is ticked
cleared : (ts : List Task) → all_ticked (map unticked ts) ≡ false
unfolding all_ticked
cleared [] = refl
cleared (t ∷ ts) = by_test (is_running t.state) (λ e. rw e) (λ e. rw e (cleared ts))

-- so none of the events with an advance test leaves every running task ticked
tested : (ts : List Task) → all_ticked (cond (all_ticked ts) (map unticked ts) ts) ≡ false
tested ts = by_test (all_ticked ts) (λ e. rw e (cleared ts)) (λ e. rw e e)

-- nor one that leaves its own task running and unticked
started : (ts : List Task) (task : ℕ) (t : Task) → length ts ≡ task_count → leb task_count task ≡ false
    → (not (is_running t.state) || t.ticked) ≡ false → all_ticked (set ts task t) ≡ false
unfolding all_ticked
started ts task t n h e = let l : task < length ts = rw n (leb-false task_count task h) in rw (all_false, and-false)

-- a task that is neither absent nor a viewer is active
pub active : (s : State) → is_absent s ≡ false → is_viewing s ≡ false → is_active s ≡ true
active Absent a v = sym a
active Running a v = refl
active Waiting a v = refl
active Viewing a v = sym v

-- an active task that does not wait runs
pub acting : (s : State) → is_active s ≡ true → is_waiting s ≡ false → is_running s ≡ true
acting Absent a w = a
acting Running a w = refl
acting Waiting a w = sym w
acting Viewing a w = a

-- who is absent is not active
pub absent_inactive : (s : State) → is_absent s ≡ true → is_active s ≡ false
absent_inactive Absent a = refl
absent_inactive Running a = sym a
absent_inactive Waiting a = sym a
absent_inactive Viewing a = refl

-- and does not run
pub stopped : (s : State) → is_absent s ≡ true → is_running s ≡ false
stopped Absent a = refl
stopped Running a = sym a
stopped Waiting a = refl
stopped Viewing a = refl

-- one that does not run in the place of another changes nothing for the advance test
pub ticked_as : (ts : List Task) (task : ℕ) (t : Task) → is_running t.state ≡ false → is_running (get_or ts task absent_task).state ≡ false
    → all_ticked (set ts task t) ≡ all_ticked ts
unfolding all_ticked
ticked_as ts task t s e =
    rw (
      any_set_as (λ (u : Task). is_running u.state) ts task t absent_task (rw (e, s)),
      all_set_as (λ (u : Task). not (is_running u.state) || u.ticked) ts task t absent_task (rw (e, s)),
    )

pub absent_kept : TaskKept absent_task
absent_kept = record { ticked = λ e. cc; clock = λ e. refl }

-- an entry stays as it should be when its mark is cleared
cleared_kept : (t : Task) → TaskKept t → TaskKept (unticked t)
cleared_kept t k = record { ticked = λ e. cc; clock = k.clock }

module _ (m : Memory) (xs : List Expiration) (new : List ℕ) (task : ℕ) where
  -- and when an event moves it
  moved_kept : (event : Event) → Passed m xs (Schedule event task) new → TaskKept (moved event (task_at m.clocks task))
  unfolding tests_of moved
  moved_kept Leave c = absent_kept
  moved_kept Block c = record { ticked = λ e. cc; clock = λ e. cc }
  moved_kept Resume c = record { ticked = λ e. cc; clock = λ e. cc }
  moved_kept View c = record { ticked = λ e. cc; clock = λ e. refl }
  moved_kept Tick (exists, (present, (waits, (acts, end)))) =
      record { ticked = λ e. acting (task_at m.clocks task).state (active (task_at m.clocks task).state present acts) waits; clock = λ e. cc }

  -- after every event some running task is unticked, if any runs
  unticked_after : (event : Event) → ClocksKept m.clocks → Passed m xs (Schedule event task) new
      → all_ticked (clocks_after event task m.clocks).tasks ≡ false
  unfolding tests_of moved clocks_after advances tasks_after
  unticked_after Leave k c = tested _
  unticked_after Block k c = tested _
  unticked_after Resume k c = started m.clocks.tasks task _ k.sixteen c.0 refl
  unticked_after View k (exists, (absent, end)) =
      ticked_as m.clocks.tasks task _ refl (stopped (task_at m.clocks task).state (not-false _ absent)) ∙ k.unticked
  unticked_after Tick k c = tested _

  pub clocks_joined : (share : Share) → Passed m xs (Join task share) new → ClocksKept m.clocks → ClocksKept (entered task joined m.clocks)
  unfolding entered tests_of
  clocks_joined share c k =
      record {
        sixteen = rw length-set k.sixteen;
        tasks = all_set TaskKept m.clocks.tasks task k.tasks (record { ticked = λ e. refl; clock = λ e. refl });
        unticked = started m.clocks.tasks task joined k.sixteen c.0 refl;
      }

  pub clocks_after_lem : (event : Event) → Passed m xs (Schedule event task) new → ClocksKept m.clocks
      → ClocksKept (clocks_after event task m.clocks)
  clocks_after_lem event c k =
      record {
        sixteen = sixteen_after event task m.clocks k.sixteen;
        tasks =
            tasks_after_lem (All TaskKept) (λ ts h. all_map TaskKept unticked ts (all_imp cleared_kept ts h)) event task m.clocks
            (all_set TaskKept m.clocks.tasks task k.tasks (moved_kept event c));
        unticked = unticked_after event k c;
      }
