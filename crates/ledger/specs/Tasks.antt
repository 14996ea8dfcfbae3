-- The rules T: the sixteen tasks, their local times, the global time, and what moves them.
use Rattle.std.specs.Prelude.{ℕ, ◌+◌, Bool, true, false, cond, not, ◌&&◌, ◌||◌, List, map, get_or, set, replicate}
use Rattle.lists.specs.Tests.{any, all}
use Rattle.ledger.specs.Limits.{task_count}
use Rattle.ledger.specs.declared.State.{State}
use Rattle.ledger.specs.declared.State.TheVariants.{Absent, Running, Waiting, Viewing}
use Rattle.ledger.specs.declared.Event.{Event}
use Rattle.ledger.specs.declared.Event.TheVariants.{Leave, Block, Resume, Tick, View}

-- T3: a task entry. `ticked` is 01's mark, `clock` the local time (01: own clock), a whole number here (T7)
pub record Task : Type 0 where
  pub state : State
  pub ticked : Bool
  pub clock : ℕ

-- T4: the tasks in their order, and the global time (01: common time)
pub record Clocks : Type 0 where
  pub tasks : List Task
  pub global : ℕ

abbrev pub absent_task : Task
absent_task = record { state = Absent; ticked = false; clock = 0 }

-- T5: no task is there, and every time is 0
unfoldable pub fresh_clocks : Clocks
fresh_clocks = record { tasks = replicate task_count absent_task; global = 0 }

abbrev pub task_at : Clocks → ℕ → Task
task_at clocks task = get_or clocks.tasks task absent_task

abbrev pub is_absent : State → Bool
is_absent Absent = true
is_absent Running = false
is_absent Waiting = false
is_absent Viewing = false

-- V2: a viewer is not counted among those that run: not in the advance test, nor in a round, nor where a task is to have ticked
abbrev pub is_running : State → Bool
is_running Absent = false
is_running Running = true
is_running Waiting = false
is_running Viewing = false

abbrev pub is_waiting : State → Bool
is_waiting Absent = false
is_waiting Running = false
is_waiting Waiting = true
is_waiting Viewing = false

-- V1: a viewer (02: a task that joined by 0E)
abbrev pub is_viewing : State → Bool
is_viewing Absent = false
is_viewing Running = false
is_viewing Waiting = false
is_viewing Viewing = true

-- V3: who runs or waits; who is absent or views has no share
abbrev pub is_active : State → Bool
is_active Absent = false
is_active Running = true
is_active Waiting = true
is_active Viewing = false

-- T9: a task that joins
abbrev pub joined : Task
joined = record { state = Running; ticked = false; clock = 0 }

-- T18: no longer ticked
abbrev pub unticked : Task → Task
unticked task = record { state = task.state; ticked = false; clock = task.clock }

abbrev pub with_state : State → Task → Task
with_state state task = record { state = state; ticked = task.ticked; clock = task.clock }

-- T10 to T13, V1: what each of the five makes of its task
unfoldable pub moved : Event → Task → Task
moved Block task = with_state Waiting (unticked task)
moved Resume task = with_state Running (unticked task)
moved Leave task = absent_task
moved Tick task = record { state = task.state; ticked = true; clock = task.clock + 1 }
moved View task = record { state = Viewing; ticked = false; clock = 0 }

-- T14: the events that the advance test follows
abbrev pub is_tested : Event → Bool
is_tested Block = true
is_tested Resume = false
is_tested View = false
is_tested Leave = true
is_tested Tick = true

-- T16: some task runs, and all that run have ticked
unfoldable pub all_ticked : List Task → Bool
all_ticked tasks =
    any (λ (t : Task). is_running t.state) tasks && all (λ (t : Task). not (is_running t.state) || t.ticked) tasks

-- T9: the clocks after a join, which no advance test follows (T14)
unfoldable pub entered : ℕ → Task → Clocks → Clocks
entered task entry clocks = record { tasks = set clocks.tasks task entry; global = clocks.global }

-- T15: the tasks after an event of one of them, before the advance test
unfoldable pub tasks_after : Event → ℕ → Clocks → List Task
tasks_after event task clocks = set clocks.tasks task (moved event (task_at clocks task))

-- whether the event makes the global time advance
unfoldable pub advances : Event → ℕ → Clocks → Bool
advances event task clocks = is_tested event && all_ticked (tasks_after event task clocks)

-- T17, T18: the clocks after an event, and after the advance where it makes one
unfoldable pub clocks_after : Event → ℕ → Clocks → Clocks
clocks_after event task clocks =
    let tasks = tasks_after event task clocks in
    let advanced = advances event task clocks in
    record {
      tasks = cond advanced (map unticked tasks) tasks;
      global = cond advanced (clocks.global + 1) clocks.global;
    }
