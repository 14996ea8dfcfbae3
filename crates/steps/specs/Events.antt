-- What an event makes of a record, as a function of its entries.
use Rattle.std.specs.Prelude.{ℕ, ◌+◌, ◌-◌, ◌%◌, Bool, true, false, cond, not, ◌&&◌, List, [], map, eqb, leb, ltb, get_or, set, drop, Ok, Err}
use Rattle.lists.specs.Tests.{any}
use Rattle.lists.specs.Tables.{map_from}
use Rattle.ledger.specs.Limits.{capacity, task_count, counter_range}
use Rattle.ledger.specs.Tasks.{is_waiting, is_tested, all_ticked}
use Rattle.ledger.specs.Expirations.{departed}
use Rattle.ledger.specs.Objects.{shares_after}
use Rattle.ledger.specs.Refusals.{verdict, as_verdict, Verdict}
use Rattle.ledger.specs.Rules.{tests_of}
use Rattle.ledger.specs.declared.State.{State}
use Rattle.ledger.specs.declared.Call.TheVariants.{Schedule}
use Rattle.ledger.specs.declared.Event.{Event}
use Rattle.ledger.specs.declared.Event.TheVariants.{Leave, Block, Resume, Tick, View}
use Rattle.ledger.specs.declared.Answer.{Answer}
use Rattle.ledger.specs.declared.Answer.TheVariants.{Done, Advanced}
use Rattle.ledger.specs.declared.Answer.TheVariants.{Refused as RefusedAnswer}
use Rattle.ledger.specs.declared.Refusal.TheVariants.{NoSuchTask}
use Rattle.record.specs.Codes.{state_of, task_of, global_code, departed_code, is_global_clock, due_of, setter_of, units_left, absent_entry, freed_block, freed_entry}
use Rattle.record.specs.WellFormed.{is_naming}
use Rattle.record.specs.declared.TaskEntry.{TaskEntry}
use Rattle.record.specs.Tables.{BlockEntry, ExpirationEntry, Tables, Outcome}
use Rattle.record.specs.declared.GlobalTime.{GlobalTime}
use Rattle.record.specs.declared.Due.{Due}
use Rattle.record.specs.declared.Due.TheVariants.{Free, Local, Global, Pinned, Unknown}
use Rattle.steps.specs.Parts.{part_facts}

-- R37 to R39 and R49, after 1: the tests of the task's state
abbrev pub verdict_of : Event → State → Verdict
verdict_of event state =
    as_verdict (verdict (part_facts capacity (λ (task : ℕ). state) 0 (λ (handle : ℕ). false) 0 false false false)
    (drop 1 (tests_of (Schedule event 0) [])))

-- the verdict on an event: first 1, then the tests of the task's state
abbrev pub verdict_at : Event → ℕ → List TaskEntry → Verdict
verdict_at event task tasks =
    cond (leb task_count task) (Err NoSuchTask) (verdict_of event (state_of (get_or tasks task absent_entry).state))

-- T8: a counter's next value
abbrev pub next_time : ℕ → ℕ
next_time n = (n + 1) % counter_range

-- in this state, not ticked
abbrev pub cleared_entry : ℕ → TaskEntry → TaskEntry
cleared_entry state e = record { state = state; ticked = 0; clock = e.clock }

abbrev pub moved_entry : Event → TaskEntry → TaskEntry
moved_entry Block e = cleared_entry 2 e
moved_entry Resume e = cleared_entry 1 e
moved_entry Leave e = absent_entry
moved_entry Tick e = record { state = e.state; ticked = 1; clock = record { 0 = next_time e.clock.0 } }
moved_entry View e = cleared_entry 3 absent_entry

abbrev pub unticked_entry : TaskEntry → TaskEntry
unticked_entry e = cleared_entry e.state e

abbrev pub moved_tasks : Event → ℕ → List TaskEntry → List TaskEntry
moved_tasks event task tasks = set tasks task (moved_entry event (get_or tasks task absent_entry))

-- the entries and the global time after the advance test
abbrev pub advanced_tasks : Bool → List TaskEntry → List TaskEntry
advanced_tasks advanced tasks = cond advanced (map unticked_entry tasks) tasks

abbrev pub advanced_time : Bool → GlobalTime → GlobalTime
advanced_time advanced global = record { 0 = cond advanced (next_time global.0) global.0 }

-- E9: the task whose local expirations go: task_count for none
abbrev pub leaver_of : Event → ℕ → ℕ
leaver_of Block task = task_count
leaver_of Resume task = task_count
leaver_of View task = task_count
leaver_of Leave task = task
leaver_of Tick task = task_count

-- E21: the clock of an entry, after the leave of this task; where nobody leaves (task_count) every clock stays
abbrev pub deserted_clock : ℕ → ℕ → ℕ
deserted_clock leaver clock = cond (is_global_clock clock && eqb (clock - global_code) leaver) departed_code clock

-- E20: whether the setter of an entry waits, by its clock
abbrev pub is_put_off : List TaskEntry → ℕ → Bool
is_put_off tasks clock = is_global_clock clock && is_waiting (state_of (get_or tasks (clock - global_code) absent_entry).state)

-- both: an entry before it is judged due, by the tasks as they are then
abbrev pub deserted_entry : ℕ → ExpirationEntry → ExpirationEntry
deserted_entry leaver e = record { clock = deserted_clock leaver e.clock; block = e.block; due = e.due }

abbrev pub put_off_entry : Bool → List TaskEntry → ExpirationEntry → ExpirationEntry
put_off_entry advanced tasks e =
    record { clock = e.clock; block = e.block; due = cond (advanced && is_put_off tasks e.clock) (next_time e.due) e.due }

abbrev pub late_entry : ℕ → Bool → List TaskEntry → ExpirationEntry → ExpirationEntry
late_entry leaver advanced tasks e = put_off_entry advanced tasks (deserted_entry leaver e)

-- whether an expiration stands on, by the entry of its setter and the global time as they are then
abbrev pub is_lasting : ℕ → TaskEntry → GlobalTime → Due → Bool
is_lasting leaver setter global Free = true
is_lasting leaver setter global (Local task at) = not (eqb task leaver) && ltb 0 (units_left at.0 setter.clock.0)
is_lasting leaver setter global (Global task at) = ltb 0 (units_left at.0 global.0)
is_lasting leaver setter global (Pinned due) = true
is_lasting leaver setter global Unknown = true

-- whether an entry stands on
abbrev pub is_kept : ℕ → List TaskEntry → GlobalTime → ExpirationEntry → Bool
is_kept leaver tasks global e = is_lasting leaver (get_or tasks (setter_of (due_of e)) absent_entry) global (due_of e)

abbrev pub kept_entry : ℕ → List TaskEntry → GlobalTime → ExpirationEntry → ExpirationEntry
kept_entry leaver tasks global e = cond (is_kept leaver tasks global e) e (freed_entry e)

-- what no expiration names is free
abbrev pub kept_block : List ExpirationEntry → ℕ → BlockEntry → BlockEntry
kept_block xs block b = cond (any (is_naming block) xs) b (freed_block b)

-- an entry after an event
abbrev pub passed_entry : ℕ → Bool → List TaskEntry → GlobalTime → ExpirationEntry → ExpirationEntry
passed_entry leaver advanced tasks global e = kept_entry leaver tasks global (late_entry leaver advanced tasks e)

-- the record with these tasks and this time, its due expirations and the leaver's own ended, its blocks free where none names them
unfoldable pub swept : ℕ → Bool → List TaskEntry → GlobalTime → Tables → Tables
swept leaver advanced tasks global p =
    let xs = map (passed_entry leaver advanced tasks global) p.expirations in
    record { limits = p.limits; tasks = tasks; global = global; given = p.given; shares = p.shares; blocks = map_from 0 (kept_block xs) p.blocks; expirations = xs }

-- the record with these tasks and this time, all else as it was
abbrev pub with_times : List TaskEntry → GlobalTime → Tables → Tables
with_times tasks global p =
    record { limits = p.limits; tasks = tasks; global = global; given = p.given; shares = p.shares; blocks = p.blocks; expirations = p.expirations }

-- Q3: what the leaver made is nobody's; where nobody leaves (task_count) every maker stays
abbrev pub orphaned_block : ℕ → BlockEntry → BlockEntry
orphaned_block leaver b =
    record {
      handle = b.handle;
      length = b.length;
      sum = b.sum;
      maker = cond (eqb b.maker leaver) departed b.maker;
      prefix = b.prefix;
    }

-- Q2, Q3: what an event leaves of shares and makers
unfoldable pub orphaned_pool : Event → ℕ → Tables → Tables
orphaned_pool event task p =
    record {
      limits = p.limits;
      tasks = p.tasks;
      global = p.global;
      given = p.given;
      shares = shares_after event task p.shares;
      blocks = map (orphaned_block (leaver_of event task)) p.blocks;
      expirations = p.expirations;
    }

-- an accepted event, but for shares and makers
unfoldable pub moved_pool : Event → ℕ → Tables → Tables
moved_pool event task p =
    let tasks = moved_tasks event task p.tasks in
    let advanced = all_ticked (map task_of tasks) in
    cond (is_tested event) (swept (leaver_of event task) advanced (advanced_tasks advanced tasks) (advanced_time advanced p.global) p)
    (with_times tasks p.global p)

-- an accepted event
unfoldable pub pool_after : Event → ℕ → Tables → Tables
pool_after event task p = moved_pool event task (orphaned_pool event task p)

unfoldable pub answer_after : Event → ℕ → Tables → Answer
answer_after event task p = cond (is_tested event) (Advanced (all_ticked (map task_of (moved_tasks event task p.tasks)))) Done

abbrev pub outcome_by : Verdict → Event → ℕ → Tables → Outcome
outcome_by (Ok _) event task p = record { answer = answer_after event task p; pool = pool_after event task p }
outcome_by (Err r) event task p = record { answer = RefusedAnswer r; pool = p }

-- any event on any record
unfoldable pub scheduled : Event → ℕ → Tables → Outcome
scheduled event task p = outcome_by (verdict_at event task p.tasks) event task p
