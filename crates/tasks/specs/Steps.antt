-- What an event decides, by the task entries and the global time alone.
use Rattle.tasks.specs.declared.Ending.{Ending}
use Rattle.record.specs.declared.LocalTime.{LocalTime}
use Rattle.std.specs.Prelude.{ℕ, Bool, true, false, cond, List, map, slice_index_or, Ok, Err, Option, None, Some}
use Rattle.ledger.specs.Tasks.{is_tested, all_ticked}
use Rattle.ledger.specs.declared.Event.{Event}
use Rattle.ledger.specs.declared.Event.TheVariants.{Leave, Block, Resume, Tick, View}
use Rattle.ledger.specs.declared.Answer.{Answer}
use Rattle.ledger.specs.declared.Answer.TheVariants.{Done, Advanced}
use Rattle.ledger.specs.declared.Answer.TheVariants.{Refused as RefusedAnswer}
use Rattle.record.specs.Codes.{task_of, absent_entry}
use Rattle.record.specs.declared.TaskEntry.{TaskEntry}
use Rattle.record.specs.declared.GlobalTime.{GlobalTime}
use Rattle.steps.specs.Events.{verdict_at, moved_entry, moved_tasks, advanced_tasks, advanced_time}
use Rattle.tasks.specs.declared.Planned.{Planned}
use Rattle.ledger.specs.Refusals.{Verdict}

-- E9: the task leaves, and all its local expirations go
abbrev pub is_leave : Event → Bool
is_leave Leave = true
is_leave Block = false
is_leave Resume = false
is_leave View = false
is_leave Tick = false

-- whether an accepted event may end expirations of a well-formed record: a resume and a view end none, and a block, which moves no local
-- time, only where the global time advances
abbrev pub may_end : Event → Bool → Bool
may_end Leave advanced = true
may_end Block advanced = advanced
may_end Resume advanced = false
may_end View advanced = false
may_end Tick advanced = true

-- what may end expirations, where the task's local time has come to this
abbrev pub ending_at : Event → Bool → LocalTime → Ending
ending_at event advanced local = record { leaves = is_leave event; local = local; advanced = advanced }

abbrev pub ending_of : Event → Bool → LocalTime → Option Ending
ending_of event advanced local = cond (may_end event advanced) (Some (ending_at event advanced local)) None

-- what ends nothing
abbrev pub unmoved : Answer → List TaskEntry → GlobalTime → Planned
unmoved answer tasks global =
    record { answer = answer; tasks = tasks; global = global; ending = None }

-- an accepted event with an advance test
abbrev pub tested_after : Event → ℕ → Bool → List TaskEntry → GlobalTime → TaskEntry → Planned
tested_after event task advanced moved global entry =
    record {
      answer = Advanced advanced;
      tasks = advanced_tasks advanced moved;
      global = advanced_time advanced global;
      ending = ending_of event advanced entry.clock;
    }

-- any accepted event
unfoldable pub planned_after : Event → ℕ → List TaskEntry → GlobalTime → Planned
planned_after event task tasks global =
    let moved = moved_tasks event task tasks in
    cond (is_tested event)
    (tested_after event task (all_ticked (map task_of moved)) moved global (moved_entry event (slice_index_or tasks task absent_entry)))
    (unmoved Done moved global)

abbrev pub planned_by : Verdict → Event → ℕ → List TaskEntry → GlobalTime → Planned
planned_by (Ok _) event task tasks global = planned_after event task tasks global
planned_by (Err r) event task tasks global = unmoved (RefusedAnswer r) tasks global

-- any event
unfoldable pub planned : Event → ℕ → List TaskEntry → GlobalTime → Planned
planned event task tasks global = planned_by (verdict_at event task tasks) event task tasks global
