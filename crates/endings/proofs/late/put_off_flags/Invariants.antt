-- A flag for each task, from the first global clock on.
use Rattle.std.proofs.Common.{◌+◌, ◌≤◌, false, replicate}
use Rattle.ledger.specs.Limits.{task_count}
use Rattle.record.specs.Codes.{global_code}
use Rattle.record.specs.Tables.{byte_values}
use Rattle.expirations.specs.Places.{Changed}
use Rattle.endings.proofs.PutOff.{waiting_flag}
use Rattle.endings.proofs.late.put_off_flags.Given as goal

abbrev pub invariant-loop-task : goal.invariant-loop-task
invariant-loop-task l = (l.task ≤ task_count) × Changed false (waiting_flag l.e-items) global_code (global_code + l.task) (replicate byte_values false) l.flags
