-- A bit for each task, gathered from the last one down.
use Rattle.std.proofs.Common.{length}
use Rattle.lists.proofs.Bits.{Gathered}
use Rattle.ledger.specs.Limits.{task_count}
use Rattle.record.specs.Codes.{is_pending_entry}
use Rattle.record.proofs.running.awaited.Given as goal

abbrev pub invariant-loop-task : goal.invariant-loop-task
invariant-loop-task l = Gathered is_pending_entry l.fn.tasks task_count (length l.yielded) l.bits
