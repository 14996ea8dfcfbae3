-- A search for a pending task that notes whether one runs.
use Rattle.lists.proofs.Loops.{Scanned}
use Rattle.ledger.specs.Limits.{task_count}
use Rattle.record.proofs.States.{ticked_from}
use Rattle.record.proofs.running.all_ticked.Given as goal

abbrev pub invariant-loop-task : goal.invariant-loop-task
invariant-loop-task l = Scanned (ticked_from l.initial.some l.task-items) l.task-items task_count l.task-index (ticked_from l.some)
