-- A test of all tasks.
use Rattle.std.proofs.Common.{◌&&◌}
use Rattle.lists.specs.Tests.{all}
use Rattle.lists.proofs.Loops.{Scanned}
use Rattle.ledger.specs.Limits.{task_count}
use Rattle.record.specs.WellFormed.{is_fit_task}
use Rattle.record.proofs.running.all_fit_tasks.Given as goal

abbrev pub invariant-loop-task : goal.invariant-loop-task
invariant-loop-task l = Scanned (all is_fit_task l.task-items) l.task-items task_count l.task-index (λ ys. l.fit && all is_fit_task ys)
