-- Every entry made anew in its place.
use Rattle.lists.proofs.Loops.{Mapped}
use Rattle.ledger.specs.Limits.{task_count}
use Rattle.steps.specs.Events.{unticked_entry}
use Rattle.tasks.proofs.moves.all_unticked.Given as goal

abbrev pub invariant-loop-task : goal.invariant-loop-task
invariant-loop-task l = Mapped (λ k. unticked_entry) l.initial.task-items task_count l.task-index l.task-items
