-- What the lemmas on a step say at each turn.
use Rattle.planned.proofs.Stepping.{bounded_at, step_starts, step_turns, step_ends}
use Rattle.planned.proofs.turns.take_step.Goals as goal

pub loop-task-init : goal.loop-task-init
loop-task-init c = step_starts _ _ _

pub take_turn-requires : goal.take_turn-requires
take_turn-requires c = bounded_at c.loop-task.invariant c.requires.bounded _ c.loop-task-test.true

pub loop-task-preserved : goal.loop-task-preserved
loop-task-preserved c = step_turns c.loop-task.invariant _ c.loop-task-test.true c.take_turn.ensures

pub returns : goal.returns
returns c = step_ends c.loop-task.invariant c.loop-task-test.false
