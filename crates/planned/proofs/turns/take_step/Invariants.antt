-- A turn of each channel in its order.
use Rattle.planned.proofs.Stepping.{Stepping}
use Rattle.planned.proofs.turns.take_step.Given as goal

abbrev pub invariant-loop-task : goal.invariant-loop-task
invariant-loop-task l = Stepping l.step l.initial.tracks l.initial.site l.task l.tracks l.site
