-- The next times of the first tasks stand at their codes.
use Rattle.lists.proofs.Filling.{Laid}
use Rattle.fitness.specs.Checks.{no_time}
use Rattle.fitness.proofs.Within.{next_of}
use Rattle.fitness.proofs.times.firsts.Given as goal

abbrev pub invariant-loop-i : goal.invariant-loop-i
invariant-loop-i l = Laid no_time (next_of l.task-items) 16 16 l.initial.out l.i l.out
