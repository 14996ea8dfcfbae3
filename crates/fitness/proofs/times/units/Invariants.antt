-- The units of the first tasks stand at both their codes.
use Rattle.fitness.proofs.Within.{UnitsTo}
use Rattle.fitness.proofs.times.units.Given as goal

abbrev pub invariant-loop-i : goal.invariant-loop-i
invariant-loop-i l = UnitsTo l.local l.global l.task-items l.i l.out
