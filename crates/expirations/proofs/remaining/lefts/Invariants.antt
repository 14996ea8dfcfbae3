-- The last byte of each difference.
use Rattle.expirations.specs.Remaining.{Lefts}
use Rattle.expirations.proofs.remaining.lefts.Given as goal

abbrev pub invariant-loop-i : goal.invariant-loop-i
invariant-loop-i g l = Lefts (g.T.ClockTime.ticks l.now) l.dues l.from l.i l.left-items
