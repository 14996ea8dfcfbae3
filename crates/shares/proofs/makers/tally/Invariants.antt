-- The blocks of the first groups.
use Prim.Native.Nat.{◌*◌, ◌/◌, ◌≤◌}
use Rattle.shares.specs.Counting.{Tallied}
use Rattle.shares.proofs.makers.tally.Given as goal

abbrev pub invariant-loop-g : goal.invariant-loop-g
invariant-loop-g l = (l.g ≤ l.to / 4) × Tallied l.used l.extents l.from (l.g * 4) l.out
