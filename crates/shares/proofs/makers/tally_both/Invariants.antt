-- The first blocks of either store.
use Prim.Native.Nat.{◌+◌, ◌*◌, ◌≤◌}
use Rattle.shares.specs.Counting.{Tallied}
use Rattle.shares.proofs.makers.tally_both.Given as goal

abbrev pub invariant-loop-g : goal.invariant-loop-g
invariant-loop-g l = (l.g ≤ 8) × Tallied l.used l.extents 0 (l.g * 8) l.small × Tallied l.used l.extents 64 (64 + l.g * 4) l.large
