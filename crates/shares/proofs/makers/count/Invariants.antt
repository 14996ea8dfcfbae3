-- Those of the first blocks.
use Prim.Native.Nat.{◌+◌, ◌≤◌}
use Rattle.shares.specs.Counting.{CountedIn}
use Rattle.shares.proofs.makers.count.Given as goal

abbrev pub invariant-loop-flag : goal.invariant-loop-flag
invariant-loop-flag l = (l.from + l.flag-index ≤ l.to) × CountedIn l.used l.from (l.from + l.flag-index) l.sum
