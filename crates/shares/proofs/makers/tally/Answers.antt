-- The blocks of the first groups.
use native.Mathlib.Omega.{arith}
use Rattle.shares.proofs.Counting.{tallied_start, tallied_at}
use Rattle.shares.proofs.makers.tally.Goals as goal

pub loop-g-init : goal.loop-g-init
loop-g-init c = (omega arith, tallied_at tallied_start (omega arith))
