-- Those of the first blocks.
use borrow.Author.Rules.{rules}
use Rattle.shares.proofs.Counting.{counted_part}
use Rattle.shares.proofs.makers.count.Goals as goal

pub loop-flag-preserved : goal.loop-flag-preserved
loop-flag-preserved c = rw c.from-sum.ensures (counted_part c.requires (search rules) c.loop-flag-test.true c.loop-flag.invariant.1)
