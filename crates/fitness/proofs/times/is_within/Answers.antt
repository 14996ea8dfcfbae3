-- By what the units left are; the due number is below the range by its type.
use Rattle.std.proofs.Common.{arith}
use Rattle.ledger.specs.Limits.{counter_range}
use Rattle.fitness.proofs.times.is_within.Goals as goal

pub returns : goal.returns
unfolding counter_range
returns c = record { so = rw c.left_from.ensures; below = omega (arith, c.well_formed.0.1) }
