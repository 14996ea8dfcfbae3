-- The sum of the bytes.
use Rattle.std.proofs.Common.{rules}
use Rattle.std.proofs.iter.runs.Made.{chains}
use Rattle.std.proofs.iter.runs.Sources.{sums}
use Rattle.shares.proofs.Counting.{totals_of}
use Rattle.shares.proofs.makers.total.Goals as goal

pub sum-requires-clause-fits : goal.sum-requires-clause-fits
sum-requires-clause-fits c = search (rules, sums)

pub returns : goal.returns
returns c = totals_of {numbers = c.args.numbers} (search rules) (search rules) (search (rules, chains))
