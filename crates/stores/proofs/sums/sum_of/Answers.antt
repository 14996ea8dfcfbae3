-- By the library's sum.
use Rattle.std.proofs.Common.{◌≡◌, ◌∙◌, rules}
use Rattle.std.proofs.iter.runs.Made.{chains}
use Rattle.std.proofs.iter.runs.Sources.{sums}
use Rattle.std.specs.List.{sum}
use Rattle.lists.proofs.Summing.{sum_total}
use Rattle.stores.proofs.sums.sum_of.Goals as goal

pub sum-requires-clause-fits : goal.sum-requires-clause-fits
sum-requires-clause-fits c = search (rules, sums)

pub returns : goal.returns
returns c = let summed : c.sum.result ≡ sum c.args.bytes.now = search (rules, chains) in summed ∙ sum_total c.args.bytes.now
