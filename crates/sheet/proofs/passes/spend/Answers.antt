-- What the closure computes.
use Rattle.std.proofs.Common.{rules}
use Rattle.sheet.specs.Passes.{spent_of}
use Rattle.sheet.proofs.passes.spend.Goals as goal

pub returns : goal.returns
returns c = c.remake.ensures (spent_of c.args.code c.args.cost) (λ clock units r h k e. search rules)
