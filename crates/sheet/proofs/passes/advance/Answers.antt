-- What the closure computes.
use Rattle.std.proofs.Common.{rules}
use Rattle.sheet.specs.Passes.{spent_global}
use Rattle.sheet.proofs.passes.advance.Goals as goal

pub returns : goal.returns
returns c = c.remake.ensures (spent_global) (λ clock units r h k e. search rules)
