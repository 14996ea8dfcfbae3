-- Row by row.
use Rattle.std.proofs.Common.{eqb, ◌∙◌}
use Rattle.lists.proofs.Folds.{fold_any}
use Rattle.sheet.proofs.passes.any_over.Goals as goal

pub returns : goal.returns
returns c = c.some_over.ensures ∙ fold_any (λ left. eqb left 0) c.args.units.now
