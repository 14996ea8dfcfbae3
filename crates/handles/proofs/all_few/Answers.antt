-- A test of all counts.
use Rattle.std.proofs.Common.{true, ◌&&◌, ◌∙◌, rules, tests}
use Rattle.std.proofs.lemmas.Iterator.{YieldsList-from_slice}
use Rattle.std.proofs.lemmas.Iterator.Consumers.{fold_from_yields_List}
use Rattle.lists.proofs.Folds.{fold_all}
use Rattle.handles.specs.Handles.{is_few}
use Rattle.handles.proofs.all_few.Goals as goal

pub returns : goal.returns
returns c =
    fold_from_yields_List _ (λ few n. few && is_few n) true c.fold.result c.fold.ensures.ran (YieldsList-from_slice c.args.counts cc)
    (λ a x b q k. search (rules, tests))
    ∙ fold_all is_few c.args.counts
