-- A test of all blocks with their places.
use Rattle.std.proofs.Common.{◌≡◌, true, length, ◌∙◌, rules, tests}
use Rattle.std.proofs.lemmas.Iterator.{YieldsList-from_slice, YieldsList-from_zip}
use Rattle.std.proofs.lemmas.Iterator.Consumers.{YieldsList-from_enumerate, fold_from_yields_List}
use Rattle.handles.proofs.Alone.{alone_after, alone_folded}
use Rattle.handles.proofs.parting.all_alone.Goals as goal

pub returns : goal.returns
returns c =
    let size : length c.args.used.now ≡ length c.args.parts.now = search rules in
    fold_from_yields_List _ alone_after true c.fold.result c.fold.ensures.ran
    (YieldsList-from_enumerate
    (YieldsList-from_zip (YieldsList-from_slice c.args.used.now cc) (YieldsList-from_slice c.args.parts.now cc)) cc)
    (λ a x b q k. search (rules, tests))
    ∙ alone_folded c.args.used.now c.args.parts.now size
