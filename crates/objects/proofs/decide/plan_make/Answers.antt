-- By its verdict, and what the search ensures.
use mathlib.Core.Path.{refl, sym}
use Rattle.objects.proofs.Makes.{planned_by_lem}
use Rattle.objects.proofs.decide.plan_make.Goals as goal

pub returns : goal.returns
returns c =
    let a = c.args in
    planned_by_lem a.task a.kind a.extension a.size a.prefix a.h a.holding a.standing refl (sym c.judge_make-verdict.ensures) c.free_place-place.ensures
