-- 15, or the release itself.
use mathlib.Core.Path.{refl}
use Rattle.tested.proofs.Tested.{unfit_lent, lent_fit}
use Rattle.tested.proofs.release.Goals as goal

pub returns-then-not-is_well_formed : goal.returns-then-not-is_well_formed
returns-then-not-is_well_formed c =
    let unfit = unfit_lent c.requires c.is_well_formed.ensures (rw c.if-not-is_well_formed.true) in rw c.refused.ensures (unfit.0, unfit.1, refl, refl, refl)

pub release-requires : goal.release-requires
release-requires c = (c.requires, lent_fit c.args.h _ _ c.is_well_formed.ensures (rw c.if-not-is_well_formed.false))
