-- 15, or the event itself.
use mathlib.Core.Path.{refl}
use Rattle.tested.proofs.Tested.{unfit_lent, fit_lent}
use Rattle.tested.proofs.schedule.Goals as goal

pub returns-then-not-is_well_formed : goal.returns-then-not-is_well_formed
returns-then-not-is_well_formed c =
    let unfit = unfit_lent c.requires c.is_well_formed.ensures (rw c.if-not-is_well_formed.true) in rw c.refused.ensures (unfit.0, unfit.1, refl)

pub returns : goal.returns
returns c =
    let fit = fit_lent c.requires c.is_well_formed.ensures (rw c.if-not-is_well_formed.false) c.schedule.ensures.0 in (fit.0, fit.1, c.schedule.ensures.2)
