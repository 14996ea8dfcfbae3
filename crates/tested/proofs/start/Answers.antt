-- 15, or the event itself.
use Rattle.tested.proofs.Tested.{unfit_lent, fit_alone}
use Rattle.tested.proofs.start.Goals as goal

pub returns-then-not-is_well_formed : goal.returns-then-not-is_well_formed
returns-then-not-is_well_formed c = rw c.refused.ensures (unfit_lent c.requires.0 c.is_well_formed.ensures (rw c.if-not-is_well_formed.true)).1

pub returns : goal.returns
returns c = fit_alone c.requires.0 c.is_well_formed.ensures (rw c.if-not-is_well_formed.false) c.start.ensures.0 tt
