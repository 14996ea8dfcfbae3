-- 15, or the refresh itself.
use Rattle.tested.proofs.Tested.{unfit_entries, lent_fit}
use Rattle.tested.proofs.refresh.Goals as goal

pub returns-then-not-is_well_formed : goal.returns-then-not-is_well_formed
returns-then-not-is_well_formed c = rw c.refused.ensures (unfit_entries c.requires c.is_well_formed.ensures (rw c.if-not-is_well_formed.true))

pub refresh-requires : goal.refresh-requires
refresh-requires c = (c.requires, lent_fit c.args.h _ _ c.is_well_formed.ensures (rw c.if-not-is_well_formed.false))
