-- 15, or the tasks that are awaited.
use Rattle.record.proofs.ByValue.{fits_by_value}
use Rattle.by_value_tasks.proofs.AwaitedTold.{none_told, awaited_told}
use Rattle.by_value_tasks.proofs.awaited.Goals as goal

pub returns-then-not-is_well_formed : goal.returns-then-not-is_well_formed
returns-then-not-is_well_formed c = none_told (fits_by_value c.args.p c.is_well_formed.ensures) (rw c.if-not-is_well_formed.true) c.from.ensures

pub returns : goal.returns
returns c = awaited_told (fits_by_value c.args.p c.is_well_formed.ensures) (rw c.if-not-is_well_formed.false) c.awaited.ensures
