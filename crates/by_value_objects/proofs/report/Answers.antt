-- 15, or the figures.
use mathlib.Core.Path.{refl}
use Rattle.record.proofs.Types.{pool_typed}
use Rattle.tested.proofs.Tested.{unfit_by_value, fit_by_value}
use Rattle.by_value_objects.proofs.ByValue.{reported_by_value}
use Rattle.by_value_objects.proofs.Promises.{reports, tells_none, tells_usage}
use Rattle.by_value_objects.proofs.report.Goals as goal

pub returns-then-not-is_well_formed : goal.returns-then-not-is_well_formed
returns-then-not-is_well_formed c = reports _ (unfit_by_value c.args.p c.is_well_formed.ensures (rw c.if-not-is_well_formed.true)) (tells_none _) c.from.ensures

pub returns : goal.returns
returns c = let fit = fit_by_value c.args.p c.is_well_formed.ensures (rw c.if-not-is_well_formed.false) in
    rw (c.usage-usage.ensures, c.standing-count.ensures) (reports _ (reported_by_value c.args.p (pool_typed c.args.p _ c.well_formed.0).1 fit) tells_usage refl)
