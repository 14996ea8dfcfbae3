-- 15, or the life that is found, in two figures.
use Rattle.record.proofs.Types.{pool_typed}
use Rattle.tested.proofs.Tested.{unfit_by_value, fit_by_value}
use Rattle.by_value_objects.proofs.ByValue.{stays_by_value}
use Rattle.by_value_objects.proofs.Promises.{reports, tells_none, no_life, tells_life}
use Rattle.by_value_objects.proofs.remaining.Goals as goal

pub returns-then-not-is_well_formed : goal.returns-then-not-is_well_formed
returns-then-not-is_well_formed c = reports _ (unfit_by_value c.args.p c.is_well_formed.ensures (rw c.if-not-is_well_formed.true)) (tells_none _) c.from.ensures

pub remaining-answer-requires : goal.remaining-answer-requires
remaining-answer-requires c = ((pool_typed c.args.p _ c.well_formed.0).1, fit_by_value c.args.p c.is_well_formed.ensures (rw c.if-not-is_well_formed.false))

pub returns-in_default : goal.returns-in_default
returns-in_default c = let follows = stays_by_value c.args.p c.remaining-answer.ensures in
    reports _ follows (no_life c.well_formed.0 follows c.in_default.not-Lasts _) c.from-in_default.ensures

pub returns : goal.returns
returns c = let lasts = c.in-Lasts.is in
    reports _ (stays_by_value c.args.p c.remaining-answer.ensures) (tells_life lasts) (rw lasts)
