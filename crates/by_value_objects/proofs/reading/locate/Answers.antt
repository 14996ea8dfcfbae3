-- 15, 14, or what the search of the blocks gives.
use mathlib.Core.Path.{refl, sym, ◌∙◌}
use Rattle.ledger.specs.declared.Call.TheVariants.{Read}
use Rattle.ledger.specs.declared.Request.TheVariants.{Use}
use Rattle.calls.specs.Contract.{Ready}
use Rattle.calls.proofs.Promises.{wrong_obeys, ready}
use Rattle.calls.proofs.Meets.{halves, refused_locates}
use Rattle.record.proofs.ByValue.{fits_by_value}
use Rattle.record.proofs.Types.{pool_typed}
use Rattle.tested.proofs.Tested.{unfit_by_value}
use Rattle.by_value_objects.proofs.ByValue.{located_by_value}
use Rattle.by_value_objects.proofs.reading.locate.Goals as goal

pub returns-then-not-is_well_formed : goal.returns-then-not-is_well_formed
returns-then-not-is_well_formed c =
    refused_locates _ _ _ _ _ _ (unfit_by_value c.args.p c.is_well_formed.ensures (rw c.if-not-is_well_formed.true) _ _)

pub returns-then-not-are_whole : goal.returns-then-not-are_whole
returns-then-not-are_whole c =
    refused_locates _ _ _ _ _ _
    (wrong_obeys (fits_by_value c.args.p c.is_well_formed.ensures) (rw c.if-not-is_well_formed.false) refl c.are_whole.ensures (rw c.if-not-are_whole.true))

pub find_for_read-requires : goal.find_for_read-requires
find_for_read-requires c =
    let passed : Ready (Use (Read c.args.task c.args.handle)) c.args.p c.args.small.now c.args.large.now =
    ready (fits_by_value c.args.p c.is_well_formed.ensures) (rw c.if-not-is_well_formed.false) refl c.are_whole.ensures (rw c.if-not-are_whole.false) in
    let (small_whole_lem, large_whole_lem) = halves c.args.p.head.limits c.args.small.now c.args.large.now (passed.whole refl) in
    ((pool_typed c.args.p _ c.well_formed.0).1, sym c.is_well_formed.ensures ∙ c.if-not-is_well_formed.false, rw small_whole_lem, rw large_whole_lem)

pub returns : goal.returns
returns c =
    let passed : Ready (Use (Read c.args.task c.args.handle)) c.args.p c.args.small.now c.args.large.now =
    ready (fits_by_value c.args.p c.is_well_formed.ensures) (rw c.if-not-is_well_formed.false) refl c.are_whole.ensures (rw c.if-not-are_whole.false) in
    located_by_value c.args.p (pool_typed c.args.p _ c.well_formed.0).0 (pool_typed c.args.p _ c.well_formed.0).1 _ _ passed c.find_for_read.ensures
