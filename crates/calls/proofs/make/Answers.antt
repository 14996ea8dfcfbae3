-- By the plan: refused with nothing changed, or an object in a block that was free and is cleared, with one expiration.
use native.Mathlib.Omega.{arith}
use mathlib.Core.Path.{refl}
use Rattle.record.proofs.Types.{head_typed}
use Rattle.calls.proofs.Lent.{lent_allowed}
use Rattle.calls.proofs.MakeLent.{make_refused_lent, make_may_set, make_clears, make_unspent, make_set_lent}
use Rattle.calls.proofs.make.Goals as goal

pub plan_make-plan-requires : goal.plan_make-plan-requires
plan_make-plan-requires c = (c.requires.0.blocks.of_handles, lent_allowed _ _ _ c.requires.1.fit)

pub returns-in-Err : goal.returns-in-Err
returns-in-Err c =
    rw c.refused.ensures (
      c.requires.0,
      make_refused_lent _ _ (head_typed _ _ c.well_formed.0) c.requires.0 c.requires.1 c.requires.2 c.standing-standing.ensures c.plan_make-plan.ensures c.in-Err.is,
      refl,
    )

pub set-requires : goal.set-requires
set-requires c =
    let may = make_may_set _ _ (head_typed _ _ c.well_formed.0) c.requires.0 c.requires.1 c.requires.2 c.standing-standing.ensures c.plan_make-plan.ensures c.in_default.is in
    (c.requires.0.entries, may.0, may.1, may.2)

pub clear_place-requires : goal.clear_place-requires
clear_place-requires c =
    make_clears _ _ (head_typed _ _ c.well_formed.0) c.requires.0 c.requires.1 c.requires.2 c.standing-standing.ensures c.plan_make-plan.ensures c.in_default.is

pub overflow_add-handle : goal.overflow_add-handle
overflow_add-handle c =
    omega (arith, make_unspent _ _ (head_typed _ _ c.well_formed.0) c.requires.0 c.requires.1 c.requires.2 c.standing-standing.ensures c.plan_make-plan.ensures c.in_default.is)

pub offset_bounds-blocks-place : goal.offset_bounds-blocks-place
offset_bounds-blocks-place c =
    omega (arith, (make_may_set _ _ (head_typed _ _ c.well_formed.0) c.requires.0 c.requires.1 c.requires.2 c.standing-standing.ensures c.plan_make-plan.ensures c.in_default.is).2)

pub bounds-blocks-place : goal.bounds-blocks-place
bounds-blocks-place c =
    omega (arith, (make_may_set _ _ (head_typed _ _ c.well_formed.0) c.requires.0 c.requires.1 c.requires.2 c.standing-standing.ensures c.plan_make-plan.ensures c.in_default.is).2)

pub offset_bounds-blocks-place-2 : goal.offset_bounds-blocks-place-2
offset_bounds-blocks-place-2 c =
    omega (arith, (make_may_set _ _ (head_typed _ _ c.well_formed.0) c.requires.0 c.requires.1 c.requires.2 c.standing-standing.ensures c.plan_make-plan.ensures c.in_default.is).2)

pub bounds-blocks-place-2 : goal.bounds-blocks-place-2
bounds-blocks-place-2 c =
    omega (arith, (make_may_set _ _ (head_typed _ _ c.well_formed.0) c.requires.0 c.requires.1 c.requires.2 c.standing-standing.ensures c.plan_make-plan.ensures c.in_default.is).2)

pub returns : goal.returns
returns c =
    let made = make_set_lent _ _ (head_typed _ _ c.well_formed.0) c.requires.0 c.requires.1 c.requires.2 c.standing-standing.ensures c.plan_make-plan.ensures c.in_default.is
    c.set.ensures c.clear_place.ensures.0 c.clear_place.ensures.1 in
    rw (c.answered.ensures, c.with_given.ensures, c.extent_of.ensures) (made.0, made.1, refl)
