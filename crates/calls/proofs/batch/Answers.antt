-- By the plan: refused with nothing changed, or one expiration more on each object.
use mathlib.Core.Path.{refl}
use Rattle.record.proofs.Types.{head_typed}
use Rattle.calls.proofs.BatchLent.{batch_kept, batch_may_set, batch_set}
use Rattle.calls.proofs.batch.Goals as goal

pub returns-in-Err : goal.returns-in-Err
returns-in-Err c =
    rw c.refused.ensures (
      c.requires.0.entries,
      batch_kept (head_typed _ _ c.well_formed.0) c.requires.0 _ _ _ _ _ c.standing-standing.ensures _ c.plan_batch-plan.ensures c.requires.1 c.in-Err.is,
      refl,
    )

pub set_all-requires : goal.set_all-requires
set_all-requires c =
    let (few, room, known) = batch_may_set (head_typed _ _ c.well_formed.0) c.requires.0 _ _ _ _ _ c.standing-standing.ensures _ c.plan_batch-plan.ensures c.in_default.is c.requires.1 in
    (c.requires.0.entries, c.plan_batch-plan.ensures.sized c.in_default.is, few, room, known)

pub returns : goal.returns
returns c =
    rw c.answered.ensures (
      c.set_all.ensures.sized,
      batch_set (head_typed _ _ c.well_formed.0) c.requires.0 _ _ _ _ _ c.standing-standing.ensures _ c.plan_batch-plan.ensures c.in_default.is c.requires.1 c.set_all.ensures,
      refl,
    )
