-- By the verdict: refused with nothing changed, or the task's entry and share set.
use mathlib.Core.Path.{refl}
use Rattle.record.proofs.Types.{head_typed}
use Rattle.calls.proofs.JoinLent.{join_refused, join_known, join_done}
use Rattle.calls.proofs.join.Goals as goal

pub returns-in-Err : goal.returns-in-Err
returns-in-Err c = rw c.refused.ensures (join_refused (head_typed _ _ c.well_formed.0) _ _ _ c.judge_join.ensures c.in-Err.is, refl)

pub with_joined-requires : goal.with_joined-requires
with_joined-requires c = join_known (head_typed c.args.h _ c.well_formed.0) c.args.holdings c.args.task c.args.share c.judge_join.ensures c.in_default.is

pub returns : goal.returns
returns c = rw (c.answered.ensures, c.with_joined.ensures)
    (join_done (head_typed _ _ c.well_formed.0) _ _ _ c.judge_join.ensures c.in_default.is, refl)
