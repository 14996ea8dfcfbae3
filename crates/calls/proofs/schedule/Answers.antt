-- By what was planned: nothing may end, or what is over has ended.
use mathlib.Core.Path.{refl}
use Rattle.record.proofs.Types.{head_typed}
use Rattle.calls.proofs.Scheduled.{ends_known}
use Rattle.calls.proofs.ScheduledLent.{schedule_still, schedule_ended}
use Rattle.calls.proofs.schedule.Goals as goal

pub returns-in_default : goal.returns-in_default
returns-in_default c = rw (c.answered.ensures, c.with_times.ensures)
    (schedule_still (head_typed _ _ c.well_formed.0) c.requires _ _ c.plan-planned.ensures c.in_default.is, refl, refl)

pub end-requires : goal.end-requires
end-requires c = ends_known _ _ _ _ c.plan-planned.ensures c.in-Some.is

pub returns : goal.returns
returns c = rw (c.answered-2.ensures, c.shares_left.ensures) (
  schedule_ended (head_typed _ _ c.well_formed.0) c.requires _ _ c.plan-planned.ensures c.in-Some.is c.end.ensures c.orphan.ensures,
  refl,
  refl,
)
