-- By what was planned.
use mathlib.Core.Path.{refl}
use Rattle.record.proofs.Types.{head_typed}
use Rattle.calls.proofs.ScheduledLent.{start_alone}
use Rattle.calls.proofs.start.Goals as goal

pub returns : goal.returns
returns c = rw (c.answered.ensures, c.with_times.ensures) (start_alone (head_typed _ _ c.well_formed.0) _ _ c.requires c.plan_start-planned.ensures, refl)
