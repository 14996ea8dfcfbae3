-- The event on the columns, and whether time advanced.
use mathlib.Core.Path.{refl}
use Rattle.by_value_tasks.proofs.Events.{event_told}
use Rattle.by_value_tasks.proofs.event_into.Goals as goal

pub returns : goal.returns
returns c = event_told c.well_formed.0 refl {r = record { number = c.store_head.result; pool = c.store_head.new.left }} c.store_head.ensures c.schedule-step.ensures.1 c.advance_or.ensures
