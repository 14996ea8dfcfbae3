-- The join on the columns, which tells nothing.
use mathlib.Core.Path.{refl}
use Rattle.by_value_tasks.proofs.Events.{join_silent}
use Rattle.by_value_tasks.proofs.join_into.Goals as goal

pub returns : goal.returns
returns c = join_silent c.well_formed.0 refl {r = record { number = c.store_head.result; pool = c.store_head.new.left }} c.store_head.ensures c.join-step.ensures
