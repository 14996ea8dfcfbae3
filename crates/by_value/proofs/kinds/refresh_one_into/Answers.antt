-- The refresh on the columns.
use mathlib.Core.Path.{refl}
use Rattle.by_value.proofs.Promises.{refreshes}
use Rattle.by_value.proofs.kinds.refresh_one_into.Goals as goal

pub returns : goal.returns
returns c = refreshes c.well_formed.0 refl {r = record { number = c.store_head.result; pool = c.store_head.new.left }} c.store_head.ensures c.refresh-step.ensures.1
