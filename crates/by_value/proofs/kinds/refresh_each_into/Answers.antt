-- The batch on the columns, with the host's handles as bytes.
use mathlib.Core.Path.{refl}
use Rattle.by_value.proofs.ByValue.{handles_sent}
use Rattle.by_value.proofs.Promises.{refreshes_each}
use Rattle.by_value.proofs.kinds.refresh_each_into.Goals as goal

pub returns : goal.returns
returns c = refreshes_each c.well_formed.0 refl {r = record { number = c.store_head.result; pool = c.store_head.new.left }} c.store_head.ensures (handles_sent c.handle_bytes-handed.ensures c.batch-step.ensures.1)
