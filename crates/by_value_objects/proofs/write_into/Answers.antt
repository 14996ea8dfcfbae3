-- The write on the columns.
use mathlib.Core.Path.{refl}
use Rattle.by_value_objects.proofs.Promises.{writes}
use Rattle.by_value_objects.proofs.write_into.Goals as goal

pub returns : goal.returns
returns c = writes c.well_formed.0 refl {r = record { number = c.store_head.result; pool = c.store_head.new.left }} c.store_head.ensures c.write-step.ensures.1
