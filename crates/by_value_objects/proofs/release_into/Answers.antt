-- The release on the columns.
use mathlib.Core.Path.{refl}
use Rattle.by_value_objects.proofs.Promises.{releases}
use Rattle.by_value_objects.proofs.release_into.Goals as goal

pub returns : goal.returns
returns c = releases c.well_formed.0 refl {r = record { number = c.store_head.result; pool = c.store_head.new.left }} c.store_head.ensures c.release-step.ensures.1
