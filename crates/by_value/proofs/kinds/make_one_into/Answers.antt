-- The make on the columns, and its handle.
use mathlib.Core.Path.{refl}
use Rattle.by_value.proofs.Promises.{makes}
use Rattle.by_value.proofs.kinds.make_one_into.Goals as goal

pub returns : goal.returns
returns c = makes c.well_formed.0 refl {r = record { number = c.store_head.result; pool = c.store_head.new.left }} c.store_head.ensures c.make-step.ensures.1 c.handle_or.ensures
