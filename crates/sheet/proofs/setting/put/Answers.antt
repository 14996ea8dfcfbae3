-- Four stores.
use native.Mathlib.Omega.{arith}
use Rattle.sheet.proofs.Set.{counter_room, sets}
use Rattle.sheet.proofs.setting.put.Goals as goal

pub overflow_add-counts : goal.overflow_add-counts
overflow_add-counts c = rw c.from.ensures (omega (arith, counter_room c.requires))

pub returns : goal.returns
returns c = rw c.from.ensures (sets c.requires c.args.clock)
