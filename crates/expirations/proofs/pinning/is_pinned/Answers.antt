-- Group by group.
use Rattle.std.proofs.Common.{arith, rules}
use Rattle.expirations.proofs.Pins.{pins_all}
use Rattle.expirations.proofs.Places.{asked_end}
use Rattle.expirations.proofs.pinning.is_pinned.Goals as goal

pub returns : goal.returns
returns c = pins_all (search rules) (search rules) (asked_end c.loop-g.invariant.1 (omega arith) (omega arith))
