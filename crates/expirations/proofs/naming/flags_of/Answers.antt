-- Group by group.
use Rattle.std.proofs.Common.{arith}
use Rattle.expirations.proofs.Flags.{marks_start}
use Rattle.expirations.proofs.naming.flags_of.Goals as goal

pub loop-g-init : goal.loop-g-init
loop-g-init c = (omega arith, marks_start _)
