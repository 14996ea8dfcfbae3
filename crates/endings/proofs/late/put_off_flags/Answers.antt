-- A flag for each task, from the first global clock on.
use Rattle.std.proofs.Common.{arith, rules}
use Rattle.expirations.proofs.Places.{changed_end}
use Rattle.endings.proofs.PutOff.{put_off_flags}
use Rattle.endings.proofs.late.put_off_flags.Goals as goal

pub returns : goal.returns
returns c = put_off_flags _ (search rules) (changed_end c.loop-task.invariant.1 (omega arith) (omega arith))
