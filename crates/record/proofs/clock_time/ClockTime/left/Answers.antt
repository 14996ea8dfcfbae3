-- What the wrapping difference ensures is what `units_left` says.
use Rattle.std.proofs.Common.{rules}
use Rattle.record.proofs.Times.{left_of_lem}
use Rattle.record.proofs.clock_time.ClockTime.left.Goals as goal

pub returns : goal.returns
returns g c = rw (← c.ticks.ensures, ← c.ticks-2.ensures) (left_of_lem _ _ _ (search rules) (search rules) (search rules) c.wrapping_sub_u32.ensures.value)
