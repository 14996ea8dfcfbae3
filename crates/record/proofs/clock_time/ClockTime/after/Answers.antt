-- By what the wrapping sum is.
use Rattle.ledger.specs.Limits.{counter_range}
use Rattle.record.proofs.clock_time.ClockTime.after.Goals as goal

pub returns : goal.returns
unfolding counter_range
returns g c = rw (c.at.ensures, c.wrapping_add_u32.ensures.value, c.ticks.ensures)
