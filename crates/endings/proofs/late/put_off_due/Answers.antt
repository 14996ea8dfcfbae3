-- What the wrapping sum ensures.
use Rattle.ledger.specs.Limits.{counter_range}
use Rattle.endings.proofs.late.put_off_due.Goals as goal

pub returns-then-late : goal.returns-then-late
unfolding counter_range
returns-then-late c = rw c.if-late.true c.wrapping_add_u32.ensures.value
