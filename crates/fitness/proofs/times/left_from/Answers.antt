-- Each kind of time by its test.
use Rattle.std.proofs.Common.{rules}
use Rattle.record.proofs.Times.{left_of_lem}
use Rattle.fitness.proofs.times.left_from.Goals as goal

pub returns-in-None : goal.returns-in-None
returns-in-None c = rw c.in-None.is (left_of_lem _ _ _ (search rules) (search rules) (search rules) c.wrapping_sub_u32.ensures.value)
