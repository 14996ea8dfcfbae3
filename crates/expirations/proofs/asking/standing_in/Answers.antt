-- A count of one half, which a byte can hold.
use Rattle.std.proofs.Common.{refl, arith, rules}
use Rattle.lists.proofs.Loops.{count_turn, count_end}
use Rattle.expirations.specs.Standing.{is_used_clock, half_size}
use Rattle.expirations.proofs.Counting.{part_start, part_within}
use Rattle.expirations.proofs.asking.standing_in.Goals as goal

pub loop-clock-init : goal.loop-clock-init
loop-clock-init c = part_start half_size _ (search rules)

pub overflow_add-n : goal.overflow_add-n
overflow_add-n c = omega (arith, part_within half_size _ (search rules) (count_turn is_used_clock 0 c.loop-clock.n c.loop-clock.invariant (search rules) refl))

pub loop-clock-preserved : goal.loop-clock-preserved
loop-clock-preserved c = count_turn is_used_clock 0 c.loop-clock.n c.loop-clock.invariant (search rules) refl

pub returns : goal.returns
returns c = count_end is_used_clock c.loop-clock.n c.loop-clock.invariant (search rules)
