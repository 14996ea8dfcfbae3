-- Group by group.
use Rattle.std.proofs.Common.{arith, rules}
use Rattle.fitness.proofs.Once.{pins_start, pinned_end}
use Rattle.fitness.proofs.pins.pinned_once.Goals as goal

pub loop-g-init : goal.loop-g-init
loop-g-init c = (omega arith, pins_start (record { of_clocks = search rules; of_named = search rules }))

pub returns : goal.returns
returns c = pinned_end (record { of_clocks = search rules; of_named = search rules }) c.loop-g.invariant.1 (omega arith)
