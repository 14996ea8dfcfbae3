-- Nothing to set where none is pinned; else entry by entry.
use Rattle.std.proofs.Common.{◌≤◌}
use Rattle.fitness.specs.Pins.{PinsTo}
use Rattle.fitness.proofs.pins.pin_in.Given as goal

abbrev pub invariant-loop-i : goal.invariant-loop-i
invariant-loop-i l = (l.i ≤ l.i-end) × PinsTo l.clocks l.named l.i l.flags l.once
