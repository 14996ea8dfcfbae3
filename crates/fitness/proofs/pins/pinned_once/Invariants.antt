-- Group by group.
use Rattle.std.proofs.Common.{◌*◌, ◌≤◌}
use Rattle.record.specs.Tables.{group_size, group_count}
use Rattle.fitness.specs.Pins.{PinsTo}
use Rattle.fitness.proofs.pins.pinned_once.Given as goal

abbrev pub invariant-loop-g : goal.invariant-loop-g
invariant-loop-g l = (l.g ≤ group_count) × PinsTo l.clocks l.named (l.g * group_size) l.flags l.once
