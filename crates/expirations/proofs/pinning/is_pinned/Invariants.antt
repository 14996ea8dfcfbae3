-- Group by group.
use Rattle.std.proofs.Common.{◌*◌, ◌≤◌}
use Rattle.record.specs.Tables.{group_size, group_count}
use Rattle.expirations.specs.Pinning.{is_pin_at}
use Rattle.expirations.specs.Places.{SomeBetween}
use Rattle.expirations.proofs.pinning.is_pinned.Given as goal

abbrev pub invariant-loop-g : goal.invariant-loop-g
invariant-loop-g l = (l.g ≤ group_count) × SomeBetween (is_pin_at l.block l.clocks l.named) 0 (l.g * group_size) l.some
