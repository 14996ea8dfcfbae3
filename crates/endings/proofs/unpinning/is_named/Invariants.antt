-- Group by group.
use Rattle.std.proofs.Common.{◌*◌, ◌≤◌}
use Rattle.record.specs.Tables.{group_size, group_count}
use Rattle.expirations.specs.Places.{SomeBetween}
use Rattle.expirations.specs.Naming.{is_named_at}
use Rattle.endings.proofs.unpinning.is_named.Given as goal

abbrev pub invariant-loop-g : goal.invariant-loop-g
invariant-loop-g l = (l.g ≤ group_count) × SomeBetween (is_named_at l.clocks l.named l.block) 0 (l.g * group_size) l.some
