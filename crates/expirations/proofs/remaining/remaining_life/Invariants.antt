-- Group by group, to figures that fit a byte.
use Rattle.std.proofs.Common.{◌≡◌, ◌*◌, ◌≤◌, take}
use Rattle.record.specs.Tables.{group_size, group_count, expiration_list}
use Rattle.expirations.specs.Remaining.{units_in}
use Rattle.expirations.proofs.remaining.remaining_life.Given as goal

abbrev pub invariant-loop-g : goal.invariant-loop-g
invariant-loop-g l = (l.g ≤ group_count) × (l.left ≡ units_in l.q (take (l.g * group_size) (expiration_list l.expirations)))
