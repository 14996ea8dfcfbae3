-- Group by group.
use Rattle.std.proofs.Common.{◌*◌, ◌≤◌}
use Rattle.record.specs.Tables.{group_size, group_count}
use Rattle.expirations.specs.Naming.{is_slot_at, BlockMarks}
use Rattle.expirations.proofs.naming.flags_of.Given as goal

abbrev pub invariant-loop-g : goal.invariant-loop-g
invariant-loop-g l = (l.g ≤ group_count) × BlockMarks (is_slot_at l.slots) (l.g * group_size) l.flags
