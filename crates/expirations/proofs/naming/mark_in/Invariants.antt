-- Flag by flag.
use Rattle.std.proofs.Common.{◌+◌, ◌≤◌}
use Rattle.record.specs.Tables.{group_size}
use Rattle.expirations.specs.Naming.{is_slot_at, BlockMarks}
use Rattle.expirations.proofs.naming.mark_in.Given as goal

abbrev pub invariant-loop-slot : goal.invariant-loop-slot
invariant-loop-slot l = (l.slot-index ≤ group_size) × BlockMarks (is_slot_at l.slots) (l.from + l.slot-index) l.flags
