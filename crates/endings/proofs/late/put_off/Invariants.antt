-- Nothing changes without an advance, and where no task waits; else two groups by two.
use Rattle.std.proofs.Common.{◌*◌, ◌≤◌}
use Rattle.record.specs.Tables.{group_size, group_count}
use Rattle.endings.specs.Late.{put_off_by}
use Rattle.expirations.specs.Places.{Changed}
use Rattle.endings.proofs.late.put_off.Given as goal

abbrev pub invariant-loop-g : goal.invariant-loop-g
invariant-loop-g l = (l.g * 2 ≤ group_count) × Changed 0 (put_off_by l.flags l.clocks) 0 (l.g * 2 * group_size) l.initial.dues l.dues
