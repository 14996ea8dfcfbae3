-- Two groups by two.
use Rattle.std.proofs.Common.{◌*◌, ◌≤◌}
use Rattle.record.specs.Tables.{group_size, group_count}
use Rattle.endings.specs.Ending.{is_its_over_at, EndedBy}
use Rattle.endings.proofs.ending.end_by.Given as goal

abbrev pub invariant-loop-g : goal.invariant-loop-g
invariant-loop-g g l = (l.g * 2 ≤ group_count)
    × EndedBy (is_its_over_at (g.C.Clock.is_its l.by) (g.C.Clock.now l.by) l.dues) 0 (l.g * 2 * group_size) l.initial.clocks l.clocks l.some
