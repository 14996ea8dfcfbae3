-- None ends where no clock is one of its; else clock by clock, by what is known of its place.
use Rattle.std.proofs.Common.{ℕ, ◌+◌, ◌≤◌}
use Rattle.record.specs.Tables.{group_size}
use Rattle.endings.specs.Ending.{is_its_over_at, Over, EndedBy}
use Rattle.endings.proofs.ending.end_in.Given as goal

-- whatever the time is that the places are judged by
abbrev pub invariant-loop-i : goal.invariant-loop-i
invariant-loop-i g l = (l.i ≤ group_size)
    × ((now : ℕ) → Over now l.dues l.from l.is_over-items → EndedBy (is_its_over_at (g.C.Clock.is_its l.by) now l.dues) l.from (l.from + l.i) l.initial.clocks l.clocks l.some)
