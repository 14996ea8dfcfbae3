-- Place by place.
use Rattle.std.proofs.Common.{◌≡◌, ◌+◌, false}
use Rattle.record.specs.Tables.{group_size}
use Rattle.lists.specs.Filled.{Filled}
use Rattle.endings.specs.Ending.{is_over_at}
use Rattle.endings.proofs.ending.over.Given as goal

abbrev pub invariant-loop-i : goal.invariant-loop-i
invariant-loop-i g l = Filled false (λ k x. x ≡ is_over_at (g.C.Clock.now l.by) l.dues (l.from + k)) group_size l.i l.over-items
