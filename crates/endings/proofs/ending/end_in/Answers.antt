-- None ends where no clock is one of its; else clock by clock, by what is known of its place.
use Rattle.std.proofs.Common.{arith, rules}
use mathlib.Core.Bool.{and-eq-true_iff}
use Rattle.record.specs.Tables.{group_size}
use Rattle.expirations.proofs.Places.{asked_unless}
use Rattle.endings.proofs.Ended.{ended_none, ended_turn, ended_end}
use Rattle.endings.proofs.Groups.{asked_range}
use Rattle.endings.proofs.ending.end_in.Goals as goal

pub returns-then-not-any_its : goal.returns-then-not-any_its
returns-then-not-any_its g c =
    let a = c.args in
    ended_none _ a.clocks.now
    (asked_unless (asked_range a.from group_size (g.C.Clock.is_its a.by) 0 a.clocks.now (omega arith) c.any_its.ensures) c.if-not-any_its.true
    (λ k e. ((and-eq-true_iff _ _).0 e).0))

pub loop-i-preserved : goal.loop-i-preserved
loop-i-preserved g c = (
  omega arith,
  λ now over.
      ended_end
      (ended_turn (c.loop-i.invariant.1 now over) (omega arith) (rw (c.is_its.ensures, over.so c.loop-i.i (search rules))) c.kept.ensures)
      (omega arith) (omega arith),
)

pub returns : goal.returns
returns g c = ended_end (c.loop-i.invariant.1 _ c.over-over.ensures) (omega arith) (omega arith)
