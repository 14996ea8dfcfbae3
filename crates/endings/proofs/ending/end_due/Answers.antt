-- By the task's clock, and then by the global time where that has advanced.
use borrow.Author.Tests.{not-true, not-false}
use Rattle.endings.proofs.Clocks.{not_advanced, advanced}
use Rattle.endings.proofs.Ended.{ended_same, ended_then}
use Rattle.endings.proofs.ending.end_due.Goals as goal

pub returns-then-not-t : goal.returns-then-not-t
returns-then-not-t c = ended_same c.end_tasks-some.ensures (not_advanced c.args.t c.args.dues.now c.requires (not-true _ c.if-not-t.true))

pub returns : goal.returns
returns c = ended_same (ended_then c.end_tasks-some.ensures c.end_by.ensures) (advanced c.args.t c.args.dues.now c.requires (not-false _ c.if-not-t.false))
