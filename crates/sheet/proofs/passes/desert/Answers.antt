-- Clock by clock.
use borrow.Author.Rules.{rules}
use Rattle.lists.proofs.Loops.{mapped_turn, mapped_all}
use Rattle.sheet.proofs.passes.desert.Goals as goal

pub loop-clock-preserved : goal.loop-clock-preserved
loop-clock-preserved c = mapped_turn 0 _ c.loop-clock.invariant (search rules) c.deserted.ensures

pub returns : goal.returns
returns c = mapped_all c.loop-clock.invariant (search rules)
