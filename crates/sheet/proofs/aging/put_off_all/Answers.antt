-- Task by task.
use mathlib.Core.Path.{sym, ◌∙◌}
use borrow.Author.Rules.{rules}
use Rattle.sheet.proofs.PutOff.{put_off_start, put_off_stays, put_off_turns, put_off_size, put_off_few, put_off_end}
use Rattle.sheet.proofs.aging.put_off_all.Goals.{then-is_waiting, else-is_waiting}
use Rattle.sheet.proofs.aging.put_off_all.Goals as goal

pub loop-task-init : goal.loop-task-init
loop-task-init c = put_off_start _ _ _ c.requires.1

pub put_off-requires : goal.put_off-requires
put_off-requires c = let l = c.loop-task.invariant in (c.requires.0 ∙ sym (put_off_size l), put_off_few l)

pub loop-task-preserved : goal.loop-task-preserved
loop-task-preserved c =
    elim c.if-is_waiting.branch [
      | then-is_waiting w ↦ rw w.units-is (put_off_turns c.loop-task.invariant (search rules) c.is_waiting.ensures w.if-is_waiting.true w.put_off.ensures)
      | else-is_waiting w ↦ rw w.units-is (put_off_stays c.loop-task.invariant (search rules) c.is_waiting.ensures w.if-is_waiting.false)
    ]

pub returns : goal.returns
returns c = put_off_end c.loop-task.invariant (search rules)
