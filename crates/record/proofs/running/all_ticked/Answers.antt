-- A search for a pending task that notes whether one runs.
use Rattle.std.proofs.Common.{sym, ◌∙◌, rules}
use Rattle.lists.proofs.Loops.{scanned_turn, scanned_stop, scanned_end}
use Rattle.record.specs.Codes.{absent_entry}
use Rattle.record.proofs.States.{ticked_start, ticked_turn, ticked_stop, ticked_end}
use Rattle.record.proofs.running.all_ticked.Goals as goal

pub returns-then-is_pending : goal.returns-then-is_pending
returns-then-is_pending c = let l = c.before.before.before.before in
    scanned_stop _ absent_entry l.loop-task.invariant (search rules) (λ ys. ticked_stop _ _ ys c.is_pending.ensures c.if-is_pending.true)
    ∙ ticked_start l.args.tasks

pub loop-task-preserved : goal.loop-task-preserved
loop-task-preserved c = let pending = c.is_pending.ensures in
    scanned_turn _ absent_entry c.loop-task.invariant (search rules)
    (λ ys. ticked_turn _ _ ys c.is_running-some.ensures pending c.if-is_pending.false)

pub returns : goal.returns
returns c = sym (ticked_end _) ∙ scanned_end c.loop-task.invariant (search rules) ∙ ticked_start c.args.tasks
