-- A bit for each task, gathered from the last one down.
use Rattle.std.proofs.Common.{false, sym, ◌∙◌, arith}
use Rattle.std.proofs.lemmas.Iterator.Adapters.{YieldsList-from_rev_slice}
use Rattle.std.proofs.lemmas.Iterator.Consumers.{YieldsList-turn, YieldsList-end}
use lib.ListN.{length-reverse}
use Rattle.lists.proofs.Bits.{bits_map, gathered_room, gathered_end}
use Rattle.ledger.specs.Awaited.{is_awaited}
use Rattle.record.specs.Codes.{task_of, is_pending_entry}
use Rattle.record.proofs.running.awaited.Goals as goal

pub overflow_mul-bits : goal.overflow_mul-bits
overflow_mul-bits c =
    let t = YieldsList-turn (YieldsList-from_rev_slice c.args.tasks cc) c.loop-task.yielded _ c.loop-task.yielded_by _ _ c.in-Some.task c.in-Some.is c.next.ensures.steps in
    omega (arith, gathered_room is_pending_entry c.loop-task.invariant (omega (arith, t.0, c.loop-task.invariant.size, length-reverse c.args.tasks)) false)

pub overflow_add-bits : goal.overflow_add-bits
overflow_add-bits c =
    let t = YieldsList-turn (YieldsList-from_rev_slice c.args.tasks cc) c.loop-task.yielded _ c.loop-task.yielded_by _ _ c.in-Some.task c.in-Some.is c.next.ensures.steps in
    rw c.from.ensures
    (record { fits = gathered_room is_pending_entry c.loop-task.invariant (omega (arith, t.0, c.loop-task.invariant.size, length-reverse c.args.tasks)) c.is_pending.result })

pub returns : goal.returns
returns c =
    let t = YieldsList-end (YieldsList-from_rev_slice c.args.tasks cc) c.loop-task.yielded _ c.loop-task.yielded_by _ _ c.in-None.is c.next.ensures.steps in
    gathered_end is_pending_entry c.loop-task.invariant (omega (arith, t.1, c.loop-task.invariant.size, length-reverse c.args.tasks)) ∙ sym (bits_map is_awaited task_of c.args.tasks)
