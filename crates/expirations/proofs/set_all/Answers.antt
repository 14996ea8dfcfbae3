-- The entry made once, and put on block after block from the first free place on.
use Rattle.std.proofs.Common.{arith, rules}
use Rattle.expirations.proofs.Setting.{made_used, set_start, set_free, set_turn}
use Rattle.expirations.proofs.set_all.Goals as goal

pub loop-block-init : goal.loop-block-init
loop-block-init c = set_start _ _ _ c.requires.0 c.requires.3 c.free_entry-from.ensures

-- there is a free entry for each
pub put-requires : goal.put-requires
put-requires c = (c.loop-block.invariant.sized, c.free_from-at.ensures, set_free _ c.loop-block.invariant (search rules) c.free_from-at.ensures)

pub overflow_add-from : goal.overflow_add-from
overflow_add-from c = omega (arith, set_free _ c.loop-block.invariant (search rules) c.free_from-at.ensures)

pub loop-block-preserved : goal.loop-block-preserved
loop-block-preserved c = let a = c.args in
    let used = made_used a.h.tasks a.h.global a.kind a.task a.extension 0 c.entry_for-first.ensures in
    set_turn _ c.loop-block.invariant (search rules) (search rules) c.free_from-at.ensures used c.put.ensures
