-- The loops copy a list of zeros.
use native.Mathlib.Nat.{add-sub_cancel_left}
use mathlib.Core.Path.{sym, ◌∙◌}
use lib.ListN.{length, get_or-replicate}
use borrow.Author.Rules.{rules}
use Rattle.lists.proofs.Blocks.{part_replicate}
use Rattle.lists.proofs.Copies.{copied_part, copied_turn}
use Rattle.stores.proofs.clear.Goals as goal

pub loop-part-preserved : goal.loop-part-preserved
loop-part-preserved c = let at = c.loop-part in
    let n = length c.args.part.now in
    copied_part _ _ at.invariant (search rules) (search rules)
    (c.copy_from_slice.ensures.after ∙ rw add-sub_cancel_left (sym (part_replicate at.done 8 n 0 (search rules))))

pub loop-i-preserved : goal.loop-i-preserved
loop-i-preserved c = let n = length c.loop-part.part in
    copied_turn 0 0 c.loop-i.invariant (search rules) (sym (get_or-replicate n c.loop-i.i 0 0 (search rules)))
