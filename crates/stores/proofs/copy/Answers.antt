-- The loops copy the bytes.
use mathlib.Core.Path.{refl}
use borrow.Author.Rules.{rules}
use Rattle.lists.proofs.Copies.{copied_part, copied_turn}
use Rattle.stores.proofs.copy.Goals as goal

pub loop-done-preserved : goal.loop-done-preserved
loop-done-preserved c =
    copied_part _ _ c.loop-done.invariant (search rules) (search rules)
    c.copy_from_slice.ensures.after

pub loop-i-preserved : goal.loop-i-preserved
loop-i-preserved c = copied_turn _ 0 c.loop-i.invariant (search rules) refl
