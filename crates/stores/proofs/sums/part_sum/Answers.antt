-- The part lies in the store that the test picks, has the block's bytes from the offset on, and no more of them than a block has.
use native.Mathlib.Nat.{add_assoc}
use native.Mathlib.Omega.{arith}
use mathlib.Core.Path.{◌∙◌, ap}
use lib.ListN.{length-take}
use Rattle.record.proofs.Figures.{small_block, large_block}
use Rattle.lists.specs.Sums.{total}
use Rattle.stores.proofs.Places.{most_bytes, part_within, store_bound, inside_bytes}
use Rattle.stores.proofs.sums.part_sum.Goals as goal

pub overflow_add-at : goal.overflow_add-at
overflow_add-at c = let pre = c.requires in omega (arith, c.block_start.ensures, part_within pre, store_bound pre)

pub part_of-requires : goal.part_of-requires
part_of-requires c = rw (c.block_start.ensures, add_assoc)
    (rw (small_block c.if-block-lt-SMALL_COUNT.true) at (part_within c.requires))

pub sum_of-requires : goal.sum_of-requires
sum_of-requires c = rw c.part_of.ensures (simp length-take (omega (arith, c.requires.within, most_bytes c.args.block)))

pub part_of-requires-else-block-lt-SMALL_COUNT : goal.part_of-requires-else-block-lt-SMALL_COUNT
part_of-requires-else-block-lt-SMALL_COUNT c = rw (c.block_start.ensures, add_assoc)
    (rw (large_block c.if-block-lt-SMALL_COUNT.false) at (part_within c.requires))

pub sum_of-requires-else-block-lt-SMALL_COUNT : goal.sum_of-requires-else-block-lt-SMALL_COUNT
sum_of-requires-else-block-lt-SMALL_COUNT c = rw c.part_of-else-block-lt-SMALL_COUNT.ensures (simp length-take (omega (arith, c.requires.within, most_bytes c.args.block)))

pub returns-then-block-lt-SMALL_COUNT : goal.returns-then-block-lt-SMALL_COUNT
returns-then-block-lt-SMALL_COUNT c =
    c.sum_of.ensures
    ∙ ap total (c.part_of.ensures
    ∙ rw c.block_start.ensures
    (rw (small_block c.if-block-lt-SMALL_COUNT.true) at (inside_bytes _ _ c.requires)))

pub returns-else-block-lt-SMALL_COUNT : goal.returns-else-block-lt-SMALL_COUNT
returns-else-block-lt-SMALL_COUNT c =
    c.sum_of-else-block-lt-SMALL_COUNT.ensures
    ∙ ap total (c.part_of-else-block-lt-SMALL_COUNT.ensures
    ∙ rw c.block_start.ensures
    (rw (large_block c.if-block-lt-SMALL_COUNT.false) at (inside_bytes _ _ c.requires)))
