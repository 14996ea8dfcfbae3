-- The bytes lie in a block of the store that the test picks.
use native.Mathlib.Nat.{add_assoc}
use native.Mathlib.Omega.{arith}
use Rattle.record.proofs.Figures.{small_block, large_block}
use Rattle.stores.specs.Places.{small_after, large_after}
use Rattle.stores.proofs.Places.{part_within, store_bound}
use Rattle.stores.proofs.write_place.Goals as goal

pub overflow_add-at : goal.overflow_add-at
overflow_add-at c = let pre = c.requires in omega (arith, c.block_start.ensures, part_within pre, store_bound pre)

pub write_block-requires : goal.write_block-requires
write_block-requires c = rw (c.block_start.ensures, add_assoc) (rw (small_block c.if-block-lt-SMALL_COUNT.true) at (part_within c.requires))

pub returns-then-block-lt-SMALL_COUNT : goal.returns-then-block-lt-SMALL_COUNT
unfolding small_after large_after
returns-then-block-lt-SMALL_COUNT c = let e = small_block c.if-block-lt-SMALL_COUNT.true in
    (rw (e, ← c.block_start.ensures) c.write_block.ensures, rw e)

pub write_block-requires-2 : goal.write_block-requires-2
write_block-requires-2 c = rw (c.block_start.ensures, add_assoc) (rw (large_block c.if-block-lt-SMALL_COUNT.false) at (part_within c.requires))

pub returns : goal.returns
unfolding small_after large_after
returns c = let e = large_block c.if-block-lt-SMALL_COUNT.false in
    (rw e, rw (e, ← c.block_start.ensures) c.write_block-2.ensures)
