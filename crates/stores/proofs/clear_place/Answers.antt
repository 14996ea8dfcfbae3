-- The block lies in the store that the test picks.
use native.Mathlib.Nat.{add-zero}
use Rattle.record.proofs.Figures.{small_block, large_block}
use Rattle.record.specs.Reading.{size_of}
use Rattle.stores.specs.Places.{small_after, large_after}
use Rattle.stores.proofs.Places.{part_within}
use Rattle.stores.proofs.clear_place.Goals as goal

pub clear_block-requires : goal.clear_block-requires
unfolding size_of
clear_block-requires c = rw c.block_start-start.ensures (rw (small_block c.if-block-lt-SMALL_COUNT.true) at (part_within c.requires))

pub returns-then-block-lt-SMALL_COUNT : goal.returns-then-block-lt-SMALL_COUNT
unfolding size_of small_after large_after
returns-then-block-lt-SMALL_COUNT c = let e = small_block c.if-block-lt-SMALL_COUNT.true in
    (rw (e, add-zero, ← c.block_start-start.ensures) c.clear_block.ensures, rw e)

pub clear_block-requires-2 : goal.clear_block-requires-2
unfolding size_of
clear_block-requires-2 c = rw c.block_start-start.ensures (rw (large_block c.if-block-lt-SMALL_COUNT.false) at (part_within c.requires))

pub returns : goal.returns
unfolding size_of small_after large_after
returns c = let e = large_block c.if-block-lt-SMALL_COUNT.false in
    (rw e, rw (e, add-zero, ← c.block_start-start.ensures) c.clear_block-2.ensures)
