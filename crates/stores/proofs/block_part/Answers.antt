-- The part lies in the store that the test picks, and has the block's bytes.
use mathlib.Core.Path.{◌∙◌}
use Rattle.record.proofs.Figures.{small_block, large_block}
use Rattle.stores.proofs.Places.{part_within, part_bytes}
use Rattle.stores.proofs.block_part.Goals as goal

pub part_of-requires : goal.part_of-requires
part_of-requires c =
    rw c.block_start-start.ensures
    (rw (small_block c.if-block-lt-SMALL_COUNT.true) at (part_within c.requires))

pub part_of-requires-else-block-lt-SMALL_COUNT : goal.part_of-requires-else-block-lt-SMALL_COUNT
part_of-requires-else-block-lt-SMALL_COUNT c =
    rw c.block_start-start.ensures
    (rw (large_block c.if-block-lt-SMALL_COUNT.false) at (part_within c.requires))

pub returns-then-block-lt-SMALL_COUNT : goal.returns-then-block-lt-SMALL_COUNT
returns-then-block-lt-SMALL_COUNT c =
    c.part_of.ensures
    ∙ rw c.block_start-start.ensures
    (rw (small_block c.if-block-lt-SMALL_COUNT.true) at (part_bytes c.requires))

pub returns-else-block-lt-SMALL_COUNT : goal.returns-else-block-lt-SMALL_COUNT
returns-else-block-lt-SMALL_COUNT c =
    c.part_of-else-block-lt-SMALL_COUNT.ensures
    ∙ rw c.block_start-start.ensures
    (rw (large_block c.if-block-lt-SMALL_COUNT.false) at (part_bytes c.requires))
