-- The whole block is its part from the start on.
use native.Mathlib.Nat.{le_of_eq}
use mathlib.Core.Path.{◌∙◌}
use lib.Seq.{take_all}
use Rattle.stores.proofs.Places.{part_size}
use Rattle.stores.proofs.sums.block_sum.Goals as goal

pub returns : goal.returns
returns c =
    c.part_sum.ensures
    ∙ rw (c.block_size.ensures, take_all _ _ (le_of_eq (part_size c.requires)))
