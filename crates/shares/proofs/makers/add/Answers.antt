-- By the turn's block.
use native.Mathlib.Omega.{arith}
use Rattle.shares.proofs.Counting.{added_one}
use Rattle.shares.proofs.makers.add.Goals as goal

pub returns : goal.returns
returns c = rw c.from.ensures (added_one c.requires.0 c.requires.1 (omega (arith, c.maker_in-maker.ensures)) c.maker_in-maker.ensures)
