-- Block by block.
use native.Mathlib.Omega.{arith}
use Rattle.shares.proofs.Counting.{added_two, added_at}
use Rattle.shares.proofs.makers.add_four.Goals as goal

pub returns : goal.returns
returns c = let three = c.before.before in
    let two = three.before.before in
    added_at
    (added_two (added_two (added_two two.add.ensures (added_at two.add-2.ensures (omega arith))) (added_at three.add-3.ensures (omega arith))) c.add-4.ensures)
    (omega arith)
