-- The first blocks of either store.
use native.Mathlib.Omega.{arith}
use Rattle.shares.proofs.Counting.{tallied_start, tallied_turn, tallied_at}
use Rattle.shares.proofs.makers.tally_both.Goals as goal

pub loop-g-init : goal.loop-g-init
loop-g-init c = (omega arith, tallied_start, tallied_start)

pub loop-g-preserved : goal.loop-g-preserved
loop-g-preserved c = let second = c.before.before in
    let first = second.before.before in
    let inv = first.loop-g.invariant in (
      omega arith,
      tallied_at (tallied_turn (tallied_turn inv.1 first.add_four.ensures) second.add_four-in-loop-g.ensures) (omega arith),
      tallied_at (tallied_turn inv.2 c.add_four-in-loop-g-2.ensures) (omega arith),
    )
