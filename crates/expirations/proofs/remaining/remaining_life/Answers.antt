-- Group by group, to figures that fit a byte.
use Rattle.std.proofs.Common.{◌≡◌, ◌+◌, ◌*◌, arith}
use Rattle.record.specs.Tables.{group_size}
use Rattle.expirations.proofs.Longest.{groups_turn, life_end}
use Rattle.expirations.proofs.remaining.remaining_life.Goals as goal

pub loop-g-preserved : goal.loop-g-preserved
loop-g-preserved c = let g = c.loop-g.g in
    let next : g * group_size + group_size ≡ (g + 1) * group_size = omega arith in
    (omega arith, rw next at (groups_turn _ _ (g * group_size) (g * group_size + group_size) (omega arith) c.loop-g.invariant.1 c.longest_in-left.ensures))

pub returns : goal.returns
returns c = let a = c.args in
    life_end a.h a.task a.block c.requires.0 c.requires.3 c.loop-g.left c.loop-g.g (omega arith) c.loop-g.invariant.1
