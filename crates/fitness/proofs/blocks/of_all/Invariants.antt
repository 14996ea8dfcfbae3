-- Block by block.
use Rattle.std.proofs.Common.{get_or}
use Rattle.lists.specs.Filled.{Filled}
use Rattle.fitness.proofs.blocks.of_all.Given as goal

abbrev pub invariant-loop-i : goal.invariant-loop-i
invariant-loop-i g l = Filled 0 (λ k x. goal.F-post g l.part (get_or l.extents k 0) x) 96 l.i l.out-items
