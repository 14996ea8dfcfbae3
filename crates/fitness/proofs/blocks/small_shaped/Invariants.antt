-- The first blocks.
use Rattle.fitness.specs.Checks.{ShapedTo}
use Rattle.fitness.proofs.blocks.small_shaped.Given as goal

abbrev pub invariant-loop-i : goal.invariant-loop-i
invariant-loop-i l = ShapedTo l.lengths l.prefixes l.i l.out
