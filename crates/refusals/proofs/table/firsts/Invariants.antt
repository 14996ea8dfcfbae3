-- From the last block to the first.
use Rattle.refusals.specs.Firsts.{FirstBlocks}
use Rattle.refusals.proofs.table.firsts.Given as goal

abbrev pub invariant-loop-block : goal.invariant-loop-block
invariant-loop-block l = FirstBlocks l.block l.handles l.out
