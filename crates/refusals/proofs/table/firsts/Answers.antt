-- From the last block to the first.
use Rattle.refusals.proofs.Firsts.{firsts_start}
use Rattle.refusals.proofs.table.firsts.Goals as goal

pub loop-block-init : goal.loop-block-init
loop-block-init c = firsts_start _
