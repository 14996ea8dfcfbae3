-- The entry made once, and put on block after block from the first free place on.
use Rattle.record.specs.Tables.{expiration_list}
use Rattle.expirations.proofs.Setting.{on_block, SetTo}
use Rattle.expirations.proofs.set_all.Given as goal

abbrev pub invariant-loop-block : goal.invariant-loop-block
invariant-loop-block l = SetTo (on_block l.first) l.block-items l.count (expiration_list l.initial.expirations) l.block-index l.from l.expirations
