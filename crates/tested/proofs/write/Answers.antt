-- 15, 14, or the write itself.
use mathlib.Core.Path.{refl}
use Rattle.ledger.specs.declared.Call.TheVariants.{Write}
use Rattle.ledger.specs.declared.Request.TheVariants.{Use}
use Rattle.tested.proofs.Tested.{unfit_written, wrong_written, ready_lent}
use Rattle.tested.proofs.write.Goals as goal

pub returns-then-not-is_well_formed : goal.returns-then-not-is_well_formed
returns-then-not-is_well_formed c = rw c.refused.ensures (unfit_written c.requires c.is_well_formed.ensures (rw c.if-not-is_well_formed.true))

pub returns-then-not-are_whole : goal.returns-then-not-are_whole
returns-then-not-are_whole c = rw c.refused-then-not-are_whole.ensures (wrong_written c.requires c.is_well_formed.ensures (rw c.if-not-is_well_formed.false) c.are_whole.ensures (rw c.if-not-are_whole.true))

pub write-answer-requires : goal.write-answer-requires
write-answer-requires c = (c.requires, ready_lent c.requires c.is_well_formed.ensures (rw c.if-not-is_well_formed.false) c.are_whole.ensures (Use (Write _ _ _)) refl (rw c.if-not-are_whole.false))
