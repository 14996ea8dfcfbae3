-- Four stores, one after the other.
use Rattle.text.proofs.Puts.{puts_four}
use Rattle.text.proofs.batches.store_handle.Goals as goal

pub returns : goal.returns
returns c = rw c.word-four.ensures (puts_four _ _ _ _ _ _ c.requires)
