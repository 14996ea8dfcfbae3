-- The loop stores the handles' bytes one after the other.
use Rattle.text.proofs.HandleBytes.{Stored}
use Rattle.text.proofs.batches.handle_bytes.Given as goal

abbrev pub invariant-loop-handle : goal.invariant-loop-handle
invariant-loop-handle l = Stored l.enough l.initial.bytes l.handle-index l.bytes l.count
