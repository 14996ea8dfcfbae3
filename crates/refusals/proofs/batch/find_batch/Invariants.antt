-- One pass over the handles.
use Rattle.ledger.specs.Objects.{handles_of}
use Rattle.refusals.proofs.Batches.{Passed}
use Rattle.refusals.proofs.batch.find_batch.Given as goal

abbrev pub invariant-loop-i : goal.invariant-loop-i
invariant-loop-i l = Passed l.given l.handles (handles_of l.bytes) l.i-end l.i l.blocks l.ungiven l.gone
