-- The counts of the first handles, and of those in use at the end.
use Rattle.handles.proofs.Counting.{CountedTo}
use Rattle.handles.proofs.counts.Given as goal

abbrev pub invariant-loop-handle : goal.invariant-loop-handle
invariant-loop-handle l = CountedTo l.handles l.handle-index l.out
