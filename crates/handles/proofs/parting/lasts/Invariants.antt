-- Each block stands at its key, until a later one of that key does.
use Rattle.handles.proofs.Digits.{LastsTo}
use Rattle.handles.proofs.parting.lasts.Given as goal

abbrev pub invariant-loop-i : goal.invariant-loop-i
invariant-loop-i l = LastsTo l.keys l.i l.out
