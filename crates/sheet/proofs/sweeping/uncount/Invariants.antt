-- Row by row: what is over is counted down.
use Rattle.std.proofs.Common.{length}
use Rattle.sheet.proofs.Kept.{Uncounted}
use Rattle.sheet.proofs.sweeping.uncount.Given as goal

abbrev pub invariant-loop-i : goal.invariant-loop-i
invariant-loop-i l = Uncounted l.units l.places (length l.initial.counts) l.i l.counts
