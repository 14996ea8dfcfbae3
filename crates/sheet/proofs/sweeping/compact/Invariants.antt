-- From the last row down, the three columns alike.
use Rattle.sheet.proofs.Kept.{Shifted}
use Rattle.sheet.proofs.sweeping.compact.Given as goal

abbrev pub invariant-loop-i : goal.invariant-loop-i
invariant-loop-i l = Shifted l.initial.units l.initial.clocks l.i l.from l.clocks
    × Shifted l.initial.units l.initial.places l.i l.from l.places × Shifted l.initial.units l.initial.units l.i l.from l.units
