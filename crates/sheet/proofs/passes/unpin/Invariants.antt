-- Row by row.
use lib.ListN.{get_or}
use Rattle.lists.proofs.Loops.{Mapped}
use Rattle.sheet.specs.Passes.{unpinned_of}
use Rattle.sheet.proofs.passes.unpin.Given as goal

abbrev pub invariant-loop-i : goal.invariant-loop-i
invariant-loop-i l = Mapped (λ j u. unpinned_of l.place (get_or l.clocks j 0) (get_or l.places j 0) u) l.initial.units l.i-end l.i l.units
