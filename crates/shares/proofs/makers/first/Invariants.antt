-- Place by place.
use mathlib.Core.Path.{◌≡◌}
use lib.ListN.{get_or}
use Rattle.lists.specs.Filled.{Filled}
use Rattle.shares.proofs.makers.first.Given as goal

abbrev pub invariant-loop-i : goal.invariant-loop-i
invariant-loop-i l = Filled 0 (λ k x. x ≡ get_or l.table k 0) 16 l.i l.out
