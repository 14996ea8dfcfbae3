-- Whether each block is in use.
use mathlib.Core.Bool.{false, not}
use mathlib.Core.Path.{◌≡◌}
use lib.Dec.{eqb}
use lib.ListN.{get_or}
use Rattle.lists.specs.Filled.{Filled}
use Rattle.handles.proofs.used_of.Given as goal

abbrev pub invariant-loop-i : goal.invariant-loop-i
invariant-loop-i l = Filled false (λ k x. x ≡ not (eqb (get_or l.handles k 0) 0)) 96 l.i l.out
