-- The key of each block.
use mathlib.Core.Path.{◌≡◌}
use lib.ListN.{get_or}
use Rattle.lists.specs.Filled.{Filled}
use Rattle.handles.specs.Handles.{key_of}
use Rattle.handles.proofs.parting.keys_of.Given as goal

abbrev pub invariant-loop-i : goal.invariant-loop-i
invariant-loop-i l = Filled 0 (λ k x. x ≡ key_of l.bits (get_or l.parts k 0) (get_or l.handles k 0)) 96 l.i l.out
