-- The first part of each block.
use lib.ListN.{get_or}
use Rattle.lists.specs.Filled.{Filled}
use Rattle.handles.specs.Handles.{FirstPart}
use Rattle.handles.proofs.parting.first_parts.Given as goal

abbrev pub invariant-loop-i : goal.invariant-loop-i
invariant-loop-i l = Filled 0 (λ k x. FirstPart (get_or l.handles k 0) x) 96 l.i l.out
