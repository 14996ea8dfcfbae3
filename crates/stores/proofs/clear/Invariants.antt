-- The loops copy a list of zeros.
use Prim.Native.Nat.{◌-◌}
use lib.ListN.{length, replicate}
use Rattle.lists.proofs.Copies.{Copied}
use Rattle.stores.proofs.clear.Given as goal

abbrev pub invariant-loop-part : goal.invariant-loop-part
invariant-loop-part l = Copied (replicate (length l.initial.part) 0) l.initial.part (length l.initial.part) l.done l.part

abbrev pub decreases-loop-part : goal.decreases-loop-part
decreases-loop-part l = length l.initial.part - l.done

abbrev pub invariant-loop-i : goal.invariant-loop-i
invariant-loop-i l = Copied (replicate l.i-end 0) l.initial.part l.i-end l.i l.part
