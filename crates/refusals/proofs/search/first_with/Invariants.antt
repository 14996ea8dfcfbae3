-- A search for the first block of a range with this handle, a group at a time while none of the group has it.
use Prim.Native.Nat.{◌-◌}
use lib.ListN.{take, drop}
use Rattle.lists.specs.Tables.{first_from}
use Rattle.lists.proofs.Loops.{Scanned}
use Rattle.refusals.proofs.Searching.{is_of}
use Rattle.refusals.proofs.search.first_with.Given as goal

abbrev pub invariant-loop-n : goal.invariant-loop-n
invariant-loop-n l = Scanned (first_from l.from (is_of l.handle) (drop l.from (take l.to l.handles))) l.handles l.to l.n (first_from l.n (is_of l.handle))

abbrev pub decreases-loop-n : goal.decreases-loop-n
decreases-loop-n l = l.to - l.n

abbrev pub invariant-loop-i : goal.invariant-loop-i
invariant-loop-i l = Scanned (first_from l.from (is_of l.handle) (drop l.from (take l.to l.handles))) l.handles l.to l.i (first_from l.i (is_of l.handle))
