-- Those of the first blocks.
use Prim.Native.Nat.{◌+◌}
use mathlib.Core.Bool.{not}
use Rattle.lists.specs.Tests.{count}
use Rattle.lists.proofs.Loops.{Scanned}
use Rattle.handles.proofs.free_count.Given as goal

abbrev pub invariant-loop-used : goal.invariant-loop-used
invariant-loop-used l = Scanned (0 + count not l.used) l.used 96 l.used-index (λ ys. l.out + count not ys)
