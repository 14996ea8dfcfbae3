-- Those of the first blocks.
use Prim.Native.Nat.{◌+◌}
use native.Mathlib.Omega.{arith}
use mathlib.Core.Bool.{not, false}
use mathlib.Core.Path.{◌≡◌, refl}
use lib.ListN.{length}
use borrow.Author.Rules.{rules}
use Rattle.lists.specs.Tests.{count}
use Rattle.lists.proofs.Loops.{scanned_start, count_turn, count_end}
use Rattle.handles.proofs.Counting.{count_most}
use Rattle.handles.proofs.free_count.Goals as goal

pub loop-used-init : goal.loop-used-init
loop-used-init c = scanned_start (λ ys. 0 + count not ys) _ 96 (search rules)

pub overflow_add-out : goal.overflow_add-out
overflow_add-out c =
    let turned = count_turn not false c.loop-used.out c.loop-used.invariant (search rules) refl in
    let size : length c.args.used.now ≡ 96 = search rules in
    omega (arith, turned.so, c.from-out.ensures, count_most not c.args.used.now, size)

pub loop-used-preserved : goal.loop-used-preserved
loop-used-preserved c = rw c.from-out.ensures (count_turn not false c.loop-used.out c.loop-used.invariant (search rules) refl)

pub returns : goal.returns
returns c = omega (arith, count_end not _ c.loop-used.invariant (search rules))
