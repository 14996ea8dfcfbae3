-- The counts of the first handles, and of those in use at the end.
use native.Mathlib.Omega.{arith}
use mathlib.Core.Path.{refl}
use borrow.Author.Rules.{rules}
use Rattle.handles.proofs.Counting.{counted_start, counted_turn, counted_fits, counted_all, counted_end}
use Rattle.handles.proofs.counts.Goals as goal

pub loop-handle-init : goal.loop-handle-init
loop-handle-init c = counted_start _

pub overflow_add-out : goal.overflow_add-out
overflow_add-out c = omega (arith, counted_fits c.loop-handle.invariant (omega arith) refl)

pub loop-handle-preserved : goal.loop-handle-preserved
loop-handle-preserved c = counted_turn c.loop-handle.invariant (omega arith) refl

pub overflow_sub-out : goal.overflow_sub-out
overflow_sub-out c = omega (arith, counted_all (search rules) c.requires c.loop-handle.invariant (omega arith) 0 (omega arith), c.free_count.ensures)

pub returns : goal.returns
returns c = counted_end (search rules) c.requires c.loop-handle.invariant (omega arith) c.free_count.ensures
