-- Row by row: what is over is counted down.
use native.Mathlib.Omega.{arith}
use Rattle.sheet.proofs.Kept.{uncounted_start, uncounted_kept, counted_in, counted_some, uncounted_less, uncounted_end}
use Rattle.sheet.proofs.sweeping.uncount.Goals.{then-left-eq0, else-left-eq0}
use Rattle.sheet.proofs.sweeping.uncount.Goals as goal

pub loop-i-init : goal.loop-i-init
loop-i-init c = uncounted_start _ _ _ c.requires.0 c.requires.1

pub bounds-counts-from : goal.bounds-counts-from
bounds-counts-from c = counted_in c.loop-i.invariant (omega arith) c.from.ensures

pub overflow_sub-counts : goal.overflow_sub-counts
overflow_sub-counts c = counted_some c.loop-i.invariant (omega arith) c.from.ensures c.if-left-eq0.true

pub bounds-counts-from-then-left-eq0 : goal.bounds-counts-from-then-left-eq0
bounds-counts-from-then-left-eq0 c = counted_in c.loop-i.invariant (omega arith) c.from.ensures

pub loop-i-preserved : goal.loop-i-preserved
loop-i-preserved c =
    elim c.if-left-eq0.branch [
      | then-left-eq0 w ↦ rw w.counts-is (uncounted_less c.loop-i.invariant (omega arith) w.from.ensures w.if-left-eq0.true)
      | else-left-eq0 w ↦ rw w.counts-is (uncounted_kept c.loop-i.invariant (omega arith) w.if-left-eq0.false)
    ]

pub returns : goal.returns
returns c = uncounted_end c.loop-i.invariant (omega arith)
