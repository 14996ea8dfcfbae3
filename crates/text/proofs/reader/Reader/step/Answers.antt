-- The line lies in the script.
use native.Mathlib.Omega.{arith}
use Rattle.text.proofs.Scripts.{line_lies}
use Rattle.text.proofs.reader.Reader.step.Goals as goal

pub slice_bounds-result-count : goal.slice_bounds-result-count
slice_bounds-result-count c = (line_lies _ _ c.line_at-line.ensures (omega (arith, c.if-self.false))).0

pub slice_bounds-result-start : goal.slice_bounds-result-start
slice_bounds-result-start c = (line_lies _ _ c.line_at-line.ensures (omega (arith, c.if-self.false))).0

pub slice_bounds-result-end : goal.slice_bounds-result-end
slice_bounds-result-end c = (line_lies _ _ c.line_at-line.ensures (omega (arith, c.if-self.false))).1
