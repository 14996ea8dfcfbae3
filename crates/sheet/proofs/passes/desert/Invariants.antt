-- Clock by clock.
use Rattle.std.proofs.Common.{length}
use Rattle.lists.proofs.Loops.{Mapped}
use Rattle.sheet.specs.Passes.{deserted_by}
use Rattle.sheet.proofs.passes.desert.Given as goal

abbrev pub invariant-loop-clock : goal.invariant-loop-clock
invariant-loop-clock l = Mapped (λ j. deserted_by l.task) l.initial.clocks (length l.initial.clocks) l.clock-index l.clocks
