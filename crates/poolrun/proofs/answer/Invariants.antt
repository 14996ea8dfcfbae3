use Rattle.std.proofs.Common.{length, ◌-◌, ◌≡◌, List, ℕ}
use Rattle.std.specs.Io.KnownBytes.{Appends}
use Rattle.poolrun.proofs.Answering.{GoesOn}
use Rattle.script.specs.Output.{Runnable}
use Rattle.poolrun.proofs.answer.Given as goal

-- What is written so far is the start of the output, and the rest goes on from here.
abbrev pub invariant-loop-at : goal.invariant-loop-at
invariant-loop-at g l = Runnable l.p l.small l.large l.script l.at × (length l.out ≡ 65536)
    × (so_far : List ℕ) × GoesOn l.script l.initial.small l.initial.large so_far l.p l.small l.large l.at
    × Appends (g.W.Write.contents l.initial.output) (g.W.Write.contents l.output) so_far

abbrev pub decreases-loop-at : goal.decreases-loop-at
decreases-loop-at g l = length l.script - l.at
