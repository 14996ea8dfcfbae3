-- The flag of each entry.
use Rattle.std.proofs.Common.{◌≡◌, get_or}
use Rattle.lists.specs.Filled.{Filled}
use Rattle.fitness.specs.Checks.{slot_by}
use Rattle.fitness.proofs.codes.slots.Given as goal

abbrev pub invariant-loop-i : goal.invariant-loop-i
invariant-loop-i l = Filled 0 (λ k x. x ≡ slot_by (get_or l.clocks k 0) (get_or l.named k 0)) 256 l.i l.slot-items
