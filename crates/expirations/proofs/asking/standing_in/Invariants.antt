-- A count of one half, which a byte can hold.
use Rattle.std.proofs.Common.{◌+◌}
use Rattle.lists.proofs.Loops.{Scanned}
use Rattle.expirations.specs.Standing.{standing_of, half_size}
use Rattle.expirations.proofs.asking.standing_in.Given as goal

abbrev pub invariant-loop-clock : goal.invariant-loop-clock
invariant-loop-clock l = Scanned (standing_of l.clock-items) l.clock-items half_size l.clock-index (λ ys. l.n + standing_of ys)
