-- The pair at each place.
use mathlib.Core.Path.{◌≡◌}
use Rattle.lists.specs.Filled.{Filled}
use Rattle.ledger.specs.Limits.{large_size}
use Rattle.text.specs.Pairs.{pair_at}
use Rattle.text.proofs.hex.pairs.Given as goal

abbrev pub invariant-loop-i : goal.invariant-loop-i
invariant-loop-i l = Filled 0 (λ k pair. pair ≡ pair_at l.digits k) large_size l.i l.out
