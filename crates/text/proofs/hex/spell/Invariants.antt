-- The byte of each pair.
use mathlib.Core.Path.{◌≡◌}
use lib.ListN.{get_or}
use Rattle.lists.specs.Filled.{Filled}
use Rattle.text.specs.Pairs.{spelled_by}
use Rattle.text.proofs.hex.spell.Given as goal

abbrev pub invariant-loop-i : goal.invariant-loop-i
invariant-loop-i l = Filled 0 (λ k byte. byte ≡ spelled_by (get_or l.pairs k 0)) l.i-end l.i l.part
