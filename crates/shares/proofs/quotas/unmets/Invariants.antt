-- Task by task.
use mathlib.Core.Path.{◌≡◌}
use Rattle.lists.specs.Filled.{Filled}
use Rattle.shares.specs.Quotas.{unmet_by}
use Rattle.shares.proofs.quotas.unmets.Given as goal

abbrev pub invariant-loop-i : goal.invariant-loop-i
invariant-loop-i l = Filled 0 (λ k x. x ≡ unmet_by l.small l.share-items l.made k) 16 l.i l.out
