-- A test of all tasks.
use mathlib.Core.Bool.{◌&&◌}
use Rattle.lists.specs.Tables.{all_from}
use Rattle.lists.proofs.Loops.{Scanned}
use Rattle.shares.specs.Quotas.{is_quota_kept}
use Rattle.shares.proofs.quotas.all_within.Given as goal

abbrev pub invariant-loop-i : goal.invariant-loop-i
invariant-loop-i l = Scanned (all_from 0 (is_quota_kept l.small l.made) l.share-items) l.share-items 16 l.i (λ ys. l.fit && all_from l.i (is_quota_kept l.small l.made) ys)
