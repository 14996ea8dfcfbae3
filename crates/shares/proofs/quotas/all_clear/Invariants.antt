-- A test of all tasks.
use mathlib.Core.Bool.{◌&&◌}
use lib.Dec.{eqb}
use Rattle.lists.specs.Tables.{all_from}
use Rattle.lists.proofs.Loops.{Scanned}
use Rattle.shares.specs.Quotas.{is_clear}
use Rattle.shares.proofs.quotas.all_clear.Given as goal

abbrev pub invariant-loop-i : goal.invariant-loop-i
invariant-loop-i l = Scanned (all_from 0 (is_clear l.tasks) l.shares) l.shares 16 l.i (λ ys. eqb l.over 0 && all_from l.i (is_clear l.tasks) ys)
