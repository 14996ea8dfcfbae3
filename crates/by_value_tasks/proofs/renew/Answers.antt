-- 01's figures may be chosen.
use Rattle.ledger.specs.Limits.{standard}
use Rattle.ledger.proofs.Figures.{standard_allowed}
use Rattle.record.proofs.FreshReads.{fresh_fit}
use Rattle.by_value_tasks.proofs.renew.Goals as goal

pub returns : goal.returns
unfolding standard
returns c = record {
  told = rw standard_allowed;
  left = c.fresh.ensures;
  fit = rw c.fresh.ensures (fresh_fit standard);
}
