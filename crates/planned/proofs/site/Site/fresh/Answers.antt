-- A fresh record of 01's figures.
use Rattle.ledger.specs.Limits.{standard}
use Rattle.planned.proofs.Sending.{fresh_fit, fresh_sized, fresh_figures, fresh_read}
use Rattle.planned.proofs.site.Site.fresh.Goals as goal

pub invariant_of-result : goal.invariant_of-result
unfolding standard
invariant_of-result c = record {
  sized = fresh_sized c.fresh.ensures;
  fit = fresh_fit c.fresh.ensures;
  figures = fresh_figures c.fresh.ensures;
}

pub returns : goal.returns
unfolding standard
returns c = fresh_read c.fresh.ensures _ _
