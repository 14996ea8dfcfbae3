-- By the test of the figures.
use mathlib.Core.Path.{sym, ◌∙◌}
use Rattle.record.proofs.FreshReads.{fresh_fit}
use Rattle.by_value_tasks.proofs.renew_sized.Goals as goal

pub returns-then-is_allowed : goal.returns-then-is_allowed
returns-then-is_allowed c = record {
  told = rw (sym c.is_allowed.ensures ∙ c.if-is_allowed.true);
  left = c.fresh.ensures;
  fit = rw c.fresh.ensures (fresh_fit _);
}

pub returns : goal.returns
returns c = record {
  told = rw (sym c.is_allowed.ensures ∙ c.if-is_allowed.false, c.from.ensures);
  left = c.fresh-2.ensures;
  fit = rw c.fresh-2.ensures (fresh_fit _);
}
