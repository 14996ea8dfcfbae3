-- The four bytes at its place.
use mathlib.Core.Path.{sym, ◌∙◌}
use borrow.Author.Rules.{rules}
use Rattle.ledger.proofs.Batches.{handle_at_lem}
use Rattle.refusals.proofs.batch.handle_at.Goals as goal

pub returns : goal.returns
returns c = c.joined.ensures ∙ sym (handle_at_lem _ _ (search rules))
