-- By the tests before the pass, by what it finds, and by the tests after it.
use mathlib.Core.Path.{sym, ◌∙◌}
use Rattle.ledger.proofs.Batches.{handles_count}
use Rattle.objects.proofs.Batches.{plan_refused, plan_found}
use Rattle.objects.proofs.decide.plan_batch.Goals as goal

pub returns-in-Err : goal.returns-in-Err
returns-in-Err c = plan_refused _ _ _ _ _ _ _ (handles_count _) (sym c.batch_call_verdict.ensures ∙ c.in-Err.is)

pub returns : goal.returns
returns c =
    plan_found _ _ _ _ _ _ _ (handles_count _) (sym c.batch_call_verdict.ensures ∙ c.in_default.is) c.find_batch-found.ensures c.batch_objects_verdict-verdict.ensures
