-- Laws of a batch: the tests in the two parts in which they are made, before the pass over its handles and after it.
use Prim.Native.Nat.{ℕ, ◌+◌, ◌≤◌}
use mathlib.Core.Bool.{true, false, not, not-not}
use mathlib.Core.List.{List}
use mathlib.Core.Path.{◌≡◌, sym, ◌∙◌}
use borrow.Author.Tests.{ltb-false}
use lib.Dec.{eqb, ltb}
use lib.ListN.{length}
use Rattle.lists.specs.Tests.{any}
use Rattle.lists.proofs.All.{all_imp, none→All}
use Rattle.lists.proofs.Cases.{by_test, or_false_parts}
use Rattle.lists.proofs.Counts.{any_same}
use Rattle.ledger.specs.Limits.{largest_batch}
use Rattle.ledger.specs.Objects.{handles_of}
use Rattle.ledger.specs.Refusals.{is_not_given, verdict, as_verdict, Verdict}
use Rattle.ledger.specs.Rules.{tests_of}
use Rattle.ledger.specs.declared.Call.TheVariants.{Batch}
use Rattle.ledger.specs.declared.Kind.{Kind}
use Rattle.ledger.specs.declared.Refusal.{Refusal}
use Rattle.ledger.specs.declared.Refusal.TheVariants.{HandleNotGiven, ObjectGone}
use Rattle.ledger.specs.declared.Limits.{Limits}
use Rattle.record.specs.declared.Head.{Head}
use Rattle.record.specs.declared.TaskEntry.{TaskEntry}
use Rattle.steps.specs.Facts.{is_gone}
use Rattle.steps.specs.Objects.{place_in}
use Rattle.refusals.specs.Batches.{is_missing_in, FindsBatch}
use Rattle.refusals.specs.Verdicts.{and_then, refuse_if, task_verdict, set_verdict, batch_call_verdict, batch_objects_verdict}
use Rattle.refusals.proofs.Verdicts.{then_assoc, then_accepted, both_accept, not_refused, test_then, no_test, task_tests_lem}
use Rattle.refusals.specs.declared.batch.BatchFound.{BatchFound}
use Rattle.objects.specs.Batches.{batch_facts, PlansBatch}
use Rattle.std.specs.Prelude.{Ok, Err}

-- the first tests accept no more handles than a plan has room for
pub batch_fits : (limits : Limits) (task : ℕ) (kind : Kind) (extension : ℕ) (tasks : List TaskEntry) (count : ℕ) → batch_call_verdict limits task kind extension tasks count ≡ Ok tt → count ≤ largest_batch
batch_fits limits task kind extension tasks count e =
    let (known, later) = both_accept (task_verdict true task tasks) _ e in
    let (size, short) = both_accept _ (set_verdict limits kind extension) later in
    let (some, few) = or_false_parts (eqb count 0) (ltb largest_batch count) (not_refused _ _ size) in
    ltb-false largest_batch count few

module _ (task : ℕ) (kind : Kind) (extension : ℕ) (new : List ℕ) (h : Head) (handles : List ℕ) (standing : ℕ) where
  -- 12 by the places alone, of a handle that was given
  missing : (handle : ℕ) → is_not_given h.given handle ≡ false → is_missing_in handles handle
      ≡ not (not (is_gone handle (place_in handle handles)))
  missing handle given = rw ((or_false_parts (eqb handle 0) _ given).0, not-not)

  by_places : (v : Verdict)
      → and_then (refuse_if (any (is_not_given h.given) (handles_of new)) HandleNotGiven)
      (and_then (refuse_if (any (is_missing_in handles) (handles_of new)) ObjectGone) v)
      ≡ and_then (refuse_if (any (is_not_given h.given) (handles_of new)) HandleNotGiven)
      (and_then (refuse_if (any (λ (handle : ℕ). not (not (is_gone handle (place_in handle handles)))) (handles_of new)) ObjectGone) v)
  by_places v =
      by_test (any (is_not_given h.given) (handles_of new)) (λ e. rw e)
      (λ e. rw (any_same _ _ (handles_of new) (all_imp missing (handles_of new) (none→All _ (handles_of new) e))))

  -- the tests are those before the pass, and then those after it
  batch_tests : and_then (batch_call_verdict h.limits task kind extension h.tasks (length (handles_of new)))
      (batch_objects_verdict h.limits (any (is_not_given h.given) (handles_of new)) (any (is_missing_in handles) (handles_of new))
      (standing + length (handles_of new)))
      ≡ as_verdict (verdict (batch_facts h handles standing) (tests_of (Batch task kind extension) new))
  unfolding tests_of
  batch_tests = rw by_places (sym (task_tests_lem (batch_facts h handles standing) true task _ ∙ simp (test_then, no_test, then_accepted, then_assoc)))

  module _ {count : ℕ} (all : length (handles_of new) ≡ count) where
    -- refused before the pass
    pub plan_refused : {why : Refusal} {blocks : List ℕ} → batch_call_verdict h.limits task kind extension h.tasks count ≡ Err why
        → PlansBatch task kind extension new h handles standing (record { verdict = Err why; blocks = blocks; count = count })
    plan_refused e = record { verdict = rw (← batch_tests, all, e); count = sym all; sized = λ a. cc; blocks = λ a. cc }

    -- decided after it, by what it found
    pub plan_found : {found : BatchFound} {v : Verdict} → batch_call_verdict h.limits task kind extension h.tasks count ≡ Ok tt
        → FindsBatch h.given handles (handles_of new) found → v
        ≡ batch_objects_verdict h.limits found.ungiven found.gone (standing + count)
        → PlansBatch task kind extension new h handles standing (record { verdict = v; blocks = found.blocks; count = count })
    plan_found e f g =
        record { verdict = rw (← batch_tests, all, e, g, f.ungiven, f.gone); count = sym all; sized = λ a. f.sized; blocks = λ a. f.blocks }
