-- What a batch decides, by the head and by the handles of the blocks.
use Rattle.std.specs.Prelude.{ℕ, false, not, List, ◌≡◌, length, take, Ok}
use Rattle.ledger.specs.Limits.{largest_batch}
use Rattle.ledger.specs.Objects.{handles_of}
use Rattle.ledger.specs.Refusals.{Facts, verdict, as_verdict}
use Rattle.ledger.specs.Rules.{tests_of}
use Rattle.ledger.specs.declared.Call.TheVariants.{Batch}
use Rattle.ledger.specs.declared.Kind.{Kind}
use Rattle.record.specs.declared.Head.{Head}
use Rattle.steps.specs.Facts.{is_gone}
use Rattle.steps.specs.Objects.{place_in, state_in}
use Rattle.steps.specs.Parts.{part_facts}
use Rattle.refusals.specs.Batches.{places_in}
use Rattle.objects.specs.declared.BatchPlan.{BatchPlan}

-- the facts that its tests look at
abbrev pub batch_facts : Head → List ℕ → ℕ → Facts
batch_facts h handles standing =
    part_facts h.limits (state_in h.tasks) h.given (λ (handle : ℕ). not (is_gone handle (place_in handle handles))) standing false false false

-- R47: the verdict on a batch, and where it accepts, the blocks of its objects
pub record PlansBatch (task : ℕ) (kind : Kind) (extension : ℕ) (new : List ℕ) (h : Head) (handles : List ℕ) (standing : ℕ) (r : BatchPlan) : Type 0
  where
    pub verdict : r.verdict ≡ as_verdict (verdict (batch_facts h handles standing) (tests_of (Batch task kind extension) new))
    pub count : r.count ≡ length (handles_of new)
    pub sized : r.verdict ≡ Ok tt → length r.blocks ≡ largest_batch
    pub blocks : r.verdict ≡ Ok tt → take (length (handles_of new)) r.blocks ≡ places_in handles (handles_of new)
