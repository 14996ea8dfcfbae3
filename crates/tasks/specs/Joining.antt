-- What a join decides, by the head and by whether of either store too few blocks are left for its reserve.
use Rattle.std.specs.Prelude.{ℕ, Bool, true, false, []}
use Rattle.ledger.specs.Refusals.{verdict, as_verdict, Verdict}
use Rattle.ledger.specs.Rules.{tests_of}
use Rattle.ledger.specs.declared.Call.TheVariants.{Join}
use Rattle.ledger.specs.declared.Share.{Share}
use Rattle.record.specs.declared.Head.{Head}
use Rattle.steps.specs.Objects.{state_in}
use Rattle.steps.specs.Parts.{part_facts}

-- R36
unfoldable pub join_verdict : Head → ℕ → Share → Bool → Verdict
join_verdict h task share scant =
    as_verdict (verdict (part_facts h.limits (state_in h.tasks) h.given (λ (handle : ℕ). true) 0 false false scant)
    (tests_of (Join task share) []))
