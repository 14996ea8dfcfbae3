-- Report and remaining life of a well-formed record meet their contract.
use Rattle.record.specs.declared.ExpirationTable.{ExpirationTable}
use Rattle.record.specs.declared.BlockTable.{BlockTable}
use Rattle.ledger.specs.declared.Refusal.{Refusal}
use Rattle.ledger.specs.declared.Life.{Life}
use Prim.Native.Nat.{ℕ}
use mathlib.Core.Bool.{true, false}
use mathlib.Core.List.{List}
use mathlib.Core.Path.{◌≡◌, refl, ◌∙◌}
use Rattle.ledger.specs.Ledger.{Ledger, standing_verdict_on}
use Rattle.ledger.specs.Refusals.{standing_tests, verdict, as_verdict, Verdict}
use Rattle.ledger.proofs.Passed.{accepted_none, refused_some}
use Rattle.ledger.specs.declared.Answer.TheVariants.{Counted}
use Rattle.ledger.specs.declared.Request.TheVariants.{Report, Remaining}
use Rattle.record.specs.Pools.{is_well_formed, Reads}
use Rattle.record.specs.Reading.{HeadTyped, Typed}
use Rattle.record.specs.Tables.{Sized, tables_of, lent, pooled}
use Rattle.record.specs.declared.Head.{Head}
use Rattle.record.specs.declared.Pool.{Pool}
use Rattle.record.proofs.Facts.{fit_parts}
use Rattle.steps.specs.Facts.{verdict_by}
use Rattle.steps.specs.Usage.{usage_of}
use Rattle.steps.proofs.Chosen.{using_known}
use Rattle.steps.proofs.ObjectsFollow.{read_life}
use Rattle.steps.proofs.Rooms.{usage_alike}
use Rattle.steps.proofs.Verdicts.{verdict_alike}
use Rattle.objects.specs.Outcomes.{found_by, found_in, life_of}
use Rattle.calls.specs.Contract.{Follows}
use Rattle.calls.specs.Engine.{life_found}
use Rattle.calls.proofs.Lent.{tables_of_lem, lent_typed}
use Rattle.calls.proofs.Promises.{tells_obeys}
use Rattle.std.specs.Prelude.{Ok, Err, Result}

pub report_obeys : (p : Pool) → is_well_formed p ≡ true → Follows Report p (Counted (usage_of (tables_of p))) p
report_obeys p w =
    tells_obeys Report p w refl (λ L. refl) _ (λ small large L reads. rw (usage_alike (fit_parts (tables_of p) w) reads)) (λ small large. (refl, (refl, refl)))

-- the life that was found is the ledger's, and so is the refusal
module _ (task handle : ℕ) (p : Pool) (types : Typed (tables_of p)) (w : is_well_formed p ≡ true) where
  alike : {small large : List ℕ} {L : Ledger} → Reads p small large L → as_verdict (standing_verdict_on L task handle)
      ≡ verdict_by (standing_tests task handle) (tables_of p)
  unfolding verdict
  alike reads = verdict_alike types (fit_parts (tables_of p) w) reads (standing_tests task handle) (λ i j. refl)

  life_by : (v : Verdict) → verdict_by (standing_tests task handle) (tables_of p) ≡ v
      → Follows (Remaining task handle) p (life_found (life_of (found_by true v task handle (tables_of p)))) p
  life_by (Ok _) e =
      tells_obeys (Remaining task handle) p w refl (λ L. refl) _
      (λ small large L reads.
      let here = (using_known false task handle (tables_of p) e).here in
      rw (accepted_none (standing_verdict_on L task handle) (alike reads ∙ e), read_life w types reads task handle here))
      (λ small large. (refl, (refl, refl)))
  life_by (Err r) e =
      tells_obeys (Remaining task handle) p w refl (λ L. refl) _
      (λ small large L reads. rw (refused_some (standing_verdict_on L task handle) (alike reads ∙ e))) (λ small large. (refl, (refl, refl)))

pub life_obeys : {h : Head} {blocks : BlockTable} {expirations : ExpirationTable} → HeadTyped h → Sized blocks expirations → is_well_formed (pooled h blocks expirations) ≡ true → (task handle : ℕ) {f : Result Life Refusal}
    → f ≡ life_of (found_in true (standing_tests task handle) task handle (lent h blocks expirations))
    → Follows (Remaining task handle) (pooled h blocks expirations) (life_found f) (pooled h blocks expirations)
life_obeys {h} {blocks} {expirations} types sized w task handle so =
    rw (so, ← tables_of_lem h blocks expirations)
    (life_by task handle (pooled h blocks expirations) (lent_typed h blocks expirations types sized.blocks sized.entries) w
    (verdict_by (standing_tests task handle) (tables_of (pooled h blocks expirations))) refl)
