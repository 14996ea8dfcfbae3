-- What a call finds in the columns of a record by value, lent where they are, it finds in the record.
use Rattle.ledger.specs.declared.Refusal.{Refusal}
use Rattle.objects.specs.declared.Part.{Part}
use Rattle.std.specs.Prelude.{Result}
use Prim.Native.Nat.{ℕ}
use mathlib.Core.Bool.{true}
use mathlib.Core.List.{List, []}
use mathlib.Core.Path.{◌≡◌}
use Rattle.ledger.specs.Rules.{tests_of}
use Rattle.ledger.specs.declared.Answer.{Answer}
use Rattle.ledger.specs.declared.Answer.TheVariants.{Counted}
use Rattle.ledger.specs.declared.Call.TheVariants.{Read}
use Rattle.ledger.specs.declared.Request.{Request}
use Rattle.ledger.specs.declared.Request.TheVariants.{Use, Report}
use Rattle.record.specs.Reading.{HeadTyped}
use Rattle.record.specs.Tables.{Sized, lent, tables_of, pooled, expiration_list}
use Rattle.record.specs.Pools.{is_well_formed}
use Rattle.record.specs.declared.Pool.{Pool}
use Rattle.expirations.specs.Standing.{standing_of}
use Rattle.expirations.proofs.Counting.{standing_of_lem}
use Rattle.objects.specs.Outcomes.{shown_in}
use Rattle.objects.specs.Usage.{usage_in}
use Rattle.objects.proofs.Laws.{usage_of_lem}
use Rattle.calls.specs.Contract.{Ready, Follows, Locates}
use Rattle.calls.proofs.Reported.{report_obeys}
use Rattle.calls.proofs.WriteLent.{read_locates}

module _ (p : Pool) where
  -- remaining life leaves the columns
  pub stays_by_value : {request : Request} {answer : Answer}
      → Follows request (pooled p.head p.blocks p.expirations) answer (pooled p.head p.blocks p.expirations)
      → Follows request p answer p
  stays_by_value f = f

  pub located_by_value : HeadTyped p.head → Sized p.blocks p.expirations → (task handle : ℕ) {small large : List ℕ}
      → Ready (Use (Read task handle)) p small large → {f : Result Part Refusal}
      → f ≡ shown_in small large (tests_of (Read task handle) []) task handle
      (lent p.head p.blocks p.expirations)
      → Locates task handle p small large f
  located_by_value types sized task handle ready found = read_locates types sized task handle ready _ found

-- report, by the record's own figures
pub reported_by_value : (p : Pool) → Sized p.blocks p.expirations → is_well_formed p ≡ true
    → Follows Report p (Counted (usage_in p.head.given p.blocks.handles (standing_of p.expirations.clocks))) p
unfolding tables_of
reported_by_value p sized w small large =
    rw (standing_of_lem sized.entries, usage_of_lem p.blocks.handles p.blocks.extents sized.blocks.of_handles sized.blocks.of_extents p.head (expiration_list p.expirations))
    (report_obeys p w small large)
