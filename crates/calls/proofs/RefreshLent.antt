-- Refresh on lent tables, by what was found: refused or carried out.
use Rattle.record.specs.declared.ExpirationTable.{ExpirationTable}
use Rattle.record.specs.declared.BlockTable.{BlockTable}
use Prim.Native.Nat.{ℕ, ◌<◌}
use native.Mathlib.Omega.{arith}
use mathlib.Core.Bool.{true, false, false≢true}
use mathlib.Core.List.{[]}
use mathlib.Core.Path.{◌≡◌, refl, sym, ◌∙◌}
use Rattle.ledger.specs.Refusals.{verdict}
use Rattle.ledger.specs.Rules.{tests_of}
use Rattle.ledger.specs.Limits.{is_allowed, task_count}
use Rattle.ledger.proofs.Figures.{allowed}
use Rattle.ledger.specs.declared.Answer.TheVariants.{Done}
use Rattle.ledger.specs.declared.Answer.TheVariants.{Refused as RefusedAnswer}
use Rattle.ledger.specs.declared.Call.TheVariants.{Refresh}
use Rattle.ledger.specs.declared.Kind.{Kind}
use Rattle.ledger.specs.declared.Refusal.{Refusal}
use Rattle.ledger.specs.declared.Request.TheVariants.{Use}
use Rattle.ledger.specs.declared.Limits.{Limits}
use Rattle.record.specs.Pools.{is_well_formed}
use Rattle.record.specs.Reading.{HeadTyped, Typed}
use Rattle.record.specs.Tables.{Sized, tables_by, tables_of, lent, pooled, block_entries, expiration_entries}
use Rattle.record.specs.declared.Head.{Head}
use Rattle.record.proofs.Facts.{fit_parts}
use Rattle.steps.specs.Facts.{verdict_by}
use Rattle.steps.specs.Objects.{place_of}
use Rattle.steps.proofs.Chosen.{refresh_takes, here_listed}
use Rattle.objects.specs.Outcomes.{found_in}
use Rattle.objects.specs.declared.Found.{Found}
use Rattle.objects.proofs.Outcomes.{found_refused, found_accepted}
use Rattle.expirations.specs.Setting.{Sets}
use Rattle.expirations.specs.Setting.{entry_now as new_entry}
use Rattle.expirations.specs.Standing.{standing_of}
use Rattle.expirations.proofs.Counting.{standing_of_lem}
use Rattle.calls.specs.Contract.{Follows}
use Rattle.calls.proofs.Lent.{tables_of_lem, lent_typed}
use Rattle.calls.proofs.MadeLent.{refreshed_left}
use Rattle.calls.proofs.Outcomes.{blind_refused, refresh_done}
use Rattle.std.specs.Prelude.{Ok, Result, Err}

-- an entry is free where 10 is not given
pub room_left : (limits : Limits) → is_allowed limits ≡ true → (n : ℕ) → n < limits.expirations → n < expiration_entries
room_left limits may n few = omega (arith, few, (allowed limits may).most_expirations)

module _ {h : Head} {blocks : BlockTable} {expirations : ExpirationTable} (types : HeadTyped h) (sized : Sized blocks expirations) (task : ℕ) (kind : Kind) (extension handle : ℕ) (f : Result Found Refusal)
    (so : f ≡ found_in false (tests_of (Refresh task kind extension handle) []) task handle (lent h blocks expirations)) where
  of_entries : Typed (tables_of (pooled h blocks expirations))
  of_entries = lent_typed h blocks expirations types sized.blocks sized.entries

  pub refresh_kept : is_well_formed (pooled h blocks expirations) ≡ true → {why : Refusal} → f ≡ Err why
      → Follows (Use (Refresh task kind extension handle)) (pooled h blocks expirations) (RefusedAnswer why) (pooled h blocks expirations)
  unfolding tests_of verdict
  refresh_kept w e small large =
      blind_refused _ of_entries w small large (Refresh task kind extension handle) [] (λ i j. refl) (λ s. absurd (false≢true s))
      (rw (tables_of_lem h blocks expirations) (found_refused false task handle (lent h blocks expirations) _ (sym so ∙ e)))

  module _ {found : Found} (at : f ≡ Ok found) where
    accepted : (verdict_by (tests_of (Refresh task kind extension handle) []) (lent h blocks expirations) ≡ Ok tt)
        × (place_of handle (lent h blocks expirations).blocks ≡ found.block)
    accepted = found_accepted false task handle (lent h blocks expirations) _ (sym so ∙ at)

    pub refresh_set : is_well_formed (pooled h blocks expirations) ≡ true → {expirations' : ExpirationTable}
        → Sets (new_entry h.tasks h.global kind task extension found.block) expirations expirations'
        → Follows (Use (Refresh task kind extension handle)) (pooled h blocks expirations) Done (pooled h blocks expirations')
    unfolding tables_by
    refresh_set w sets small large =
        refresh_done _ of_entries w small large task kind extension handle
        (refreshed_left h blocks expirations kind task extension found.block sets handle (sym accepted.1))
        (rw (tables_of_lem h blocks expirations) accepted.0)

    -- what the setting asks
    pub refresh_may_set : is_well_formed (pooled h blocks expirations) ≡ true
        → (standing_of expirations.clocks < expiration_entries) × (task < task_count) × (found.block < block_entries)
    unfolding tables_of tables_by
    refresh_may_set w =
        let p = lent h blocks expirations in
        let fit = fit_parts (tables_of (pooled h blocks expirations)) w in
        let renewed = refresh_takes task kind extension handle p fit of_entries accepted.0 in (
          rw (standing_of_lem sized.entries) (room_left h.limits fit.allowed _ renewed.room),
          renewed.may.known,
          rw (← accepted.1) (here_listed handle p.blocks renewed.here),
        )
