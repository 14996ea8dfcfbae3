-- Release on lent tables, by what was found: refused or carried out.
use Rattle.record.specs.declared.ExpirationTable.{ExpirationTable}
use Rattle.record.specs.declared.BlockTable.{BlockTable}
use Prim.Native.Nat.{ℕ, ◌<◌}
use mathlib.Core.Bool.{true, false, false≢true}
use mathlib.Core.List.{List, []}
use mathlib.Core.Path.{◌≡◌, refl, sym, ◌∙◌}
use Rattle.ledger.specs.Refusals.{verdict}
use Rattle.ledger.specs.Rules.{tests_of}
use Rattle.ledger.specs.declared.Answer.TheVariants.{Done}
use Rattle.ledger.specs.declared.Answer.TheVariants.{Refused as RefusedAnswer}
use Rattle.ledger.specs.declared.Call.TheVariants.{Release}
use Rattle.ledger.specs.declared.Refusal.{Refusal}
use Rattle.ledger.specs.declared.Request.TheVariants.{Use}
use Rattle.record.specs.Pools.{is_well_formed}
use Rattle.record.specs.Reading.{HeadTyped, Typed}
use Rattle.record.specs.Tables.{Sized, tables_by, tables_of, lent, pooled, block_entries}
use Rattle.record.specs.declared.Head.{Head}
use Rattle.steps.specs.Facts.{verdict_by}
use Rattle.steps.specs.Objects.{place_of, released_pool}
use Rattle.steps.proofs.Chosen.{here_listed, release_known as known}
use Rattle.objects.specs.Outcomes.{found_in}
use Rattle.objects.specs.declared.Found.{Found}
use Rattle.objects.proofs.Outcomes.{found_refused, found_accepted}
use Rattle.endings.specs.Unpinning.{Releases}
use Rattle.calls.specs.Contract.{Follows}
use Rattle.calls.proofs.Lent.{tables_of_lem, lent_typed}
use Rattle.calls.proofs.Outcomes.{blind_refused, release_done}
use Rattle.std.specs.Prelude.{Ok, Result, Err}

module _ {h : Head} {blocks : BlockTable} {expirations : ExpirationTable} (types : HeadTyped h) (sized : Sized blocks expirations) (task handle : ℕ) (f : Result Found Refusal)
    (so : f ≡ found_in false (tests_of (Release task handle) []) task handle (lent h blocks expirations)) where
  of_entries : Typed (tables_of (pooled h blocks expirations))
  of_entries = lent_typed h blocks expirations types sized.blocks sized.entries

  pub release_kept : is_well_formed (pooled h blocks expirations) ≡ true → {why : Refusal} → f ≡ Err why
      → Sized blocks expirations × Follows (Use (Release task handle)) (pooled h blocks expirations) (RefusedAnswer why) (pooled h blocks expirations)
  unfolding tests_of verdict
  release_kept w e = (
    sized,
    λ small large. blind_refused _ of_entries w small large (Release task handle) [] (λ i j. refl) (λ s. absurd (false≢true s))
        (rw (tables_of_lem h blocks expirations) (found_refused false task handle (lent h blocks expirations) _ (sym so ∙ e))),
  )

  module _ {found : Found} (at : f ≡ Ok found) where
    accepted : (verdict_by (tests_of (Release task handle) []) (lent h blocks expirations) ≡ Ok tt)
        × (place_of handle (lent h blocks expirations).blocks ≡ found.block)
    accepted = found_accepted false task handle (lent h blocks expirations) _ (sym so ∙ at)

    -- the block is one that there is
    pub release_known : found.block < block_entries
    release_known =
        let p = lent h blocks expirations in
        rw (← accepted.1) (here_listed handle p.blocks (known task handle p accepted.0).here)

    -- the tables that are left are those of the released record
    released_left : {hs' cs' : List ℕ} → Releases found.block expirations.named blocks.handles expirations.clocks hs' cs'
        → tables_of (pooled h (record { handles = hs'; extents = blocks.extents }) (record { clocks = cs'; named = expirations.named; dues = expirations.dues })) ≡ released_pool handle (tables_of (pooled h blocks expirations))
    unfolding tables_of tables_by released_pool
    released_left r = rw (r.blocks blocks.extents expirations.dues sized.blocks.of_extents sized.entries.of_dues, r.entries expirations.dues sized.entries.of_dues, accepted.1)

    pub release_carried : is_well_formed (pooled h blocks expirations) ≡ true → {hs' cs' : List ℕ} → Releases found.block expirations.named blocks.handles expirations.clocks hs' cs'
        → Sized (record { handles = hs'; extents = blocks.extents }) (record { clocks = cs'; named = expirations.named; dues = expirations.dues }) × Follows (Use (Release task handle)) (pooled h blocks expirations) Done (pooled h (record { handles = hs'; extents = blocks.extents }) (record { clocks = cs'; named = expirations.named; dues = expirations.dues }))
    release_carried w r = (
      record {
        blocks = record { of_handles = r.handles_size; of_extents = sized.blocks.of_extents };
        entries = record { of_clocks = r.clocks_size; of_named = sized.entries.of_named; of_dues = sized.entries.of_dues };
      },
      λ small large. release_done _ of_entries w small large task handle (released_left r) (rw (tables_of_lem h blocks expirations) accepted.0),
    )
