-- Batch on lent tables, by what was planned: refused or carried out.
use Rattle.record.specs.declared.ExpirationTable.{ExpirationTable}
use Rattle.record.specs.declared.BlockTable.{BlockTable}
use Prim.Native.Nat.{ℕ, ◌+◌, ◌≤◌, ◌<◌}
use native.Mathlib.Omega.{arith}
use mathlib.Core.Bool.{true, false, false≢true, not}
use mathlib.Core.List.{List, map}
use mathlib.Core.Path.{◌≡◌, refl, sym, ap, fun_ext, ◌∙◌}
use lib.ListN.{take}
use Rattle.ledger.specs.Limits.{task_count, largest_batch}
use Rattle.ledger.specs.Objects.{handles_of}
use Rattle.ledger.specs.Refusals.{verdict, as_verdict}
use Rattle.ledger.specs.Rules.{tests_of}
use Rattle.ledger.proofs.Figures.{allowed}
use Rattle.ledger.specs.declared.Answer.TheVariants.{Done}
use Rattle.ledger.specs.declared.Answer.TheVariants.{Refused as RefusedAnswer}
use Rattle.ledger.specs.declared.Call.TheVariants.{Batch}
use Rattle.ledger.specs.declared.Kind.{Kind}
use Rattle.ledger.specs.declared.Refusal.{Refusal}
use Rattle.ledger.specs.declared.Request.TheVariants.{Use}
use Rattle.record.specs.Pools.{is_well_formed}
use Rattle.record.specs.Reading.{HeadTyped, Typed}
use Rattle.record.specs.Tables.{Sized, tables_by, tables_of, pooled, expiration_entries, block_list, expiration_list}
use Rattle.record.specs.declared.Head.{Head}
use Rattle.record.proofs.Facts.{fit_parts}
use Rattle.steps.specs.Facts.{is_gone, verdict_with, verdict_by}
use Rattle.steps.specs.Objects.{place_of, place_in, state_in, standing_in, batched_pool}
use Rattle.steps.specs.Parts.{part_facts}
use Rattle.steps.proofs.Batches.{batch_takes}
use Rattle.objects.specs.Batches.{PlansBatch}
use Rattle.objects.specs.declared.BatchPlan.{BatchPlan}
use Rattle.objects.proofs.Laws.{place_of_lem}
use Rattle.expirations.specs.Setting.{SetsEach}
use Rattle.expirations.specs.Standing.{standing_of}
use Rattle.expirations.proofs.Counting.{standing_of_lem}
use Rattle.expirations.proofs.Setting.{batched_set}
use Rattle.calls.specs.Contract.{FollowsWith}
use Rattle.calls.proofs.Lent.{lent_typed}
use Rattle.calls.proofs.Outcomes.{blind_refused, batch_done}
use Rattle.std.specs.Prelude.{Ok, Err}

module _ {h : Head} {blocks : BlockTable} {expirations : ExpirationTable} (types : HeadTyped h) (sized : Sized blocks expirations) (task : ℕ) (kind : Kind) (extension : ℕ) (new : List ℕ)
    (standing : ℕ) (stands : standing ≡ standing_of expirations.clocks) (plan : BatchPlan)
    (so : PlansBatch task kind extension new h blocks.handles standing plan) where
  of_entries : Typed (tables_of (pooled h blocks expirations))
  of_entries = lent_typed h blocks expirations types sized.blocks sized.entries

  -- places by the handles are those of the blocks
  places : (handle : ℕ) → place_of handle (block_list blocks) ≡ place_in handle blocks.handles
  places handle = sym (place_of_lem blocks.handles blocks.extents sized.blocks.of_handles sized.blocks.of_extents handle)

  -- the plan's verdict is the record's
  verdict_of_lem : verdict_by (tests_of (Batch task kind extension) new) (tables_of (pooled h blocks expirations)) ≡ plan.verdict
  unfolding verdict_with verdict tests_of tables_of tables_by
  verdict_of_lem =
      ap (λ (place : ℕ → ℕ). as_verdict
      (verdict (part_facts h.limits (state_in h.tasks) h.given (λ (handle : ℕ). not (is_gone handle (place handle)))
      (standing_in (expiration_list expirations)) false false false) (tests_of (Batch task kind extension) new))) (fun_ext places)
      ∙ rw (so.verdict, stands, standing_of_lem sized.entries)

  pub batch_kept : is_well_formed (pooled h blocks expirations) ≡ true → {why : Refusal} → plan.verdict ≡ Err why
      → FollowsWith (Use (Batch task kind extension)) new (pooled h blocks expirations) (RefusedAnswer why) (pooled h blocks expirations)
  unfolding tests_of verdict
  batch_kept w e small large =
      blind_refused _ of_entries w small large (Batch task kind extension) new (λ i j. refl) (λ s. absurd (false≢true s)) (verdict_of_lem ∙ e)

  module _ (v : plan.verdict ≡ Ok tt) where
    -- what the setting asks
    pub batch_may_set : is_well_formed (pooled h blocks expirations) ≡ true
        → (plan.count ≤ largest_batch) × (standing_of expirations.clocks + plan.count ≤ expiration_entries) × (task < task_count)
    unfolding tables_of tables_by
    batch_may_set w =
        let fit = fit_parts (tables_of (pooled h blocks expirations)) w in
        let renewable = batch_takes task kind extension new (tables_of (pooled h blocks expirations)) fit (verdict_of_lem ∙ v) in (
          rw so.count renewable.few,
          omega (arith, so.count, renewable.room, standing_of_lem sized.entries, (allowed h.limits fit.allowed).most_expirations),
          renewable.may.known,
        )

    -- the blocks of the plan are those of the objects
    blocks_of_lem : take plan.count plan.blocks ≡ map (λ (handle : ℕ). place_of handle (block_list blocks)) (handles_of new)
    blocks_of_lem = ap (λ (n : ℕ). take n plan.blocks) so.count ∙ so.blocks v ∙ ap (λ (f : ℕ → ℕ). map f (handles_of new)) (fun_ext (λ (handle : ℕ). sym (places handle)))

    left : {expirations' : ExpirationTable} → SetsEach h.tasks h.global kind task extension (take plan.count plan.blocks) expirations expirations'
        → tables_of (pooled h blocks expirations') ≡ batched_pool task kind extension (handles_of new) (tables_of (pooled h blocks expirations))
    unfolding tables_of tables_by
    left sets = rw (batched_set task kind extension (handles_of new), sets.entries, blocks_of_lem)

    pub batch_set : is_well_formed (pooled h blocks expirations) ≡ true → {expirations' : ExpirationTable}
        → SetsEach h.tasks h.global kind task extension (take plan.count plan.blocks) expirations expirations'
        → FollowsWith (Use (Batch task kind extension)) new (pooled h blocks expirations) Done (pooled h blocks expirations')
    batch_set w sets small large = batch_done _ of_entries w small large task kind extension new (left sets) (verdict_of_lem ∙ v)
