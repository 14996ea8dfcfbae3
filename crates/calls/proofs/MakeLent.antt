-- Make on lent tables, refused or carried out.
use Rattle.record.specs.declared.ExpirationTable.{ExpirationTable}
use Rattle.record.specs.declared.BlockTable.{BlockTable}
use Prim.Native.Nat.{ℕ, ◌+◌, ◌<◌}
use native.Mathlib.Omega.{arith}
use mathlib.Core.Bool.{true}
use mathlib.Core.List.{List, []}
use mathlib.Core.Path.{◌≡◌, sym, ap, ◌∙◌}
use lib.ListN.{get_or, set, replicate, length-set}
use lib.Seq.{get_or-set_same}
use Rattle.ledger.specs.Limits.{is_small, is_allowed, task_count, last_handle}
use Rattle.ledger.specs.Rules.{tests_of}
use Rattle.ledger.specs.declared.Answer.TheVariants.{Handle}
use Rattle.ledger.specs.declared.Answer.TheVariants.{Refused as RefusedAnswer}
use Rattle.ledger.specs.declared.Call.TheVariants.{Make}
use Rattle.ledger.specs.declared.Kind.{Kind}
use Rattle.ledger.specs.declared.Refusal.{Refusal}
use Rattle.ledger.specs.declared.Request.TheVariants.{Use}
use Rattle.stores.specs.Places.{InBlock, small_after, large_after}
use Rattle.record.specs.Reading.{HeadTyped, Typed, size_of}
use Rattle.record.specs.Tables.{BlockEntry, Sized, extent_of, tables_by, tables_of, pooled, block_entries, expiration_entries, block_list, expiration_list}
use Rattle.shares.specs.Holdings.{Holds}
use Rattle.shares.specs.declared.Holding.{Holding}
use Rattle.record.specs.declared.Head.{Head}
use Rattle.record.proofs.Columns.{block_at}
use Rattle.record.proofs.Facts.{fit_parts}
use Rattle.steps.specs.Facts.{verdict_by}
use Rattle.steps.specs.Objects.{free_place, free_place_in}
use Rattle.steps.proofs.Chosen.{Taken, make_takes}
use Rattle.objects.specs.Outcomes.{make_plan}
use Rattle.objects.specs.declared.Plan.{Plan}
use Rattle.objects.proofs.Laws.{free_place_of, make_planned}
use Rattle.expirations.specs.Setting.{Sets}
use Rattle.expirations.specs.Setting.{entry_now as new_entry}
use Rattle.expirations.specs.Standing.{standing_of}
use Rattle.calls.specs.Contract.{Ready, Makes}
use Rattle.calls.specs.Engine.{with_given}
use Rattle.calls.proofs.Lent.{tables_of_lem, lent_allowed, lent_typed}
use Rattle.expirations.proofs.Counting.{standing_of_lem}
use Rattle.calls.proofs.MadeLent.{made_left}
use Rattle.calls.proofs.Meets.{block_in_lem, place_known, make_kept, make_cleared}
use Rattle.calls.proofs.RefreshLent.{room_left}
use Rattle.std.specs.Prelude.{Ok, Err}

module _ {h : Head} (blocks : BlockTable) (expirations : ExpirationTable) (types : HeadTyped h) (sized : Sized blocks expirations) {small large : List ℕ}
    {task : ℕ} {kind : Kind} {extension size prefix : ℕ} (ready : Ready (Use (Make task kind extension size prefix)) (pooled h blocks expirations) small large)
    {holding : Holding} (holding-so : Holds (is_small size) h.shares (block_list blocks) holding)
    {standing : ℕ} (stands : standing ≡ standing_of expirations.clocks)
    {plan : Plan} (so : plan ≡ make_plan task kind extension size prefix h (free_place_in h.limits size blocks.handles) holding standing) where
  of_entries : Typed (tables_of (pooled h blocks expirations))
  of_entries = lent_typed h blocks expirations types sized.blocks sized.entries

  planned_place : plan.place ≡ free_place h.limits size (tables_of (pooled h blocks expirations)).blocks
  unfolding make_plan tables_of tables_by
  planned_place = rw so (free_place_of blocks.handles blocks.extents sized.blocks.of_handles sized.blocks.of_extents h.limits size)

  verdict_of_lem : verdict_by (tests_of (Make task kind extension size prefix) []) (tables_of (pooled h blocks expirations)) ≡ plan.verdict
  verdict_of_lem =
      rw (so, stands, standing_of_lem sized.entries, tables_of_lem h blocks expirations)
      (sym (make_planned blocks.handles blocks.extents sized.blocks.of_handles sized.blocks.of_extents h (expiration_list expirations) task kind extension size prefix holding holding-so))

  pub make_refused_lent : {why : Refusal} → plan.verdict ≡ Err why
      → Makes task kind extension size prefix (pooled h blocks expirations) small large (RefusedAnswer why) (pooled h blocks expirations) small large
  make_refused_lent {why} v = make_kept of_entries ready why (verdict_of_lem ∙ v)

  module _ (v : plan.verdict ≡ Ok tt) where
    taken : Taken task extension size prefix (tables_of (pooled h blocks expirations))
    taken = make_takes task kind extension size prefix (tables_of (pooled h blocks expirations)) (fit_parts _ ready.fit) of_entries (verdict_of_lem ∙ v)

    at_free : plan.place ≡ free_place h.limits size (block_list blocks)
    unfolding tables_of tables_by
    at_free = planned_place

    may : is_allowed h.limits ≡ true
    may = lent_allowed h blocks expirations ready.fit

    -- what the setting asks
    pub make_may_set : (standing_of expirations.clocks < expiration_entries) × (task < task_count) × (plan.place < block_entries)
    unfolding tables_of tables_by
    make_may_set = (
      rw (standing_of_lem sized.entries) (room_left h.limits may _ taken.room),
      taken.may.known,
      rw planned_place (omega (arith, taken.block.listed, of_entries.blocks)),
    )

    -- the block that is cleared
    pub make_clears : InBlock small large plan.place (size_of plan.place)
    make_clears = block_in_lem of_entries ready plan.place (rw planned_place (place_known of_entries ready (verdict_of_lem ∙ v)))

    pub make_unspent : h.given + 1 < 4294967296
    unfolding tables_of tables_by last_handle
    make_unspent = omega (arith, taken.unspent)

    free : get_or blocks.handles plan.place 0 ≡ 0
    unfolding tables_of tables_by
    free =
        rw planned_place
        (sym (ap (λ (b : BlockEntry). b.handle) (block_at blocks.handles blocks.extents sized.blocks.of_handles sized.blocks.of_extents (free_place h.limits size (block_list blocks))))
        ∙ taken.block.free)

    holds : get_or (set blocks.handles plan.place (h.given + 1)) plan.place 0 ≡ h.given + 1
    holds = get_or-set_same blocks.handles plan.place (h.given + 1) 0 (omega (arith, make_may_set.2, sized.blocks.of_handles))

    pub make_set_lent : {expirations' : ExpirationTable} → Sets (new_entry h.tasks h.global kind task extension plan.place) expirations expirations'
        → {small' large' : List ℕ} → small' ≡ small_after plan.place 0 (replicate (size_of plan.place) 0) small
        → large' ≡ large_after plan.place 0 (replicate (size_of plan.place) 0) large
        → (let hs' = set blocks.handles plan.place (h.given + 1) in
        let ls' = set blocks.extents plan.place (extent_of size 0 task prefix) in
        Sized (record { handles = hs'; extents = ls' }) expirations'
        × Makes task kind extension size prefix (pooled h blocks expirations) small large
        (Handle (h.given + 1)) (pooled (with_given h (h.given + 1)) (record { handles = hs'; extents = ls' }) expirations') small' large')
    make_set_lent sets s l = (
      record {
        blocks = record { of_handles = rw length-set sized.blocks.of_handles; of_extents = rw length-set sized.blocks.of_extents };
        entries = sets.sized;
      },
      make_cleared of_entries ready plan.place planned_place free holds
          (made_left h blocks expirations kind task extension plan.place sets size prefix (omega (arith, taken.block.most)) (omega (arith, taken.may.known)) (omega (arith, taken.prefixed, taken.block.most)) at_free) (verdict_of_lem ∙ v) s l,
    )
