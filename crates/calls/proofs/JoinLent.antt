-- A join on lent tables, refused or carried out.
use Rattle.record.specs.declared.ExpirationTable.{ExpirationTable}
use Rattle.record.specs.declared.BlockTable.{BlockTable}
use Prim.Native.Nat.{ℕ, ◌+◌, ◌-◌, ◌<◌}
use native.Mathlib.Omega.{arith}
use mathlib.Core.Bool.{Bool, true, false, false≢true, ◌||◌}
use mathlib.Core.List.{List, []}
use mathlib.Core.Path.{◌≡◌, refl, sym, ap, ◌∙◌}
use borrow.Author.Tests.{leb-false}
use lib.Dec.{ltb}
use lib.ListN.{get_or}
use Rattle.lists.proofs.Cases.{by_test}
use Rattle.ledger.specs.Limits.{task_count}
use Rattle.ledger.specs.Tasks.{is_absent}
use Rattle.ledger.specs.Objects.{plain, no_share}
use Rattle.ledger.specs.Refusals.{verdict, Verdict}
use Rattle.ledger.specs.Rules.{reply_to, tests_of}
use Rattle.ledger.proofs.Passed.{passed, accepted_none}
use Rattle.ledger.specs.Shares.{quota_in, blocks_in}
use Rattle.ledger.specs.declared.Answer.TheVariants.{Done}
use Rattle.ledger.specs.declared.Answer.TheVariants.{Refused as RefusedAnswer}
use Rattle.ledger.specs.declared.Call.TheVariants.{Join}
use Rattle.ledger.specs.declared.Refusal.{Refusal}
use Rattle.ledger.specs.declared.Request.TheVariants.{Use}
use Rattle.ledger.specs.declared.Share.{Share}
use Rattle.record.specs.Codes.{state_of, absent_entry}
use Rattle.record.specs.Pools.{is_well_formed}
use Rattle.record.specs.Reading.{HeadTyped, Typed}
use Rattle.record.specs.Shares.{made_in, taken_in, all_unmet_in, taken_but}
use Rattle.record.specs.Tables.{BlockEntry, Sized, tables_by, tables_of, pooled, block_list}
use Rattle.record.specs.declared.Head.{Head}
use Rattle.record.proofs.Facts.{fit_parts, shared_part}
use Rattle.shares.specs.Holdings.{Holds, HoldsBoth}
use Rattle.shares.specs.declared.Holding.{Holding}
use Rattle.shares.specs.declared.Holdings.{Holdings}
use Rattle.steps.specs.Facts.{is_scant, verdict_with, verdict_by}
use Rattle.steps.specs.Joins.{joined_pool}
use Rattle.tasks.specs.Joining.{join_verdict}
use Rattle.steps.proofs.Joins.{joining, join_stays, join_reads, join_fits}
use Rattle.ledger.proofs.KeptTasks.{absent_inactive}
use Rattle.steps.proofs.Shares.{inactive_nothing}
use Rattle.calls.specs.Engine.{joined_head, FollowsAlone}
use Rattle.calls.proofs.Lent.{lent_typed}
use Rattle.calls.proofs.Outcomes.{blind_alike, blind_refused}
use Rattle.calls.proofs.Promises.{carried_obeys}
use Rattle.std.specs.Prelude.{Ok, Err}

-- 25, of one store of which so many blocks are spoken for
abbrev pub is_scant_by : ℕ → ℕ → ℕ → Bool
is_scant_by blocks spoken reserve = ltb blocks (spoken + reserve)

-- of a task that has nothing nothing is held back for itself: all that is spoken for is taken from it
nothing_back : (store : Bool) (made taken all : ℕ) → taken + all ≡ taken + (all - ((quota_in store no_share).reserve - made))
nothing_back true made taken all = omega arith
nothing_back false made taken all = omega arith

scant_by : (store : Bool) (h : Head) (blocks : List BlockEntry) (holding : Holding) → Holds store h.shares blocks holding → (task reserve : ℕ)
    → get_or h.shares task no_share ≡ no_share
    → is_scant_by (blocks_in h.limits store) holding.spoken reserve ≡ is_scant store h.limits h.shares blocks task reserve
unfolding taken_but
scant_by store h blocks holding holds task reserve none =
    rw (holds.spoken, none)
    (ap (λ (n : ℕ). ltb (blocks_in h.limits store) (n + reserve))
    (nothing_back store (made_in store blocks task) (taken_in store blocks) (all_unmet_in store h.shares blocks)))

module _ {h : Head} (types : HeadTyped h) (holdings : Holdings) (task : ℕ) (share : Share) {its : Verdict}
    (so : its ≡ join_verdict h task share
    (is_scant_by h.limits.small holdings.small.spoken share.small.reserve || is_scant_by h.limits.large holdings.large.spoken share.large.reserve)) where
  module _ (blocks : BlockTable) (expirations : ExpirationTable) (z : Sized blocks expirations) (holds : HoldsBoth h.shares (block_list blocks) holdings)
      (w : is_well_formed (pooled h blocks expirations) ≡ true) where
    typed : Typed (tables_of (pooled h blocks expirations))
    typed = lent_typed h blocks expirations types z.blocks z.entries

    nothing : is_absent (state_of (get_or h.tasks task absent_entry).state) ≡ true → get_or h.shares task no_share ≡ no_share
    unfolding tables_of tables_by
    nothing absent =
        inactive_nothing (tables_of (pooled h blocks expirations)) (shared_part _ w) task (absent_inactive (state_of (get_or h.tasks task absent_entry).state) absent)

    its_verdict : verdict_by (tests_of (Join task share) []) (tables_of (pooled h blocks expirations)) ≡ its
    unfolding tables_of tables_by join_verdict verdict_with verdict tests_of
    its_verdict =
        by_test (is_absent (state_of (get_or h.tasks task absent_entry).state))
        (λ a. rw (
          so,
          scant_by true h (block_list blocks) holdings.small holds.small task share.small.reserve (nothing a),
          scant_by false h (block_list blocks) holdings.large holds.large task share.large.reserve (nothing a),
        ))
        (λ a. rw (so, a))

    joined_left : tables_of (pooled (joined_head h task share) blocks expirations) ≡ joined_pool task share (tables_of (pooled h blocks expirations))
    unfolding tables_of tables_by joined_pool
    joined_left = refl

  pub join_refused : {why : Refusal} → its ≡ Err why
      → FollowsAlone (λ blocks. HoldsBoth h.shares blocks holdings) (Use (Join task share)) h (RefusedAnswer why) h
  unfolding tests_of verdict
  join_refused {why} e =
      record {
        follows = λ blocks expirations z holds w small large.
            let p = pooled h blocks expirations in
            blind_refused p (typed blocks expirations z holds w) w small large (Join task share) [] (λ i j. refl) (λ s. absurd (false≢true s))
            (its_verdict blocks expirations z holds w ∙ e);
      }

  pub join_known : its ≡ Ok tt → task < task_count
  unfolding join_verdict tests_of
  join_known e =
      let (known, (absent, (ordered, (free, end)))) = passed _ (tests_of (Join task share) [])
      (accepted_none _ (sym so ∙ e)) in leb-false task_count task known

  pub join_done : its ≡ Ok tt
      → FollowsAlone (λ blocks. HoldsBoth h.shares blocks holdings) (Use (Join task share)) h Done (joined_head h task share)
  unfolding reply_to tests_of verdict
  join_done e =
      record {
        follows = λ blocks expirations z holds w small large.
            let p = pooled h blocks expirations in
            let p' = pooled (joined_head h task share) blocks expirations in
            let v = its_verdict blocks expirations z holds w ∙ e in
            let t = typed blocks expirations z holds w in
            let left = joined_left blocks expirations z holds w in
            let fit = fit_parts (tables_of p) w in
            carried_obeys (Join task share) [] p small large w (λ s. absurd (false≢true s)) (plain Done) p' small large refl
            (λ L reads. blind_alike p t w small large (Join task share) [] (λ i j. refl) reads ∙ v)
            (λ L reads. refl) (λ L reads. rw left (join_reads task share fit (joining task share (tables_of p) v) reads))
            (rw left (join_fits task share (tables_of p) t w v)) (rw left (join_stays task share (tables_of p))) (refl, refl) (refl, refl);
      }
