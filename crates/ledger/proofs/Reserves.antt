-- Order 9 over every list of calls: what `Kept` says of shares, and that it spares a task below its reserve 9 and 26.
use Prim.Native.Nat.{ℕ, ◌+◌, ◌-◌, ◌≤◌, ◌<◌}
use native.Mathlib.Omega.{arith}
use mathlib.Core.Bool.{Bool, true, false, true≢false, ◌&&◌, ◌||◌}
use mathlib.Core.List.{List, [], ◌∷◌}
use mathlib.Core.Logic.{◌≢◌}
use mathlib.Core.Path.{◌≡◌, refl, sym, ap, subst, ◌∙◌}
use borrow.Author.Tests.{le-leb, lt-leb, leb-true, leb-false, eqb-true, eqb-false, lt-ltb, le-ltb, ltb-true, ltb-false}
use lib.Dec.{eqb, leb, ltb}
use lib.ListN.{length, get_or-eq_default}
use Rattle.lists.specs.Sums.{sum_below}
use Rattle.lists.proofs.Cases.{by_test}
use Rattle.lists.proofs.Sums.{sum_at_lem}
use Rattle.ledger.specs.Limits.{task_count, standard, is_small}
use Rattle.ledger.specs.Objects.{fresh_memory, no_share}
use Rattle.ledger.specs.Shares.{quota_in, quota_of, blocks_in, used_in, made, unmet, all_unmet, taken_from, is_full, is_short, is_at_limit}
use Rattle.ledger.specs.Refusals.{verdict}
use Rattle.ledger.specs.Rules.{memory_after, expirations_after, tests_of}
use Rattle.ledger.specs.Ledger.{Ledger, facts_in, Sent, fresh, verdict_on, reply, next, after_all}
use Rattle.ledger.specs.Tasks.{fresh_clocks, entered}
use Rattle.ledger.specs.Rows.{join_with, share_of}
use Rattle.ledger.specs.Kept.{Kept}
use Rattle.ledger.specs.Reserves.{share_edges, Reserves}
use Rattle.ledger.specs.declared.Answer.{Answer}
use Rattle.ledger.specs.declared.Answer.TheVariants.{Refused}
use Rattle.ledger.specs.declared.Call.{Call}
use Rattle.ledger.specs.declared.Call.TheVariants.{Make}
use Rattle.ledger.specs.declared.Kind.{Kind}
use Rattle.ledger.specs.declared.Refusal.TheVariants.{NoFreeBlock, AtLimit}
use Rattle.ledger.specs.declared.Limits.{Limits}
use Rattle.ledger.proofs.Chosen.{fixed}
use Rattle.ledger.proofs.Edges.{share_edges_hold}
use Rattle.ledger.proofs.Kept.{kept_all}
use Rattle.ledger.proofs.Passed.{refusal_in, refusal_told}
use Rattle.ledger.proofs.Shares.{unmet_so, by_larger}
use Rattle.ledger.proofs.Spared.{is_spared, is_numbered, spared}

no_reserve : (store : Bool) → (quota_in store no_share).reserve ≡ 0
no_reserve true = refl
no_reserve false = refl

module _ (L : Ledger) (k : Kept L) (task : ℕ) (store : Bool) (h : 1 ≤ unmet store L.memory.shares L.memory.objects task) where
  -- it is one of the sixteen
  there : task < task_count
  there =
      by_test (leb task_count task)
      (λ e.
      let past : length L.memory.shares ≤ task = rw k.shares.sixteen (leb-true task_count task e) in
      let some : 1 ≤ (quota_in store no_share).reserve - made store L.memory.objects task =
      rw (unmet_so store L.memory.shares L.memory.objects task, get_or-eq_default L.memory.shares no_share past) at h in
      absurd (omega (arith, some, no_reserve store)))
      (λ e. leb-false task_count task e)

  not_full : is_full store L.memory.shares L.memory.objects L.memory.limits task ≡ false
  unfolding is_full
  not_full =
      lt-leb (blocks_in L.memory.limits store) (taken_from store L.memory.shares L.memory.objects task)
      (omega (arith, h, k.shares.room store, sum_at_lem task_count task (unmet store L.memory.shares L.memory.objects) there))

  not_at_limit : is_at_limit store L.memory.shares L.memory.objects task ≡ false
  unfolding is_at_limit
  not_at_limit =
      lt-leb (quota_of store L.memory.shares L.memory.objects task).limit (made store L.memory.objects task)
      (omega (arith, h, unmet_so store L.memory.shares L.memory.objects task, k.shares.ordered store task))

-- an answer that a test would give which does not hold is not given
not_given_lem : (n : ℕ) (L : Ledger) (call : Call) (new : List ℕ) (a : Answer) → is_numbered n (refusal_in a) ≡ true
    → is_spared n (facts_in L) (tests_of call new) ≡ true → (reply L call new).answer ≢ a
unfolding reply
not_given_lem n L call new a number clear q =
    true≢false
    (sym number ∙ ap (λ (b : Answer). is_numbered n (refusal_in b)) (sym q)
    ∙ (rw (refusal_told (verdict_on L call new) call L.memory) (spared n (facts_in L) (tests_of call new) clear)))

never : (L : Ledger) → Kept L → (task : ℕ) (kind : Kind) (extension size prefix : ℕ) (new : List ℕ)
    → 1 ≤ unmet (is_small size) L.memory.shares L.memory.objects task
    → ((reply L (Make task kind extension size prefix) new).answer ≢ Refused NoFreeBlock) × ((reply L (Make task kind extension size prefix) new).answer ≢ Refused AtLimit)
unfolding tests_of
never L k task kind extension size prefix new h = (
  not_given_lem 9 L (Make task kind extension size prefix) new (Refused NoFreeBlock) refl (rw (not_full L k task (is_small size) h)),
  not_given_lem 26 L (Make task kind extension size prefix) new (Refused AtLimit) refl (rw (not_at_limit L k task (is_small size) h)),
)

-- 9 and 25 by the free blocks: so many blocks, so many in use, all that is unmet, and what of it is the task's own
nine_so : (b u a own : ℕ) → u + a ≤ b → own ≤ a
    → leb b (u + (a - own)) ≡ (eqb (b - u) 0 || (eqb own 0 && leb (b - u) (a - own)))
nine_so b u a own room part =
    by_test (eqb (b - u) 0)
    (λ e. rw e (le-leb b (u + (a - own)) (omega (arith, room, part, eqb-true (b - u) 0 e))))
    (λ e. rw e
    (by_test (eqb own 0)
    (λ d. rw d
    (by_test (leb (b - u) (a - own))
    (λ f. rw f (le-leb b (u + (a - own)) (omega (arith, room, part, leb-true (b - u) (a - own) f))))
    (λ f. rw f (lt-leb b (u + (a - own)) (omega (arith, room, part, leb-false (b - u) (a - own) f))))))
    (λ d. rw d (lt-leb b (u + (a - own)) (omega (arith, room, part, eqb-false own 0 d))))))

short_so : (b u a own r : ℕ) → u + a ≤ b → own ≤ a → ltb b (u + (a - own) + r) ≡ ltb (b - u - (a - own)) r
short_so b u a own r room part =
    by_test (ltb (b - u - (a - own)) r)
    (λ e. rw e (lt-ltb b (u + (a - own) + r) (omega (arith, room, part, ltb-true (b - u - (a - own)) r e))))
    (λ e. rw e (le-ltb b (u + (a - own) + r) (omega (arith, room, part, ltb-false (b - u - (a - own)) r e))))

pub figures : (limits : Limits) → (fresh limits).memory.limits ≡ limits
unfolding fresh fresh_memory
figures limits = refl

one_unmet : 1 ≤ unmet true (after_all (fresh standard) (join_with 0 (share_of 1 1 0 0) ∷ [])).memory.shares (after_all (fresh standard) (join_with 0 (share_of 1 1 0 0) ∷ [])).memory.objects 0
unfolding fresh fresh_memory next after_all tests_of verdict memory_after expirations_after fresh_clocks entered sum_below made unmet is_short standard
one_unmet = omega arith

room : (limits : Limits) (ss : List Sent) (store : Bool)
    → let m = (after_all (fresh limits) ss).memory in
    used_in store m.objects + all_unmet store m.shares m.objects ≤ blocks_in limits store
room limits ss store =
    let m = (after_all (fresh limits) ss).memory in
    subst (λ (l : Limits). used_in store m.objects + all_unmet store m.shares m.objects ≤ blocks_in l store)
    (fixed (fresh limits) ss ∙ figures limits) ((kept_all limits ss).shares.room store)

pub reserves : Reserves
unfolding share_edges is_full is_short
reserves =
    record {
      room = room;
      below = λ limits ss store task l. (kept_all limits ss).shares.below store task l;
      ordered = λ limits ss store task. (kept_all limits ss).shares.ordered store task;
      inactive = λ limits ss task a. (kept_all limits ss).shares.inactive task a;
      never = λ limits ss. never (after_all (fresh limits) ss) (kept_all limits ss);
      spoken = λ limits ss store. sym (by_larger store (after_all (fresh limits) ss).memory.shares (after_all (fresh limits) ss).memory.objects (kept_all limits ss).shares.known);
      nine = λ limits ss store task l.
          let m = (after_all (fresh limits) ss).memory in
          let own = unmet store m.shares m.objects in
          nine_so (blocks_in limits store) (used_in store m.objects) (all_unmet store m.shares m.objects) (own task)
          (room limits ss store) (sum_at_lem task_count task own l);
      short = λ limits ss store task reserve l.
          let m = (after_all (fresh limits) ss).memory in
          let own = unmet store m.shares m.objects in
          short_so (blocks_in limits store) (used_in store m.objects) (all_unmet store m.shares m.objects) (own task) reserve
          (room limits ss store) (sum_at_lem task_count task own l);
      applies = one_unmet;
      seven = refl;
      rows = share_edges_hold;
    }
