-- Order 7 of the pool: by demand 2 the record has the ledger's expirations, and of the ledger both claims are proved.
use Prim.Native.Nat.{ℕ}
use mathlib.Core.Bool.{true}
use mathlib.Core.List.{List, [], ◌∷◌, ◌++◌, append_assoc, Permᴰ}
use mathlib.Core.Path.{◌≡◌, refl, sym, ap, subst, ◌∙◌}
use native.Mathlib.Omega.{arith}
use lib.Dec.{eqb}
use lib.ListN.{replicate, length-replicate}
use Rattle.lists.proofs.All.{all_replicate}
use Rattle.lists.proofs.Cases.{by_test}
use Rattle.lists.proofs.Counts.{any_append, any_map}
use Rattle.lists.proofs.Permutations.{exchange_perm, any_perm, map_perm}
use Rattle.ledger.specs.Limits.{task_count, counter_range}
use Rattle.ledger.specs.Expirations.{Expiration, is_of}
use Rattle.ledger.specs.Objects.{Object, Reply, stands}
use Rattle.ledger.specs.Ledger.{Ledger, Sent, fresh, after_sent, replies, after_all}
use Rattle.ledger.specs.Compared.{view_of, shown, shown_object}
use Rattle.ledger.specs.Outlives.{set_in, left_in, followed, Setting, when_set, calls_of}
use Rattle.ledger.specs.declared.Answer.TheVariants.{Refused}
use Rattle.ledger.specs.declared.Refusal.TheVariants.{ObjectGone, WrongStoreLength}
use Rattle.ledger.specs.declared.Limits.{Limits}
use Rattle.ledger.proofs.Kept.{owned_by, kept_all}
use Rattle.ledger.proofs.Following.{following}
use Rattle.ledger.proofs.OutlivesTicks.{outlives_ticks}
use Rattle.ledger.proofs.GoneAfterRounds.{gone_after_rounds}
use Rattle.ledger.proofs.Pinned.{read_stands}
use Rattle.record.specs.Codes.{absent_entry}
use Rattle.record.specs.Reading.{is_whole, fresh_pool, whole_small, whole_large}
use Rattle.record.specs.Tables.{tables_of}
use Rattle.record.specs.Pools.{is_well_formed, Reads}
use Rattle.record.specs.declared.Pool.{Pool}
use Rattle.steps.proofs.EventTypes.{InRange}
use Rattle.stores.specs.Lengths.{are_whole}
use Rattle.demands.specs.Demands.{OfType}
use Rattle.demands.specs.Outlives.{EveryListFromFresh, FreshRun, StandsIn, followed_new, beside, others_of, PoolFollows, PoolOutlivesTicks, PoolGoneAfterRounds}
use Rattle.demands.proofs.Demands.{demand2}
use Rattle.demands.proofs.Runs.{every_list_runs}

-- every list of calls can be run from fresh
fresh_of_type : (limits : Limits) → OfType (fresh_pool limits)
unfolding fresh_pool counter_range
fresh_of_type limits =
    record {
      head = record { tasks = refl; shares = refl; clocks = all_replicate InRange task_count {a = absent_entry} (omega arith); global = omega arith; given = omega arith };
      sized = record { blocks = record { of_handles = refl; of_extents = refl }; entries = record { of_clocks = refl; of_named = refl; of_dues = refl } };
    }

pub every_list_from_fresh : EveryListFromFresh
every_list_from_fresh limits may ss =
    let small : List ℕ = replicate (whole_small limits) 0 in
    let large : List ℕ = replicate (whole_large limits) 0 in
    let r = every_list_runs (fresh_pool limits) (fresh_of_type limits) small large ss in
    record {
      pool = r.pool;
      small = r.small_after;
      large = r.large_after;
      run =
          record {
            allowed = may;
            small = small;
            large = large;
            small_whole = length-replicate (whole_small limits) 0;
            large_whole = length-replicate (whole_large limits) 0;
            replies = r.replies;
            runs = r.runs;
          };
      typed = r.typed;
    }

-- and the pool follows the ledger, by demand 2
pub fresh_follows : {limits : Limits} {ss : List Sent} {p' : Pool} {small' large' : List ℕ} (r : FreshRun limits ss p' small' large')
    → (r.replies ≡ replies (fresh limits) ss) × Reads p' small' large' (after_all (fresh limits) ss) × (is_well_formed p' ≡ true)
fresh_follows {limits} {ss} {p'} {small'} {large'} r =
    demand2 limits r.allowed r.small r.large r.small_whole r.large_whole ss r.replies p' small' large' r.runs

-- a list of calls after another
pub after_append : (ss more : List Sent) (L : Ledger) → after_all L (ss ++ more) ≡ after_all (after_all L ss) more
unfolding after_all
after_append [] more L = refl
after_append (s ∷ ss) more L = after_append ss more (after_sent L s)

wrong_store : Refused WrongStoreLength ≡ Refused ObjectGone → ⊥
wrong_store e = let z : ◌≡◌ {A = ℕ} 0 1 = cc in omega arith

-- after a list of calls an object that stands in the ledger stands in the pool
pub stands_in_lem : (limits : Limits) (ss : List Sent) (p' : Pool) (small' large' : List ℕ) → FreshRun limits ss p' small' large'
    → (handle : ℕ) → stands (after_all (fresh limits) ss).expirations handle ≡ true → StandsIn handle p' small' large'
unfolding view_of
stands_in_lem limits ss p' small' large' r handle here =
    let (_, reads, fit) = fresh_follows r in
    let N = after_all (fresh limits) ss in
    record {
      has =
          any_perm _ reads.alike.objects
          ∙ any_map (λ (o : Object). eqb handle o.handle) (shown_object (is_whole (tables_of p').limits small' large')) N.memory.objects
          ∙ owned_by N.memory N.expirations (kept_all limits ss) handle here;
      reads = λ task y p'' small'' large'' o e.
          by_test (are_whole p'.head.limits small' large')
          (λ w. read_stands N task handle here (ap (λ (y : Reply). y.answer) (sym (o.answers (record { fit = fit; whole = λ u. w }) N reads)) ∙ e))
          (λ w. wrong_store (sym (ap (λ (y : Reply). y.answer) (o.wrong fit refl w).refused) ∙ e));
    }

-- the ledger after the whole list
after_set : (d : Setting) (ss : List Sent) → after_all (fresh d.limits) (d.earlier ++ (d.call ∷ ss)) ≡ after_all (when_set d) ss
unfolding after_all
after_set d ss = after_append d.earlier (d.call ∷ ss) (fresh d.limits)

-- one part comes to the front
arranged : (new front one rest : List Expiration) → Permᴰ (new ++ (front ++ (one ++ rest))) (one ++ (new ++ (front ++ rest)))
arranged new front one rest = rw (← append_assoc new front (one ++ rest), ← append_assoc new front rest) (exchange_perm (new ++ front) one rest)

-- the ledger's expirations are what is left of the ones that it had, and of the ones set since
whole : (ss : List Sent) (L : Ledger) → (after_all L ss).expirations ≡ followed_new L ss ++ followed L ss L.expirations
unfolding after_all followed followed_new
whole [] L = refl
whole (s ∷ ss) L =
    let M = after_sent L s in
    let new = set_in L s.request s.bytes in
    let left = left_in L s.request s.bytes L.expirations in
    whole ss M
    ∙ ap (λ (xs : List Expiration). followed_new M ss ++ xs) (ap (followed M ss) (following.parts L s.request s.bytes) ∙ following.apart M ss new left)
    ∙ sym (append_assoc (followed_new M ss) (followed M ss new) (followed M ss left))

-- in some order, what is left of the one that was set, and the others
with_others : (d : Setting) (ss : List Sent)
    → Permᴰ (after_all (when_set d) ss).expirations (followed (when_set d) ss (d.expiration ∷ []) ++ others_of d ss)
with_others d ss =
    let L = after_all (fresh d.limits) d.earlier in
    let M = when_set d in
    let F : List Expiration → List Expiration = followed M ss in
    let new = followed_new M ss in
    let one = F (d.expiration ∷ []) in
    let stood : M.expirations ≡ d.front ++ ((d.expiration ∷ []) ++ beside d) =
    following.parts L d.call.request d.call.bytes
    ∙ ap (λ (xs : List Expiration). xs ++ left_in L d.call.request d.call.bytes L.expirations) d.among
    ∙ append_assoc d.front (d.expiration ∷ d.back) _ in
    let apart : F (d.front ++ ((d.expiration ∷ []) ++ beside d)) ≡ F d.front ++ (one ++ F (beside d)) =
    following.apart M ss d.front ((d.expiration ∷ []) ++ beside d) ∙ ap (λ (xs : List Expiration). F d.front ++ xs) (following.apart M ss (d.expiration ∷ []) (beside d)) in
    subst (λ (xs : List Expiration). Permᴰ xs (one ++ others_of d ss)) (sym (whole ss M ∙ ap (λ (xs : List Expiration). new ++ xs) (ap F stood ∙ apart)))
    (rw (following.apart M ss d.front (beside d)) (arranged new (F d.front) one (F (beside d))))

pub pool_follows : PoolFollows
unfolding view_of
pool_follows d ss p' small' large' r =
    let N = after_all (when_set d) ss in
    let at_end : Reads p' small' large' N = subst (λ (L : Ledger). Reads p' small' large' L) (after_set d ss) (fresh_follows r).1 in
    Permᴰ.trans at_end.alike.expirations (map_perm (shown N.memory.clocks) (with_others d ss))

pub pool_outlives_ticks : PoolOutlivesTicks
pool_outlives_ticks d ss p' small' large' r stays few =
    let handle = d.expiration.handle in
    let left = (outlives_ticks d ss stays few).0 in
    let here : stands (after_all (when_set d) ss).expirations handle ≡ true =
    any_perm (is_of handle) (with_others d ss) ∙ any_append (is_of handle) (followed (when_set d) ss (d.expiration ∷ [])) (others_of d ss) ∙ rw left in
    record {
      left = left;
      shows = pool_follows d ss p' small' large' r;
      object =
          stands_in_lem d.limits (d.earlier ++ (d.call ∷ ss)) p' small' large' r handle
          (subst (λ (L : Ledger). stands L.expirations handle ≡ true) (sym (after_set d ss)) here);
    }

pub pool_gone_after_rounds : PoolGoneAfterRounds
pool_gone_after_rounds d rs rest p' small' large' r n e =
    rw (gone_after_rounds d rs rest n e) at (pool_follows d (calls_of rs rest) p' small' large' r)
