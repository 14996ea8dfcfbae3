-- The shares stay as `SharesKept` says: free blocks for all unmet reserves, and nobody above a limit.
use Prim.Native.Nat.{ℕ, ◌+◌, ◌-◌, ◌≤◌, ◌<◌}
use native.Mathlib.Nat.{le_trans, le_refl}
use native.Mathlib.Omega.{arith}
use mathlib.Core.Bool.{Bool, true, false, true≢false, false≢true, and-eq-true_iff, cond, not, ◌&&◌}
use mathlib.Core.List.{List, [], ◌∷◌, ◌++◌, map}
use mathlib.Core.Logic.{◌≢◌}
use mathlib.Core.Path.{◌≡◌, refl, ◌∙◌}
use borrow.Author.Tests.{leb-false, ltb-false, not-false, eqb-true, eqb-false, eq-eqb}
use lib.Dec.{eqb}
use lib.ListN.{length, length-set, get_or, set, get_or-map}
use lib.Seq.{get_or-set_same}
use Rattle.lists.specs.Tests.{filter}
use Rattle.lists.proofs.All.{at_set, all_imp, all_filter, all_map, all_append}
use Rattle.lists.proofs.Cases.{by_test, or_false_parts}
use Rattle.lists.proofs.Counts.{count_filter}
use Rattle.lists.proofs.Sums.{sum_le, sum_but, sum_at_lem}
use Rattle.ledger.specs.Limits.{task_count, is_small}
use Rattle.ledger.specs.Tasks.{Clocks, task_at, absent_task, joined, moved, unticked, is_absent, is_active, clocks_after, entered}
use Rattle.ledger.specs.Expirations.{departed, Expiration}
use Rattle.ledger.specs.Objects.{Object, Memory, no_share, zeroed, orphaned, makers_after, shares_after}
use Rattle.ledger.specs.Shares.{is_in, quota_in, quota_of, blocks_in, used_in, made, unmet, all_unmet, taken_from, is_full, is_short, is_at_limit}
use Rattle.ledger.specs.Refusals.{is_upside_down}
use Rattle.ledger.specs.Rules.{tests_of}
use Rattle.ledger.specs.Kept.{SharesKept}
use Rattle.ledger.specs.declared.Event.{Event}
use Rattle.ledger.specs.declared.Event.TheVariants.{Leave, Block, Resume, Tick, View}
use Rattle.ledger.specs.declared.Limits.{Limits}
use Rattle.ledger.specs.declared.Share.{Share}
use Rattle.ledger.specs.declared.Call.TheVariants.{Join}
use Rattle.ledger.proofs.Passed.{Passed}
use Rattle.ledger.proofs.KeptTasks.{tasks_after_lem, absent_inactive}
use Rattle.ledger.proofs.Shares.{unmet_so, spoken_map, made_map, spoken_filter, made_append, used_append, made_orphaned, used_map}

-- some objects go
pub shares_filter : {limits : Limits} {clocks : Clocks} {shares : List Share} {os : List Object} (p : Object → Bool)
    → SharesKept limits clocks shares os → SharesKept limits clocks shares (filter p os)
unfolding made
shares_filter {shares = shares} {os = os} p k =
    record {
      sixteen = k.sixteen;
      inactive = k.inactive;
      ordered = k.ordered;
      known = all_filter p (λ o e h. h) os k.known;
      room = λ store. le_trans (spoken_filter store shares p os) (k.room store);
      below = λ store task l. le_trans (count_filter _ p os) (k.below store task l);
    }

-- neither sizes nor makers change
pub shares_map : {limits : Limits} {clocks : Clocks} {shares : List Share} {os : List Object} (f : Object → Object)
    → ((o : Object) → (f o).size ≡ o.size) → ((o : Object) → (f o).maker ≡ o.maker)
    → SharesKept limits clocks shares os → SharesKept limits clocks shares (map f os)
shares_map {shares = shares} {os = os} f sizes makers k =
    record {
      sixteen = k.sixteen;
      inactive = k.inactive;
      ordered = k.ordered;
      known = all_map (λ (o : Object). o.maker ≤ departed) f os
          (all_imp {P = λ (o : Object). o.maker ≤ departed} {Q = λ (o : Object). (f o).maker ≤ departed} (λ o h. rw (makers o) h) os k.known);
      room = λ store. rw (spoken_map f sizes makers store shares os) (k.room store);
      below = λ store task l. rw (made_map f sizes makers store os task) (k.below store task l);
    }

-- A task joins: it had nothing, and finds as many free blocks as it reserves.
module _ (m : Memory) (task : ℕ) (share : Share) (none : get_or m.shares task no_share ≡ no_share) where
  abbrev then : List Share
  then = set m.shares task share

  other_joined : (other : ℕ) → other ≢ task → get_or then other no_share ≡ get_or m.shares other no_share
  other_joined other d = at_set (λ s. s ≡ get_or m.shares other no_share) m.shares task other no_share (λ e. absurd (d e)) refl

  reserved : (store : Bool) → unmet store then m.objects task ≤ (quota_in store share).reserve
  reserved store =
      rw (unmet_so store then m.objects task)
      (at_set (λ s. (quota_in store s).reserve - made store m.objects task ≤ (quota_in store share).reserve) m.shares task task no_share
      (λ e. omega arith) (rw none (by_test store (λ e. rw e (omega arith)) (λ e. rw e (omega arith)))))

  joined_room : (store : Bool) → task < task_count → is_short store m.shares m.objects m.limits task (quota_in store share).reserve ≡ false
      → used_in store m.objects + all_unmet store then m.objects ≤ blocks_in m.limits store
  unfolding is_short unmet
  joined_room store l e =
      let os = m.objects in
      let others = sum_but task_count task (unmet store then os) (unmet store m.shares os) l (λ j k d. rw (other_joined j d) (le_refl _)) in
      let free = ltb-false (blocks_in m.limits store) (taken_from store m.shares os task + (quota_in store share).reserve) e in
      omega (arith, others, sum_at_lem task_count task (unmet store m.shares os) l, reserved store, free)

  nothing : (store : Bool) → (quota_of store m.shares m.objects task).limit ≡ 0
  nothing store = rw none (by_test store (λ e. rw e) (λ e. rw e))

  joined_below : (store : Bool) (other : ℕ) → made store m.objects other ≤ (quota_of store m.shares m.objects other).limit
      → made store m.objects other ≤ (quota_of store then m.objects other).limit
  joined_below store other h =
      by_test (eqb other task)
      (λ e. let none : made store m.objects other ≤ 0 = rw (← nothing store, ← eqb-true other task e) h in omega arith)
      (λ e. rw (other_joined other (eqb-false other task e)) h)

-- who joins is active, and all others are as they were
entered_inactive : (clocks : Clocks) (task other : ℕ) → task < length clocks.tasks → is_active (task_at (entered task joined clocks) other).state ≡ false
    → (other ≢ task) × (is_active (task_at clocks other).state ≡ false)
unfolding entered
entered_inactive clocks task other l a =
    by_test (eqb other task)
    (λ e.
    let here : is_active (get_or (set clocks.tasks task joined) task absent_task).state ≡ false = rw (eqb-true other task e) at a in
    absurd (true≢false (rw (get_or-set_same clocks.tasks task joined absent_task l) at here)))
    (λ e.
    let d = eqb-false other task e in
    (d, at_set (λ t. is_active t.state ≡ false → is_active (task_at clocks other).state ≡ false) clocks.tasks task other absent_task (λ q. absurd (d q)) (λ h. h) a))

pub shares_joined : (m : Memory) (task : ℕ) (share : Share) (xs : List Expiration) (new : List ℕ) → Passed m xs (Join task share) new
    → length m.clocks.tasks ≡ task_count → SharesKept m.limits m.clocks m.shares m.objects
    → SharesKept m.limits (entered task joined m.clocks) (set m.shares task share) m.objects
unfolding tests_of
shares_joined m task share xs new (exists, (absent, (ordered, (free, end)))) n k =
    let l = leb-false task_count task exists in
    let none = k.inactive task (absent_inactive (task_at m.clocks task).state (not-false _ absent)) in
    let (fits-small, fits-large) = or_false_parts (is_upside_down share.small) (is_upside_down share.large) ordered in
    let (small, large) =
    or_false_parts (is_short true m.shares m.objects m.limits task share.small.reserve) (is_short false m.shares m.objects m.limits task share.large.reserve) free in
    record {
      sixteen = rw length-set k.sixteen;
      inactive = λ other a.
          let (d, was) = entered_inactive m.clocks task other (rw n l) a in
          at_set (λ s. s ≡ no_share) m.shares task other no_share (λ e. absurd (d e)) (k.inactive other was);
      ordered = λ store other.
          at_set (λ s. (quota_in store s).reserve ≤ (quota_in store s).limit) m.shares task other no_share
          (λ e. by_test store (λ d. rw d (ltb-false _ _ fits-small)) (λ d. rw d (ltb-false _ _ fits-large))) (k.ordered store other);
      known = k.known;
      room = λ store. by_test store (λ e. rw e (joined_room m task share none true l small)) (λ e. rw e (joined_room m task share none false l large));
      below = λ store other h. joined_below m task share none store other (k.below store other h);
    }

-- The five events: shares stay, but for the leaver's.
module _ (clocks : Clocks) (task : ℕ) where
  -- who is not active afterwards was not, or has left
  inactive_after : (event : Event) (other : ℕ) → (other ≡ task → is_active (moved event (task_at clocks task)).state ≡ false → is_active (task_at clocks other).state ≡ false)
      → is_active (task_at (clocks_after event task clocks) other).state ≡ false → is_active (task_at clocks other).state ≡ false
  inactive_after event other own a =
      tasks_after_lem (λ ts. is_active (get_or ts other absent_task).state ≡ false → is_active (task_at clocks other).state ≡ false)
      (λ ts h. rw (get_or-map unticked ts other absent_task) h) event task clocks
      (at_set (λ t. is_active t.state ≡ false → is_active (task_at clocks other).state ≡ false) clocks.tasks task other absent_task own (λ h. h)) a

  stay : {limits : Limits} {shares : List Share} {os : List Object} (event : Event)
      → ((other : ℕ) → other ≡ task → is_active (moved event (task_at clocks task)).state ≡ false → is_active (task_at clocks other).state ≡ false)
      → SharesKept limits clocks shares os → SharesKept limits (clocks_after event task clocks) shares os
  stay event own k =
      record {
        sixteen = k.sixteen;
        inactive = λ other a. k.inactive other (inactive_after event other (own other) a);
        ordered = k.ordered;
        known = k.known;
        room = k.room;
        below = k.below;
      }

  module _ {limits : Limits} {shares : List Share} {os : List Object} (l : task < task_count) (k : SharesKept limits clocks shares os) where
    abbrev freed : List Share
    freed = set shares task no_share

    gone : (j : ℕ) → eqb j task ≡ true → get_or freed j no_share ≡ no_share
    gone j e =
        let inside : task < length shares = rw k.sixteen l in
        rw (eqb-true j task e) (get_or-set_same shares task no_share no_share inside)

    other_left : (j : ℕ) → eqb j task ≡ false → get_or freed j no_share ≡ get_or shares j no_share
    other_left j e = at_set (λ s. s ≡ get_or shares j no_share) shares task j no_share (λ q. absurd (eqb-false j task e q)) refl

    -- no reserve grows, and no task makes more
    fewer_left : (store : Bool) (j : ℕ) → j < task_count → unmet store freed (map (orphaned task) os) j ≤ unmet store shares os j
    unfolding unmet
    fewer_left store j b =
        rw (made_orphaned store task l j b os)
        (by_test (eqb j task)
        (λ e. rw (e, gone j e) (by_test store (λ d. rw d (omega arith)) (λ d. rw d (omega arith))))
        (λ e. rw (e, other_left j e) (le_refl _)))

    left : SharesKept limits (clocks_after Leave task clocks) freed (map (orphaned task) os)
    left =
        record {
          sixteen = rw length-set k.sixteen;
          inactive = λ j a.
              by_test (eqb j task) (gone j)
              (λ e. other_left j e ∙ k.inactive j (inactive_after Leave j (λ q. absurd (eqb-false j task e q)) a));
          ordered = λ store j.
              at_set (λ s. (quota_in store s).reserve ≤ (quota_in store s).limit) shares task j no_share
              (λ e. by_test store (λ d. rw d (omega arith)) (λ d. rw d (omega arith))) (k.ordered store j);
          known = all_map (λ (o : Object). o.maker ≤ departed) (orphaned task) os (all_imp (λ o h. by_test (eqb o.maker task) (λ e. rw e (omega arith)) (λ e. rw e h)) os k.known);
          room = λ store.
              omega (
                arith,
                k.room store,
                used_map (orphaned task) (λ o. refl) store os,
                sum_le task_count (unmet store freed (map (orphaned task) os)) (unmet store shares os) (fewer_left store),
              );
          below = λ store j b.
              rw (made_orphaned store task l j b os)
              (by_test (eqb j task) (λ e. rw e (omega arith)) (λ e. rw (e, other_left j e) (k.below store j b)));
        }

  pub shares_after_lem : {limits : Limits} {shares : List Share} {os : List Object} (event : Event) → task < task_count
      → (event ≡ View → is_absent (task_at clocks task).state ≡ true) → SharesKept limits clocks shares os
      → SharesKept limits (clocks_after event task clocks) (shares_after event task shares) (makers_after event task os)
  unfolding makers_after shares_after moved
  shares_after_lem Leave l new k = left l k
  shares_after_lem Block l new k = stay Block (λ other e a. absurd (true≢false a)) k
  shares_after_lem Resume l new k = stay Resume (λ other e a. absurd (true≢false a)) k
  shares_after_lem View l new k = stay View (λ other e a. rw e (absent_inactive (task_at clocks task).state (new refl))) k
  shares_after_lem Tick l new k = stay Tick (λ other e a. rw e a) k

-- A task makes an object: below its reserve it takes a block that was held back for it, and else one that was for nobody.
same_store : (store b : Bool) (P : Bool → Type 0) → P b → cond store b (not b) ≡ true → P store
same_store true true P h e = h
same_store true false P h e = absurd (false≢true e)
same_store false true P h e = absurd (false≢true e)
same_store false false P h e = h

module _ (limits : Limits) (clocks : Clocks) (shares : List Share) (os : List Object) (task handle size prefix : ℕ) where
  abbrev ps : List Object
  ps = os ++ (zeroed task handle size prefix ∷ [])

  abbrev goes : Bool → Bool
  goes store = is_in store (zeroed task handle size prefix)

  -- the made one counts for its maker, and only makes an unmet reserve smaller
  fewer : (store : Bool) (j : ℕ) → unmet store shares ps j ≤ unmet store shares os j
  fewer store j = omega (arith, unmet_so store shares ps j, unmet_so store shares os j, made_append store (zeroed task handle size prefix) os j)

  made_room : (store : Bool) → task < task_count → (goes store ≡ true → is_full store shares os limits task ≡ false)
      → used_in store os + all_unmet store shares os ≤ blocks_in limits store → used_in store ps + all_unmet store shares ps ≤ blocks_in limits store
  unfolding is_full
  made_room store l free k =
      by_test (goes store)
      (λ e.
      let one : made store ps task ≡ made store os task + 1 = rw (made_append store (zeroed task handle size prefix) os task, e, eq-eqb task task refl) in
      let used : used_in store ps ≡ used_in store os + 1 = rw (used_append store (zeroed task handle size prefix) os, e) in
      let others = sum_but task_count task (unmet store shares ps) (unmet store shares os) l (λ j b d. fewer store j) in
      omega (
        arith,
        k,
        one,
        used,
        others,
        unmet_so store shares ps task,
        unmet_so store shares os task,
        sum_at_lem task_count task (unmet store shares os) l,
        leb-false (blocks_in limits store) (taken_from store shares os task) (free e),
      ))
      (λ e.
      let used : used_in store ps ≡ used_in store os + 0 = rw (used_append store (zeroed task handle size prefix) os, e) in
      omega (arith, k, used, sum_le task_count (unmet store shares ps) (unmet store shares os) (λ j b. fewer store j)))

  made_below : (store : Bool) (j : ℕ) → (goes store ≡ true → is_at_limit store shares os task ≡ false)
      → made store os j ≤ (quota_of store shares os j).limit → made store ps j ≤ (quota_of store shares ps j).limit
  unfolding is_at_limit
  made_below store j free k =
      rw (made_append store (zeroed task handle size prefix) os j)
      (by_test (goes store && eqb task j)
      (λ e. let (g, same) = (and-eq-true_iff (goes store) (eqb task j)).0 e in
      rw (e, ← eqb-true task j same) (omega (arith, leb-false (quota_of store shares os task).limit (made store os task) (free g))))
      (λ e. rw e (omega (arith, k))))

  pub shares_made : task < task_count → is_at_limit (is_small size) shares os task ≡ false → is_full (is_small size) shares os limits task ≡ false
      → SharesKept limits clocks shares os → SharesKept limits clocks shares ps
  shares_made l limit full k =
      record {
        sixteen = k.sixteen;
        inactive = k.inactive;
        ordered = k.ordered;
        known = all_append (λ (o : Object). o.maker ≤ departed) os _ k.known (omega (arith, l), tt);
        room = λ store. made_room store l (same_store store (is_small size) (λ b. is_full b shares os limits task ≡ false) full) (k.room store);
        below = λ store j b. made_below store j (same_store store (is_small size) (λ b. is_at_limit b shares os task ≡ false) limit) (k.below store j b);
      }
