-- What of a store is spoken for, by the objects alone: the same of objects that differ in neither size nor maker, no more of fewer objects,
-- and no task's objects are another's.
use Prim.Native.Nat.{ℕ, suc, max, ◌+◌, ◌-◌, ◌≤◌, ◌<◌}
use native.Mathlib.Omega.{arith}
use mathlib.Core.Bool.{Bool, false, cond, not, ◌&&◌, and-false}
use mathlib.Core.List.{List, [], ◌∷◌, ◌++◌, map}
use mathlib.Core.Path.{◌≡◌, sym, ap, ◌∙◌}
use borrow.Author.Tests.{eqb-true, eqb-false, ne_eqb}
use lib.Dec.{eqb}
use Rattle.lists.specs.Sums.{sum_below}
use Rattle.lists.specs.Tests.{filter, All}
use Rattle.lists.proofs.All.{all_every, all_imp}
use Rattle.lists.proofs.Cases.{by_test}
use Rattle.lists.proofs.Counts.{count_map, count_same, count_split, count_append}
use Rattle.lists.proofs.Sums.{sum_le, sum_same, sum_add, sum_zero, sum_one, sum_just_one, sum_last}
use Rattle.ledger.specs.Limits.{task_count}
use Rattle.ledger.specs.Expirations.{departed}
use Rattle.ledger.specs.Objects.{Object, orphaned}
use Rattle.ledger.specs.declared.Limits.{Limits}
use Rattle.ledger.specs.declared.Share.{Share}
use Rattle.ledger.specs.Shares.{is_in, quota_of, used_in, made, unmet, all_unmet, is_full, is_short, is_at_limit}

-- No size changes.
pub used_map : (f : Object → Object) → ((o : Object) → (f o).size ≡ o.size) → (store : Bool) (os : List Object) → used_in store (map f os) ≡ used_in store os
used_map f sizes store os =
    count_map (is_in store) f os
    ∙ count_same (λ (o : Object). is_in store (f o)) (is_in store) os (all_every (λ (o : Object). is_in store (f o) ≡ is_in store o) (λ o. rw (sizes o)) os)

-- what is unmet, whether anything is reserved or not
pub unmet_so : (store : Bool) (shares : List Share) (os : List Object) (task : ℕ) → unmet store shares os task ≡ (quota_of store shares os task).reserve - made store os task
unfolding unmet
unmet_so store shares os task =
    let reserve = (quota_of store shares os task).reserve in
    by_test (eqb reserve 0) (λ e. rw e (omega (arith, eqb-true reserve 0 e))) (λ e. rw e)

-- Neither size nor maker changes.
module _ (f : Object → Object) (sizes : (o : Object) → (f o).size ≡ o.size) (makers : (o : Object) → (f o).maker ≡ o.maker) where
  pub made_map : (store : Bool) (os : List Object) (task : ℕ) → made store (map f os) task ≡ made store os task
  unfolding made
  made_map store os task =
      let is : Object → Bool = λ o. is_in store o && eqb o.maker task in
      count_map is f os ∙ count_same (λ (o : Object). is (f o)) is os (all_every (λ (o : Object). is (f o) ≡ is o) (λ o. rw (sizes o, makers o)) os)

  module _ (store : Bool) (shares : List Share) (os : List Object) where
    unmet_map : (task : ℕ) → unmet store shares (map f os) task ≡ unmet store shares os task
    unfolding unmet
    unmet_map task = rw (made_map store os task)

    all_unmet_map : all_unmet store shares (map f os) ≡ all_unmet store shares os
    all_unmet_map = sum_same task_count _ _ unmet_map

    pub full_map : (limits : Limits) (task : ℕ) → is_full store shares (map f os) limits task ≡ is_full store shares os limits task
    unfolding is_full
    full_map limits task = rw (used_map f sizes store os, all_unmet_map, unmet_map task)

    pub short_map : (limits : Limits) (task reserve : ℕ) → is_short store shares (map f os) limits task reserve ≡ is_short store shares os limits task reserve
    unfolding is_short
    short_map limits task reserve = rw (used_map f sizes store os, all_unmet_map, unmet_map task)

    pub limit_map : (task : ℕ) → is_at_limit store shares (map f os) task ≡ is_at_limit store shares os task
    unfolding is_at_limit
    limit_map task = rw (made_map store os task)

    -- used blocks and unmet reserves together
    pub spoken_map : used_in store (map f os) + all_unmet store shares (map f os) ≡ used_in store os + all_unmet store shares os
    spoken_map = rw (used_map f sizes store os, all_unmet_map)

-- An object is of one task at most.
module _ (store : Bool) where
  made_one : (o : Object) (os : List Object) (task : ℕ) → made store (o ∷ os) task ≡ cond (is_in store o && eqb o.maker task) 1 0 + made store os task
  unfolding made
  made_one o os task = by_test (is_in store o && eqb o.maker task) (λ e. rw e (omega arith)) (λ e. rw e (omega arith))

  used_one : (o : Object) (os : List Object) → used_in store (o ∷ os) ≡ cond (is_in store o) 1 0 + used_in store os
  used_one o os = by_test (is_in store o) (λ e. rw e (omega arith)) (λ e. rw e (omega arith))

  pub all_made : (n : ℕ) (os : List Object) → sum_below n (made store os) ≤ used_in store os
  unfolding made
  all_made n [] = omega (arith, sum_zero n)
  all_made n (o ∷ os) =
      let one : ℕ → ℕ = λ i. cond (is_in store o && eqb o.maker i) 1 0 in
      let parts = sum_same n (made store (o ∷ os)) (λ (i : ℕ). one i + made store os i) (made_one o os) ∙ sum_add n one (made store os) in
      omega (arith, parts, sum_one n o.maker (is_in store o), all_made n os, used_one o os)

  -- and of one maker, where all makers are known
  pub by_makers : (n : ℕ) (os : List Object) → All (λ (o : Object). o.maker < n) os → sum_below n (made store os) ≡ used_in store os
  unfolding made
  by_makers n [] h = sum_zero n
  by_makers n (o ∷ os) (h, hs) =
      let one : ℕ → ℕ = λ i. cond (is_in store o && eqb o.maker i) 1 0 in
      let parts = sum_same n (made store (o ∷ os)) (λ (i : ℕ). one i + made store os i) (made_one o os) ∙ sum_add n one (made store os) in
      omega (arith, parts, sum_just_one n o.maker (is_in store o) h, by_makers n os hs, used_one o os)

  -- the same by the larger of reserve and made for each task, and what departed ones made
  larger : (r m : ℕ) → max r m ≡ m + (r - m)
  larger r m = omega arith

  pub by_larger : (shares : List Share) (os : List Object) → All (λ (o : Object). o.maker ≤ departed) os
      → made store os departed + sum_below task_count (λ (i : ℕ). max (quota_of store shares os i).reserve (made store os i)) ≡ used_in store os + all_unmet store shares os
  by_larger shares os h =
      let all = by_makers (suc task_count) os (all_imp (λ o l. omega (arith, l)) os h) in
      let parts =
      sum_same task_count (λ (i : ℕ). max (quota_of store shares os i).reserve (made store os i)) (λ (i : ℕ). made store os i + unmet store shares os i)
      (λ i. larger (quota_of store shares os i).reserve (made store os i) ∙ ap (λ (u : ℕ). made store os i + u) (sym (unmet_so store shares os i))) ∙ sum_add task_count (made store os) (unmet store shares os) in
      omega (arith, parts, all, sum_last task_count (made store os))

  -- When objects go, no more is spoken for: a block that goes is at most one task's.
  module _ (shares : List Share) (p : Object → Bool) (os : List Object) where
    gone : List Object
    gone = filter (λ (o : Object). not (p o)) os

    unmet_filter : (task : ℕ) → unmet store shares (filter p os) task ≤ unmet store shares os task + made store gone task
    unfolding made gone
    unmet_filter task =
        omega (arith, unmet_so store shares os task, unmet_so store shares (filter p os) task, count_split (λ (o : Object). is_in store o && eqb o.maker task) p os)

    pub spoken_filter : used_in store (filter p os) + all_unmet store shares (filter p os) ≤ used_in store os + all_unmet store shares os
    unfolding gone
    spoken_filter =
        let more = sum_le task_count (unmet store shares (filter p os)) (λ (i : ℕ). unmet store shares os i + made store gone i) (λ i l. unmet_filter i) in
        omega (arith, more, sum_add task_count (unmet store shares os) (made store gone), all_made task_count gone, count_split (is_in store) p os)

  -- one more, and none of another task
  pub made_append : (o : Object) (os : List Object) (task : ℕ)
      → made store (os ++ (o ∷ [])) task ≡ made store os task + cond (is_in store o && eqb o.maker task) 1 0
  unfolding made
  made_append o os task =
      count_append _ os (o ∷ []) ∙ by_test (is_in store o && eqb o.maker task) (λ e. rw e) (λ e. rw e)

  pub used_append : (o : Object) (os : List Object) → used_in store (os ++ (o ∷ [])) ≡ used_in store os + cond (is_in store o) 1 0
  used_append o os = count_append _ os (o ∷ []) ∙ by_test (is_in store o) (λ e. rw e) (λ e. rw e)

  -- what a task made is nobody's after its leave, and all else as it was
  orphan : (task : ℕ) → task < task_count → (other : ℕ) → other < task_count → (maker : ℕ)
      → eqb (cond (eqb maker task) departed maker) other ≡ cond (eqb other task) false (eqb maker other)
  orphan task l other k maker =
      by_test (eqb maker task)
      (λ e. rw (e, ne_eqb departed other (λ q. omega (arith, q, k)))
      (by_test (eqb other task) (λ d. rw d)
      (λ d. rw (d, ne_eqb maker other (λ q. eqb-false other task d (sym q ∙ eqb-true maker task e))))))
      (λ e. rw e
      (by_test (eqb other task) (λ d. rw (d, eqb-true other task d, e)) (λ d. rw d)))

  pub made_orphaned : (task : ℕ) → task < task_count → (other : ℕ) → other < task_count → (os : List Object)
      → made store (map (orphaned task) os) other ≡ cond (eqb other task) 0 (made store os other)
  unfolding made
  made_orphaned task l other k [] = by_test (eqb other task) (λ e. rw e) (λ e. rw e)
  made_orphaned task l other k (o ∷ os) =
      let rest = made_orphaned task l other k os in
      by_test (eqb other task)
      (λ e. rw (orphan task l other k o.maker, rest, e, and-false))
      (λ e. rw (orphan task l other k o.maker, rest, e))
