-- The rules Q4 to Q9 (order 9 of document 02): what of a store a task has, what is held back for it, and what is left for the others. Each
-- once for either store, and for any count of blocks.
use Rattle.std.specs.Prelude.{ℕ, ◌+◌, ◌-◌, Bool, true, false, cond, not, ◌&&◌, ◌||◌, List, eqb, leb, ltb, get_or}
use Rattle.lists.specs.Sums.{sum_below}
use Rattle.lists.specs.Tests.{count}
use Rattle.ledger.specs.Limits.{task_count, is_small}
use Rattle.ledger.specs.Objects.{Object, no_share}
use Rattle.ledger.specs.declared.Limits.{Limits}
use Rattle.ledger.specs.declared.Quota.{Quota}
use Rattle.ledger.specs.declared.Share.{Share}

-- a store is named by what is_small says of the lengths that go to it
abbrev pub is_in : Bool → Object → Bool
is_in store o = cond store (is_small o.size) (not (is_small o.size))

abbrev pub quota_in : Bool → Share → Quota
quota_in store share = cond store share.small share.large

abbrev pub blocks_in : Limits → Bool → ℕ
blocks_in limits store = cond store limits.small limits.large

-- the blocks in use
abbrev pub used_in : Bool → List Object → ℕ
used_in store os = count (is_in store) os

-- Q4: the objects of a store that a task made
unfoldable pub made : Bool → List Object → ℕ → ℕ
made store os task = count (λ (o : Object). is_in store o && eqb o.maker task) os

module _ (store : Bool) (shares : List Share) (os : List Object) where
  abbrev pub quota_of : ℕ → Quota
  quota_of task = quota_in store (get_or shares task no_share)

  -- Q5: by how much a task's objects fall short of its reserve. (Who reserves nothing is not counted: rows compute twice as fast so.)
  unfoldable pub unmet : ℕ → ℕ
  unmet task = cond (eqb (quota_of task).reserve 0) 0 ((quota_of task).reserve - made store os task)

  -- Q6: of all tasks together, those that wait too
  abbrev pub all_unmet : ℕ
  all_unmet = sum_below task_count unmet

  -- Q7: the blocks in use, and those that others' unmet reserves hold back
  abbrev pub taken_from : ℕ → ℕ
  taken_from task = used_in store os + (all_unmet - unmet task)

  -- Q8, R9: no block is left for the task
  unfoldable pub is_full : Limits → ℕ → Bool
  is_full limits task = leb (blocks_in limits store) (taken_from task)

  -- Q9, R25: too few are left for it to have this reserve
  unfoldable pub is_short : Limits → ℕ → ℕ → Bool
  is_short limits task reserve = ltb (blocks_in limits store) (taken_from task + reserve)

  -- Q8, R26: it has as many objects as it may
  unfoldable pub is_at_limit : ℕ → Bool
  is_at_limit task = leb (quota_of task).limit (made store os task)

-- Q9, R25: of either store
abbrev pub is_short_of : Limits → List Share → List Object → ℕ → Share → Bool
is_short_of limits shares os task share =
    is_short true shares os limits task share.small.reserve || is_short false shares os limits task share.large.reserve
