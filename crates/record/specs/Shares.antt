-- The rules Q by a record's entries (order 9 of document 02): what of a store each task has, what is held back for it, and what is asked of
-- shares and makers: the rules W20 to W24.
use Rattle.std.specs.Prelude.{ℕ, ◌+◌, ◌-◌, Bool, true, false, cond, not, ◌&&◌, ◌||◌, List, get_or, ◌==◌, nat_le, slice_index_or}
use Rattle.lists.specs.Sums.{sum_below}
use Rattle.lists.specs.Tables.{all_from}
use Rattle.lists.specs.Tests.{all, count}
use Rattle.ledger.specs.Limits.{task_count, is_small}
use Rattle.ledger.specs.Tasks.{is_active}
use Rattle.ledger.specs.Expirations.{departed}
use Rattle.ledger.specs.Objects.{no_share}
use Rattle.ledger.specs.Shares.{quota_in, blocks_in}
use Rattle.ledger.specs.declared.Limits.{Limits}
use Rattle.ledger.specs.declared.Quota.{Quota}
use Rattle.ledger.specs.declared.Share.{Share}
use Rattle.record.specs.Codes.{state_of, absent_entry}
use Rattle.record.specs.Tables.{BlockEntry}
use Rattle.record.specs.declared.TaskEntry.{TaskEntry}

-- a block in use, of a length that goes to the store
unfoldable pub is_taken : Bool → BlockEntry → Bool
is_taken store b = not (b.handle == 0) && cond store (is_small b.length) (not (is_small b.length))

abbrev pub is_made_by : Bool → ℕ → BlockEntry → Bool
is_made_by store task b = is_taken store b && b.maker == task

abbrev pub taken_in : Bool → List BlockEntry → ℕ
taken_in store blocks = count (is_taken store) blocks

-- Q4
unfoldable pub made_in : Bool → List BlockEntry → ℕ → ℕ
made_in store blocks task = count (is_made_by store task) blocks

module _ (store : Bool) (shares : List Share) (blocks : List BlockEntry) where
  abbrev pub quota_at : ℕ → Quota
  quota_at task = quota_in store (slice_index_or shares task no_share)

  -- Q5
  abbrev pub unmet_in : ℕ → ℕ
  unmet_in task = (quota_at task).reserve - made_in store blocks task

  -- Q6
  unfoldable pub all_unmet_in : ℕ
  all_unmet_in = sum_below task_count unmet_in

  -- the blocks in use and those that are held back
  abbrev pub spoken_in : ℕ
  spoken_in = taken_in store blocks + all_unmet_in

  -- Q7
  unfoldable pub taken_but : ℕ → ℕ
  taken_but task = taken_in store blocks + (all_unmet_in - unmet_in task)

  -- R26
  unfoldable pub is_limited : ℕ → Bool
  is_limited task = nat_le (quota_at task).limit (made_in store blocks task)

abbrev pub is_nothing : Quota → Bool
is_nothing quota = quota.reserve == 0 && quota.limit == 0

abbrev pub is_ordered : Quota → Bool
is_ordered quota = nat_le quota.reserve quota.limit

-- W20: who is absent or views has no share; W21: of either store, no reserve is above its limit
abbrev pub is_fit_share : List TaskEntry → ℕ → Share → Bool
is_fit_share tasks task share =
    (is_active (state_of (get_or tasks task absent_entry).state) || (is_nothing share.small && is_nothing share.large))
    && (is_ordered share.small && is_ordered share.large)

-- W22: the maker of an object is a task, or departed
abbrev pub is_known : BlockEntry → Bool
is_known b = b.handle == 0 || nat_le b.maker departed

-- W24: a task is not above its limit
abbrev pub is_within_limit : Bool → List BlockEntry → ℕ → Share → Bool
is_within_limit store blocks task share = nat_le (made_in store blocks task) (quota_in store share).limit

-- W23, W24: of one store; the free blocks suffice for all unmet reserves
unfoldable pub is_shared_in : Bool → Limits → List Share → List BlockEntry → Bool
is_shared_in store limits shares blocks = nat_le (spoken_in store shares blocks) (blocks_in limits store) && all_from 0 (is_within_limit store blocks) shares

unfoldable pub is_shared : Limits → List TaskEntry → List Share → List BlockEntry → Bool
is_shared limits tasks shares blocks =
    all_from 0 (is_fit_share tasks) shares && all is_known blocks && is_shared_in true limits shares blocks && is_shared_in false limits shares blocks
