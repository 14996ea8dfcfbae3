-- Quotas, by what each task made.
use Rattle.std.specs.Prelude.{ℕ, ◌+◌, ◌-◌, Bool, ◌&&◌, ◌||◌, List, ◌≡◌, eqb, leb, get_or}
use Rattle.lists.specs.Filled.{Filled}
use Rattle.lists.specs.Sums.{sum_below}
use Rattle.lists.specs.Tables.{all_from}
use Rattle.ledger.specs.Limits.{task_count}
use Rattle.ledger.specs.Objects.{no_share}
use Rattle.ledger.specs.Shares.{quota_in, blocks_in}
use Rattle.ledger.specs.Tasks.{is_active}
use Rattle.ledger.specs.declared.Limits.{Limits}
use Rattle.ledger.specs.declared.Share.{Share}
use Rattle.record.specs.Codes.{state_of, absent_entry}
use Rattle.record.specs.Shares.{is_ordered}
use Rattle.record.specs.declared.TaskEntry.{TaskEntry}
use Rattle.shares.specs.declared.Holding.{Holding}

-- Q5
abbrev pub unmet_by : Bool → List Share → List ℕ → ℕ → ℕ
unmet_by store shares made k = (quota_in store (get_or shares k no_share)).reserve - get_or made k 0

abbrev pub Unmets : Bool → List Share → List ℕ → List ℕ → Type 0
Unmets store shares made r = Filled 0 (λ k x. x ≡ unmet_by store shares made k) task_count task_count r

-- W21, W24
abbrev pub is_quota_kept : Bool → List ℕ → ℕ → Share → Bool
is_quota_kept store made k share = is_ordered (quota_in store share) && leb (get_or made k 0) (quota_in store share).limit

-- W20, where W21 holds
abbrev pub is_clear : List TaskEntry → ℕ → Share → Bool
is_clear tasks k share =
    is_active (state_of (get_or tasks k absent_entry).state) || (eqb share.small.limit 0 && eqb share.large.limit 0)

-- Q6: what the code holds of a store
pub record HeldBy (store : Bool) (shares : List Share) (made : List ℕ) (taken : ℕ) (holding : Holding) : Type 0 where
  pub same : holding.made ≡ made
  pub spoken : holding.spoken ≡ taken + sum_below task_count (unmet_by store shares made)

-- W23, W24, and W21 of the store
abbrev pub is_shared_by : Bool → Limits → List Share → Holding → Bool
is_shared_by store limits shares holding =
    leb holding.spoken (blocks_in limits store) && all_from 0 (is_quota_kept store holding.made) shares
