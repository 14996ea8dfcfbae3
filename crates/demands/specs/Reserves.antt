-- Q10 and Q11 of the pool, over lists of calls: free blocks for all unmet reserves, nobody above a limit, and no make of a task below its
-- reserve is answered 9 or 26.
use Rattle.std.specs.Prelude.{ℕ, ◌≤◌, ◌<◌, Bool, true, false, List, [], ◌∷◌, ◌≢◌, ◌≡◌, get_or}
use Rattle.ledger.specs.Limits.{standard, task_count, is_small}
use Rattle.ledger.specs.Objects.{Reply, no_share}
use Rattle.ledger.specs.Tasks.{is_active}
use Rattle.ledger.specs.Shares.{blocks_in}
use Rattle.ledger.specs.Ledger.{Sent}
use Rattle.ledger.specs.Rows.{join_with, share_of}
use Rattle.ledger.specs.declared.Answer.TheVariants.{Refused}
use Rattle.ledger.specs.declared.Call.TheVariants.{Make}
use Rattle.ledger.specs.declared.Kind.{Kind}
use Rattle.ledger.specs.declared.Limits.{Limits}
use Rattle.ledger.specs.declared.Refusal.TheVariants.{NoFreeBlock, AtLimit}
use Rattle.ledger.specs.declared.Request.TheVariants.{Use}
use Rattle.record.specs.Codes.{state_of, absent_entry}
use Rattle.record.specs.Shares.{made_in, quota_at, unmet_in, spoken_in}
use Rattle.record.specs.Tables.{tables_of}
use Rattle.record.specs.declared.Pool.{Pool}
use Rattle.calls.specs.Contract.{Obeys}
use Rattle.demands.specs.Outlives.{FreshRun}

pub record PoolReserves : Type 0 where
  -- after every list of calls the free blocks of either store suffice for all unmet reserves,
  pub room : (limits : Limits) (ss : List Sent) (p : Pool) (small large : List ℕ) → FreshRun limits ss p small large
      → (store : Bool) → let t = tables_of p in spoken_in store t.shares t.blocks ≤ blocks_in limits store
  -- no task is above its limit,
  pub below : (limits : Limits) (ss : List Sent) (p : Pool) (small large : List ℕ) → FreshRun limits ss p small large
      → (store : Bool) (task : ℕ) → task < task_count
      → let t = tables_of p in made_in store t.blocks task ≤ (quota_at store t.shares t.blocks task).limit
  -- nor a reserve above its limit,
  pub ordered : (limits : Limits) (ss : List Sent) (p : Pool) (small large : List ℕ) → FreshRun limits ss p small large
      → (store : Bool) (task : ℕ)
      → let t = tables_of p in (quota_at store t.shares t.blocks task).reserve ≤ (quota_at store t.shares t.blocks task).limit
  -- who is absent or views has nothing,
  pub inactive : (limits : Limits) (ss : List Sent) (p : Pool) (small large : List ℕ) → FreshRun limits ss p small large
      → (task : ℕ) → let t = tables_of p in is_active (state_of (get_or t.tasks task absent_entry).state) ≡ false → get_or t.shares task no_share ≡ no_share
  -- and whatever a make of a task below its reserve is answered, it is neither 9 nor 26.
  pub never : (limits : Limits) (ss : List Sent) (p : Pool) (small large : List ℕ) → FreshRun limits ss p small large
      → (task : ℕ) (kind : Kind) (extension size prefix : ℕ) (new : List ℕ)
      → let t = tables_of p in 1 ≤ unmet_in (is_small size) t.shares t.blocks task
      → (y : Reply) (p' : Pool) (small' large' : List ℕ) → Obeys (Use (Make task kind extension size prefix)) new p small large y p' small' large'
      → (y.answer ≢ Refused NoFreeBlock) × (y.answer ≢ Refused AtLimit)
  -- A task may be below its reserve: after a join with a reserve of one small block it is. (There is such a run: `EveryListFromFresh`.)
  pub applies : (p : Pool) (small large : List ℕ) → FreshRun standard (join_with 0 (share_of 1 1 0 0) ∷ []) p small large
      → let t = tables_of p in 1 ≤ unmet_in true t.shares t.blocks 0
