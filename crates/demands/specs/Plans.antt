-- G14: the claims of a cable plan (order 13 of document 02) of the pool, over the calls of its run: whatever its answers are, no write is
-- refused, nor any other call but a make; the answers are those by which the run on the ledger goes on, and what is left reads as its
-- ledger.
use Rattle.std.specs.Prelude.{ℕ, ◌≤◌, false, List, ◌≡◌, length}
use Rattle.ledger.specs.Limits.{task_count}
use Rattle.ledger.specs.Ledger.{fresh, replies}
use Rattle.ledger.specs.Plans.{run, calls_of}
use Rattle.ledger.specs.PlansClaim.{some_refused, not_make, is_write}
use Rattle.ledger.specs.declared.Limits.{Limits}
use Rattle.ledger.specs.declared.plans.Channel.{Channel}
use Rattle.record.specs.Pools.{Reads}
use Rattle.record.specs.declared.Pool.{Pool}
use Rattle.demands.specs.Outlives.{FreshRun}

pub record PoolPlans : Type 0 where
  pub follows : (limits : Limits) (plan : List Channel) (steps : ℕ) (p : Pool) (small large : List ℕ)
      → (r : FreshRun limits (calls_of limits plan steps) p small large)
      → (r.replies ≡ replies (fresh limits) (calls_of limits plan steps)) × Reads p small large (run limits plan steps).ledger
  pub written : (limits : Limits) (plan : List Channel) (steps : ℕ) (p : Pool) (small large : List ℕ) → length plan ≤ task_count
      → (r : FreshRun limits (calls_of limits plan steps) p small large)
      → some_refused is_write (calls_of limits plan steps) r.replies ≡ false
  pub accepted : (limits : Limits) (plan : List Channel) (steps : ℕ) (p : Pool) (small large : List ℕ) → length plan ≤ task_count
      → (r : FreshRun limits (calls_of limits plan steps) p small large)
      → some_refused not_make (calls_of limits plan steps) r.replies ≡ false
