-- T20 and T21 of the pool, over lists of calls: when its global time advances, and that somebody is awaited between two calls.
use Rattle.std.specs.Prelude.{ℕ, ◌+◌, false, cond, List, map, ◌≡◌}
use Rattle.ledger.specs.Objects.{Reply}
use Rattle.ledger.specs.Ledger.{Ledger, Sent, fresh}
use Rattle.ledger.specs.Compared.{wrapped}
use Rattle.ledger.specs.Awaited.{is_nobody_awaited, brings_advance, advances_in}
use Rattle.ledger.specs.declared.Limits.{Limits}
use Rattle.ledger.specs.declared.Request.{Request}
use Rattle.record.specs.Codes.{task_of}
use Rattle.record.specs.Pools.{Reads}
use Rattle.record.specs.declared.Pool.{Pool}
use Rattle.calls.specs.Contract.{Ready, Obeys}
use Rattle.demands.specs.Outlives.{FreshRun}

pub record PoolAwaited : Type 0 where
  -- T21: on a record and stores that are not refused with 15 or 14, a call makes the global time advance by 1 exactly where it is an
  -- accepted tick, block or leave that leaves nobody awaited while some task runs, and else leaves it;
  pub one : (request : Request) (new : List ℕ) (p : Pool) (small large : List ℕ) (y : Reply) (p' : Pool) (small' large' : List ℕ)
      → Obeys request new p small large y p' small' large' → Ready request p small large → (L : Ledger) → Reads p small large L
      → p'.head.global.0 ≡ wrapped (p.head.global.0 + cond (brings_advance L request new) 1 0)
  -- so from fresh on it is as many as these are, by a counter that wraps (T8);
  pub every : (limits : Limits) (ss : List Sent) (p' : Pool) (small' large' : List ℕ) → FreshRun limits ss p' small' large'
      → p'.head.global.0 ≡ wrapped (advances_in (fresh limits) ss)
  -- and between two calls somebody is awaited wherever some task runs (W10).
  pub between : (limits : Limits) (ss : List Sent) (p' : Pool) (small' large' : List ℕ) → FreshRun limits ss p' small' large'
      → is_nobody_awaited (map task_of p'.head.tasks) ≡ false
