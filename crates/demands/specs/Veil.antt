-- V10, order 10 of the pool, over lists of calls: what is written beyond the prefix of an object (02: head) shows in no viewer's answer.
-- Each run may begin with other bytes in its stores. (There are such runs: `EveryListFromFresh`; and lists with one veil that are answered
-- differently: `Views`.)
use Rattle.std.specs.Prelude.{ℕ, List, ◌≡◌}
use Rattle.ledger.specs.Ledger.{Sent, fresh}
use Rattle.ledger.specs.Veil.{veils, to_viewers, seen_in}
use Rattle.ledger.specs.declared.Limits.{Limits}
use Rattle.record.specs.declared.Pool.{Pool}
use Rattle.demands.specs.Outlives.{FreshRun}

pub record PoolDiscreet : Type 0 where
  -- two lists of calls that differ only in bytes written beyond prefixes: all answers to viewers, and all reports, are the same,
  pub viewers : (limits : Limits) (ss ts : List Sent) → veils (fresh limits) ss ≡ veils (fresh limits) ts
      → (p q : Pool) (small large small₂ large₂ : List ℕ) (a : FreshRun limits ss p small large) (b : FreshRun limits ts q small₂ large₂)
      → to_viewers (fresh limits) ss a.replies ≡ to_viewers (fresh limits) ts b.replies
  -- and so is every answer at its place, but for what a task that is no viewer reads beyond a prefix.
  pub same : (limits : Limits) (ss ts : List Sent) → veils (fresh limits) ss ≡ veils (fresh limits) ts
      → (p q : Pool) (small large small₂ large₂ : List ℕ) (a : FreshRun limits ss p small large) (b : FreshRun limits ts q small₂ large₂)
      → seen_in (fresh limits) ss a.replies ≡ seen_in (fresh limits) ts b.replies
