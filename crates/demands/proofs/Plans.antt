-- The pool answers as the ledger does: so the claims of a plan are the pool's.
use Rattle.ledger.proofs.PlansHold.{plans}
use Rattle.demands.specs.Plans.{PoolPlans}
use Rattle.demands.proofs.Outlives.{fresh_follows}

pub pool_plans : PoolPlans
pool_plans =
    record {
      follows = λ limits plan steps p small large r.
          ((fresh_follows r).0, rw (plans.from limits plan steps) at (fresh_follows r).1);
      written = λ limits plan steps p small large l r. rw (fresh_follows r).0 (plans.written limits plan l steps);
      accepted = λ limits plan steps p small large l r. rw (fresh_follows r).0 (plans.accepted limits plan l steps);
    }
