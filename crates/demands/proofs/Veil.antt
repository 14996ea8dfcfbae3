-- The ledger's claim of the veil, of a pool that answers as the ledger does.
use Rattle.ledger.proofs.Veil.{discreet}
use Rattle.demands.specs.Veil.{PoolDiscreet}
use Rattle.demands.proofs.Outlives.{fresh_follows}

pub pool_discreet : PoolDiscreet
pool_discreet =
    record {
      viewers = λ limits ss ts e p q small large small₂ large₂ a b. rw ((fresh_follows a).0, (fresh_follows b).0) (discreet.viewers limits ss ts e);
      same = λ limits ss ts e p q small large small₂ large₂ a b. rw ((fresh_follows a).0, (fresh_follows b).0) (discreet.same limits ss ts e);
    }
