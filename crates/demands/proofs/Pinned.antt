-- Order 5 of the pool: by demand 2 it answers as the ledger, in which an object that was made pinned stands until its release.
use mathlib.Core.Bool.{true}
use mathlib.Core.List.{◌∷◌, ◌++◌}
use mathlib.Core.Path.{◌≡◌, sym, subst}
use Rattle.ledger.specs.Objects.{stands}
use Rattle.ledger.specs.Ledger.{Ledger, fresh, after_all}
use Rattle.ledger.specs.Pinned.{made_by, when_made}
use Rattle.ledger.proofs.Pinned.{stands_until}
use Rattle.demands.specs.Pinned.{PoolStandsUntilReleased}
use Rattle.demands.proofs.Outlives.{after_append, stands_in_lem}

pub pool_stands_until : PoolStandsUntilReleased
unfolding after_all
pool_stands_until m ss p' small' large' r e =
    let all = m.earlier ++ (made_by m ∷ ss) in
    let same : after_all (fresh m.limits) all ≡ after_all (when_made m) ss = after_append m.earlier (made_by m ∷ ss) (fresh m.limits) in
    stands_in_lem m.limits all p' small' large' r m.object
    (subst (λ (L : Ledger). stands L.expirations m.object ≡ true) (sym same) (stands_until m ss e).0)
