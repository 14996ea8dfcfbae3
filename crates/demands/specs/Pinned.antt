-- E25 of the pool, over lists of calls: an object that was made pinned (02: kept) stands until a release of it is accepted.
use Rattle.std.specs.Prelude.{ℕ, false, List, ◌∷◌, ◌++◌, ◌≡◌}
use Rattle.ledger.specs.Ledger.{Sent}
use Rattle.ledger.specs.Pinned.{PinnedMake, made_by, when_made, is_released}
use Rattle.record.specs.declared.Pool.{Pool}
use Rattle.demands.specs.Outlives.{FreshRun, StandsIn}

abbrev pub PoolStandsUntilReleased : Type 0
PoolStandsUntilReleased =
    (m : PinnedMake) (ss : List Sent) (p' : Pool) (small' large' : List ℕ) → FreshRun m.limits (m.earlier ++ (made_by m ∷ ss)) p' small' large'
    → is_released m.object (when_made m) ss ≡ false → StandsIn m.object p' small' large'
