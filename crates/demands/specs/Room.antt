-- The claim of K (order 11 of document 02) for the pool: of every list of calls that is run from a fresh record, its stores being as long
-- as the blocks need and changed by the calls alone.
use Rattle.std.specs.Prelude.{ℕ, true, List, map, ◌↔◌, ◌≡◌, length}
use Rattle.lists.specs.Tests.{All}
use Rattle.ledger.specs.Objects.{Reply}
use Rattle.ledger.specs.Ledger.{Sent}
use Rattle.ledger.specs.Limits.{is_allowed}
use Rattle.ledger.specs.Room.{as_read, peaks, Fits, HasRoom}
use Rattle.ledger.specs.declared.Limits.{Limits}
use Rattle.record.specs.Reading.{fresh_pool, whole_small, whole_large}
use Rattle.record.specs.declared.Pool.{Pool}
use Rattle.demands.specs.Demands.{Runs}

-- K7: whatever the calls are, read so the pool answers none with 9 or 10 exactly when it has the room. (Every such list can be run: D13.)
abbrev pub PoolHasRoom : Type 0
PoolHasRoom =
    (limits : Limits) → is_allowed limits ≡ true → (small large : List ℕ) → length small ≡ whole_small limits → length large ≡ whole_large limits
    → (ss : List Sent) (ys : List Reply) (p' : Pool) (small' large' : List ℕ) → Runs (fresh_pool limits) small large (map as_read ss) ys p' small' large'
    → All HasRoom ys ↔ Fits limits (peaks limits ss)
