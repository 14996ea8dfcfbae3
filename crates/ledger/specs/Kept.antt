-- D8: what every ledger keeps from fresh on: its side of the rules W, and that every object is intact, which no well-formed record need be.
use Rattle.std.specs.Prelude.{ℕ, ◌+◌, ◌≤◌, ◌<◌, Bool, true, false, not, ◌||◌, List, [], ◌∷◌, ◌≡◌, eqb, length, get_or}
use Rattle.lists.specs.Tests.{any, count, All}
use Rattle.ledger.specs.Limits.{task_count, large_size, last_handle, block_size}
use Rattle.ledger.specs.Tasks.{Task, Clocks, task_at, is_absent, is_running, is_active, all_ticked}
use Rattle.ledger.specs.Expirations.{DueTime, by_local, by_global, pinned, departed, Expiration, remaining, is_live, is_of, is_pin_of}
use Rattle.ledger.specs.Objects.{Object, is_intact, stands, no_share}
use Rattle.ledger.specs.Shares.{quota_of, blocks_in, used_in, made, all_unmet}
use Rattle.ledger.specs.Ledger.{Ledger, Sent, fresh, after_all}
use Rattle.ledger.specs.declared.Limits.{Limits}
use Rattle.ledger.specs.declared.Share.{Share}

-- W9, W11: who is ticked runs, and an absent task has local time 0
pub record TaskKept (t : Task) : Type 0 where
  pub ticked : t.ticked ≡ true → is_running t.state ≡ true
  pub clock : is_absent t.state ≡ true → t.clock ≡ 0

-- T1: the sixteen entries
pub record ClocksKept (clocks : Clocks) : Type 0 where
  pub sixteen : length clocks.tasks ≡ task_count
  pub tasks : All TaskKept clocks.tasks
  -- W10: not all that run are ticked
  pub unticked : all_ticked clocks.tasks ≡ false

pub record ObjectKept (given : ℕ) (o : Object) : Type 0 where
  -- W4: a handle that was given
  pub numbered : (1 ≤ o.handle) × (o.handle ≤ given)
  -- W3: a length that goes to a store
  pub sized : (1 ≤ o.size) × (o.size ≤ large_size)
  -- W25: a prefix that is not longer than the object
  pub prefixed : o.prefix ≤ o.size
  -- O33: as many bytes as a block of that store has
  pub filled : length o.bytes ≡ block_size o.size
  -- O34: which add up to the sum
  pub intact : is_intact o ≡ true

-- L2: in the order of their handles, and so no two alike (W5)
abbrev pub Ascending : List Object → Type 0
Ascending [] = Unit
Ascending (o ∷ os) = All (λ (p : Object). o.handle < p.handle) os × Ascending os

pub record ObjectsKept (given : ℕ) (os : List Object) : Type 0 where
  pub each : All (ObjectKept given) os
  pub ascending : Ascending os
  -- O15: no more handles than there are
  pub numbers : given ≤ last_handle

-- W6 to W8, W14: no more remains than the largest extension gives, and the setter is there; that of a global one may have departed
abbrev pub Within : Limits → Clocks → DueTime → Type 0
Within limits clocks (by_local setter at) =
    (remaining clocks (by_local setter at) ≤ limits.extension + 1) × (is_absent (task_at clocks setter).state ≡ false)
Within limits clocks (by_global setter at) =
    (remaining clocks (by_global setter at) ≤ limits.extension + 2)
    × ((eqb setter departed || not (is_absent (task_at clocks setter).state)) ≡ true)
Within limits clocks pinned = Unit

-- the expiration is one of an object of the list
abbrev pub is_owned : List Object → Expiration → Bool
is_owned os x = any (λ (o : Object). is_of o.handle x) os

-- W1: it is of an object that stands; W6, W8: something remains of it, where it is not pinned
pub record ExpirationKept (limits : Limits) (clocks : Clocks) (os : List Object) (x : Expiration) : Type 0 where
  pub owned : is_owned os x ≡ true
  pub ahead : is_live clocks x ≡ true
  pub within : Within limits clocks x.due

pub record ExpirationsKept (limits : Limits) (clocks : Clocks) (os : List Object) (xs : List Expiration) : Type 0 where
  pub each : All (ExpirationKept limits clocks os) xs
  -- E14: they have room
  pub room : length xs ≤ limits.expirations

-- E23: what is pinned has a pinned expiration, and nothing else has
abbrev pub PinsKept : List ℕ → List Expiration → Type 0
PinsKept handles xs = (handle : ℕ) → any (eqb handle) handles ≡ any (is_pin_of handle) xs

-- W16: of one object no more than one is pinned
abbrev pub PinnedOnceKept : List Expiration → Type 0
PinnedOnceKept xs = (handle : ℕ) → count (is_pin_of handle) xs ≤ 1

-- Q1: the sixteen shares
pub record SharesKept (limits : Limits) (clocks : Clocks) (shares : List Share) (os : List Object) : Type 0 where
  pub sixteen : length shares ≡ task_count
  -- W20: who is absent or views has nothing
  pub inactive : (task : ℕ) → is_active (task_at clocks task).state ≡ false → get_or shares task no_share ≡ no_share
  -- W21: no reserve is above its limit
  pub ordered : (store : Bool) (task : ℕ) → (quota_of store shares os task).reserve ≤ (quota_of store shares os task).limit
  -- W22: the maker of an object is one of the tasks, or departed
  pub known : All (λ (o : Object). o.maker ≤ departed) os
  -- O5, O6, W23: the free blocks of either store suffice for all unmet reserves
  pub room : (store : Bool) → used_in store os + all_unmet store shares os ≤ blocks_in limits store
  -- W24: no task is above its limit
  pub below : (store : Bool) (task : ℕ) → task < task_count → made store os task ≤ (quota_of store shares os task).limit

pub record Kept (L : Ledger) : Type 0 where
  pub clocks : ClocksKept L.memory.clocks
  pub objects : ObjectsKept L.memory.given L.memory.objects
  pub shares : SharesKept L.memory.limits L.memory.clocks L.memory.shares L.memory.objects
  pub expirations : ExpirationsKept L.memory.limits L.memory.clocks L.memory.objects L.expirations
  pub pins : PinsKept L.memory.pinned L.expirations
  pub once : PinnedOnceKept L.expirations
  -- W2: each object has an expiration
  pub standing : All (λ (o : Object). stands L.expirations o.handle ≡ true) L.memory.objects

-- D8: whatever the figures, from fresh on every ledger keeps all of it
abbrev pub EveryLedgerKeeps : Type 0
EveryLedgerKeeps = (limits : Limits) (ss : List Sent) → Kept (after_all (fresh limits) ss)
