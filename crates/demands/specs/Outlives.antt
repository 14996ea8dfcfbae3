-- U12, order 7 of the pool, over lists of calls: statements about all that the calls' contracts allow, and so about this code.
use Rattle.std.specs.Prelude.{ℕ, ◌+◌, ◌≤◌, true, ◌≡◌, eqb, length}
use mathlib.Core.List.{List, [], ◌∷◌, ◌++◌, map, Permᴰ}
use Rattle.lists.specs.Tests.{any}
use Rattle.ledger.specs.Expirations.{Expiration}
use Rattle.ledger.specs.Objects.{Object, Reply, stands}
use Rattle.ledger.specs.Ledger.{Ledger, Sent, fresh, after_sent, after_all}
use Rattle.ledger.specs.Limits.{is_allowed}
use Rattle.ledger.specs.Compared.{shown}
use Rattle.ledger.specs.Outlives.{set_in, left_in, followed, is_tick_of, is_leave_of, count_of, Setting, when_set, Stretch, calls_of, are_rounds}
use Rattle.ledger.specs.declared.Answer.TheVariants.{Refused}
use Rattle.ledger.specs.declared.Call.TheVariants.{Read}
use Rattle.ledger.specs.declared.Refusal.TheVariants.{ObjectGone}
use Rattle.ledger.specs.declared.Request.TheVariants.{Use}
use Rattle.ledger.specs.declared.Limits.{Limits}
use Rattle.record.specs.Reading.{fresh_pool, whole_small, whole_large, record_view}
use Rattle.record.specs.Tables.{tables_of}
use Rattle.record.specs.declared.Pool.{Pool}
use Rattle.calls.specs.Contract.{Obeys}
use Rattle.demands.specs.Demands.{Runs, OfType}

-- A list of calls from a fresh pool of allowed figures, with stores as long as the blocks need
pub record FreshRun (limits : Limits) (ss : List Sent) (p' : Pool) (small' large' : List ℕ) : Type 0 where
  pub allowed : is_allowed limits ≡ true
  pub small : List ℕ
  pub large : List ℕ
  pub small_whole : length small ≡ whole_small limits
  pub large_whole : length large ≡ whole_large limits
  pub replies : List Reply
  pub runs : Runs (fresh_pool limits) small large ss replies p' small' large'

-- There is one for every list of calls and all figures that a site may choose: no statement about such runs is empty.
pub record SomeRun (limits : Limits) (ss : List Sent) : Type 0 where
  pub pool : Pool
  pub small : List ℕ
  pub large : List ℕ
  pub run : FreshRun limits ss pool small large
  pub typed : OfType pool

abbrev pub EveryListFromFresh : Type 0
EveryListFromFresh = (limits : Limits) → is_allowed limits ≡ true → (ss : List Sent) → SomeRun limits ss

-- one of them sets a global expiration, and more follow
abbrev pub SetRun : Setting → List Sent → Pool → List ℕ → List ℕ → Type 0
SetRun d ss p' small' large' = FreshRun d.limits (d.earlier ++ (d.call ∷ ss)) p' small' large'

-- An object stands in the pool:
pub record StandsIn (handle : ℕ) (p : Pool) (small large : List ℕ) : Type 0 where
  -- the record has an object with this handle,
  pub has : any (λ (o : Object). eqb handle o.handle) (record_view (tables_of p) small large).objects ≡ true
  -- and no read of it is answered 12.
  pub reads : (task : ℕ) (y : Reply) (p' : Pool) (small' large' : List ℕ) → Obeys (Use (Read task handle)) [] p small large y p' small' large'
      → y.answer ≡ Refused ObjectGone → ⊥

-- what a list of calls leaves of the expirations that it sets itself
unfoldable pub followed_new : Ledger → List Sent → List Expiration
followed_new L [] = []
followed_new L (s ∷ ss) = followed_new (after_sent L s) ss ++ followed (after_sent L s) ss (set_in L s.request s.bytes)

-- all the others: what is left of those that stood beside the one that was set, and of those set since
abbrev pub beside : Setting → List Expiration
beside d =
    let L = after_all (fresh d.limits) d.earlier in
    d.back ++ left_in L d.call.request d.call.bytes L.expirations

abbrev pub others_of : Setting → List Sent → List Expiration
others_of d ss = followed_new (when_set d) ss ++ followed (when_set d) ss (d.front ++ beside d)

-- the record has these expirations and no other, in some order (L8), by the ledger's clocks
abbrev pub Shows : Pool → List ℕ → List ℕ → Ledger → List Expiration → Type 0
Shows p small large L xs = Permᴰ (record_view (tables_of p) small large).expirations (map (shown L.memory.clocks) xs)

-- To follow an expiration in the ledger is to follow it in the record.
abbrev pub PoolFollows : Type 0
PoolFollows =
    (d : Setting) (ss : List Sent) (p' : Pool) (small' large' : List ℕ) → SetRun d ss p' small' large'
    → Shows p' small' large' (after_all (when_set d) ss) (followed (when_set d) ss (d.expiration ∷ []) ++ others_of d ss)

-- What it is to have outlived these calls:
pub record Outlived (d : Setting) (ss : List Sent) (p' : Pool) (small' large' : List ℕ) : Type 0 where
  -- this very expiration is left,
  pub left : stands (followed (when_set d) ss (d.expiration ∷ [])) d.expiration.handle ≡ true
  -- the record has it, beside the others,
  pub shows : Shows p' small' large' (after_all (when_set d) ss) (followed (when_set d) ss (d.expiration ∷ []) ++ others_of d ss)
  -- and the object stands.
  pub object : StandsIn d.expiration.handle p' small' large'

-- So the first claim (U6): an expiration outlives all calls while its setter has not left and has made at most e ticks since,
abbrev pub PoolOutlivesTicks : Type 0
PoolOutlivesTicks =
    (d : Setting) (ss : List Sent) (p' : Pool) (small' large' : List ℕ) → SetRun d ss p' small' large'
    → count_of (is_leave_of d.setter) (when_set d) ss ≡ 0 → count_of (is_tick_of d.setter) (when_set d) ss ≤ d.extension
    → Outlived d ss p' small' large'

-- and the second (U10): after e + 2 rounds, in none of which the setter waits, the record has the others alone.
abbrev pub PoolGoneAfterRounds : Type 0
PoolGoneAfterRounds =
    (d : Setting) (rs : List Stretch) (rest : List Sent) (p' : Pool) (small' large' : List ℕ) → SetRun d (calls_of rs rest) p' small' large'
    → length rs ≡ d.extension + 2 → are_rounds (when_set d) (d.expiration ∷ []) rs ≡ true
    → Shows p' small' large' (after_all (when_set d) (calls_of rs rest)) (others_of d (calls_of rs rest))
