-- What the entries promise: record and stores as the call leaves them, and the call's reply told.
use Rattle.std.specs.Prelude.{ℕ, true, false, cond, List, [], ◌∷◌, ◌≡◌, ltb, Result, Ok, Err}
use Rattle.ledger.specs.Awaited.{awaited_bits}
use Rattle.ledger.specs.Limits.{task_count, is_allowed}
use Rattle.ledger.specs.Ledger.{Ledger}
use Rattle.ledger.specs.Numbers.{number_of}
use Rattle.ledger.specs.Objects.{Memory, plain}
use Rattle.ledger.specs.Shares.{quota_of, made}
use Rattle.ledger.specs.declared.Answer.{Answer}
use Rattle.ledger.specs.declared.Call.TheVariants.{Refresh, Batch}
use Rattle.ledger.specs.declared.Kind.{Kind}
use Rattle.ledger.specs.declared.Refusal.{Refusal}
use Rattle.ledger.specs.declared.Refusal.TheVariants.{NoSuchTask, NotWellFormed, UnknownKind, LimitsOutOfRange}
use Rattle.ledger.specs.declared.Limits.{Limits}
use Rattle.ledger.specs.declared.Request.{Request}
use Rattle.ledger.specs.declared.Request.TheVariants.{Use}
use Rattle.record.specs.Pools.{is_well_formed, Reads}
use Rattle.record.specs.Reading.{fresh_pool}
use Rattle.record.specs.declared.Pool.{Pool}
use Rattle.calls.specs.Contract as Contract
use Rattle.text.specs.HandleBytes.{handle_bytes}
use Rattle.by_value.specs.Told.{Loans, lent_numbers, with_number, told_by}

-- a call that touches no store: join, leave, block, resume, tick, view, release, report, remaining life, and a refresh or batch of a known
-- kind; with the bytes that it brings and the numbers that it is lent_numbers
pub record DoesWith (request : Request) (new : List ℕ) (p : Pool) (numbers : List ℕ) (number : ℕ) (p' : Pool) (numbers' : List ℕ) : Type 0 where
  pub answer : Answer
  pub follows : Contract.FollowsWith request new p answer p'
  pub told : with_number number (lent_numbers numbers') ≡ told_by (plain answer) (lent_numbers numbers)

-- all but batch bring none
abbrev pub Does : Request → Pool → List ℕ → ℕ → Pool → List ℕ → Type 0
Does request p numbers number p' numbers' = DoesWith request [] p numbers number p' numbers'

-- make of a known kind
pub record MakesOne (task : ℕ) (kind : Kind) (extension size prefix : ℕ) (p : Pool) (small large numbers : List ℕ) (number : ℕ) (p' : Pool) (small' large' numbers' : List ℕ) : Type 0 where
  pub answer : Answer
  pub makes : Contract.Makes task kind extension size prefix p small large answer p' small' large'
  pub told : with_number number (lent_numbers numbers') ≡ told_by (plain answer) (lent_numbers numbers)

-- write: the record gets the block's new sum
pub record WritesTo (task handle offset : ℕ) (bytes : List ℕ) (p : Pool) (small large : List ℕ) (number : ℕ) (p' : Pool) (small' large' : List ℕ) : Type 0 where
  pub answer : Answer
  pub writes : Contract.Writes task handle offset bytes p small large answer p' small' large'
  pub told : with_number number (lent_numbers []) ≡ told_by (plain answer) (lent_numbers [])

-- read: the object's bytes at the start of the host's buffer, and how many; record and stores stay
pub record CopiesOut (task handle : ℕ) (p : Pool) (small large : List ℕ) (loans : Loans) (number : ℕ) (loans' : Loans) : Type 0 where
  pub answer : Answer
  pub bytes : List ℕ
  pub reads : Contract.ReadsBack task handle p small large answer bytes
  pub told : with_number number loans' ≡ told_by (record { answer = answer; bytes = bytes }) loans

-- T19, awaited: a look of the host's that asks nothing of the pool's rules and leaves the record. 15 where it is not well-formed, and the
-- number that was lent_numbers stays; else 0, and whatever ledger record and stores read as, the number is its awaited tasks.
pub record TellsAwaited (p : Pool) (old number new : ℕ) : Type 0 where
  pub unfit : is_well_formed p ≡ false → (number ≡ number_of NotWellFormed) × (new ≡ old)
  pub done : is_well_formed p ≡ true → number ≡ 0
  pub tells : is_well_formed p ≡ true → (small large : List ℕ) (L : Ledger) → Reads p small large L → new ≡ awaited_bits L

-- what a host is shown of a task: of either store how many objects it made, its reserve and its limit
abbrev pub share_shown : Memory → ℕ → List ℕ
share_shown m task =
    made true m.objects task ∷ (quota_of true m.shares m.objects task).reserve ∷ (quota_of true m.shares m.objects task).limit
    ∷ made false m.objects task ∷ (quota_of false m.shares m.objects task).reserve ∷ (quota_of false m.shares m.objects task).limit ∷ []

-- Q12, share: such a look too. 15 where the record is not well-formed, 1 where there is no such task, and the numbers that were lent_numbers
-- stay; else 0, and whatever ledger record and stores read as, the numbers are its task's.
pub record TellsShare (p : Pool) (task : ℕ) (old : List ℕ) (number : ℕ) (new : List ℕ) : Type 0 where
  pub unfit : is_well_formed p ≡ false → (number ≡ number_of NotWellFormed) × (new ≡ old)
  pub unknown : is_well_formed p ≡ true → ltb task task_count ≡ false → (number ≡ number_of NoSuchTask) × (new ≡ old)
  pub done : is_well_formed p ≡ true → ltb task task_count ≡ true → number ≡ 0
  pub tells : is_well_formed p ≡ true → ltb task task_count ≡ true → (small large : List ℕ) (L : Ledger) → Reads p small large L → new ≡ share_shown L.memory task

-- A call whose kind is given by its code: 19 where there is no such kind, before anything else is tested.
abbrev pub MakesBy : Result Kind Refusal → ℕ → ℕ → ℕ → ℕ → Pool → List ℕ → List ℕ → List ℕ → ℕ → Pool → List ℕ → List ℕ → List ℕ → Type 0
MakesBy (Ok kind) task extension size prefix p small large numbers number p' small' large' numbers' =
    MakesOne task kind extension size prefix p small large numbers number p' small' large' numbers'
MakesBy (Err why) task extension size prefix p small large numbers number p' small' large' numbers' =
    (number ≡ number_of UnknownKind) × (p' ≡ p) × (small' ≡ small) × (large' ≡ large) × (numbers' ≡ numbers)

abbrev pub RefreshesBy : Result Kind Refusal → ℕ → ℕ → ℕ → Pool → ℕ → Pool → Type 0
RefreshesBy (Ok kind) task extension handle p number p' = Does (Use (Refresh task kind extension handle)) p [] number p' []
RefreshesBy (Err why) task extension handle p number p' = (number ≡ number_of UnknownKind) × (p' ≡ p)

abbrev pub RefreshesAllBy : Result Kind Refusal → ℕ → ℕ → List ℕ → Pool → ℕ → Pool → Type 0
RefreshesAllBy (Ok kind) task extension handles p number p' = DoesWith (Use (Batch task kind extension)) (handle_bytes handles) p [] number p' []
RefreshesAllBy (Err why) task extension handles p number p' = (number ≡ number_of UnknownKind) × (p' ≡ p)

-- R29: a pool is made, of these figures: 0 where a site may choose them, and a fresh record; else 29, and the record that is left is not
-- well-formed, by its figures.
pub record Renews (limits : Limits) (number : ℕ) (p : Pool) : Type 0 where
  pub told : number ≡ cond (is_allowed limits) 0 (number_of LimitsOutOfRange)
  pub left : p ≡ fresh_pool limits
  pub fit : is_well_formed p ≡ is_allowed limits
