-- Demands 2 and 3 for a host, over lists of what it does through the entries: everything that it is told is what the ledger tells; and over
-- the twelve calls it is what the unbounded heap tells, exactly when all use was in time and in bounds.
use Rattle.std.specs.Prelude.{ℕ, true, false, cond, List, [], ◌∷◌, map, ◌↔◌, ◌≡◌, ltb, length, Ok, Err}
use Rattle.std.proofs.Math.Option.{Option, none, some}
use Rattle.ledger.specs.Numbers.{number_of}
use Rattle.ledger.specs.Objects.{Memory, Reply, plain, fresh_memory}
use Rattle.ledger.specs.Ledger.{Ledger, fresh, reply_to_frame, after_frame, Frame}
use Rattle.ledger.specs.Limits.{task_count, is_allowed}
use Rattle.ledger.specs.Awaited.{awaited_bits}
use Rattle.ledger.specs.Heap.{Used, heap_reply, heap_next, all_in_time_and_bounds}
use Rattle.ledger.specs.declared.Answer.TheVariants.{Refused}
use Rattle.ledger.specs.declared.Call.{Call}
use Rattle.ledger.specs.declared.Limits.{Limits}
use Rattle.ledger.specs.declared.Refusal.{Refusal}
use Rattle.ledger.specs.declared.Refusal.TheVariants.{NoSuchTask, NotWellFormed, LimitsOutOfRange}
use Rattle.ledger.specs.declared.Request.TheVariants.{Use}
use Rattle.record.specs.Reading.{fresh_pool, whole_small, whole_large}
use Rattle.record.specs.Pools.{is_well_formed, Reads}
use Rattle.record.specs.declared.Pool.{Pool}
use Rattle.by_value.specs.Told.{too_short, Loans, lent_numbers, Told, with_number}
use Rattle.by_value.specs.Entries.{share_shown}
use Rattle.ramsummer.specs.Steps.{Asked, frame_asked, bytes_asked, is_heard, tells, Action, asks, renews, awaits, shares, Acts}

-- A list of actions: each gets record and stores as the last one left them.
pub data HostRuns : Pool → List ℕ → List ℕ → List Action → List Told → Pool → List ℕ → List ℕ → Type 0 where
  done : {p : Pool} {small large : List ℕ} → HostRuns p small large [] [] p small large
  step : {p p' p'' : Pool} {small small' small'' large large' large'' : List ℕ} {d : Action} {ds : List Action} {t : Told} {ts : List Told}
      → Acts d p small large t p' small' large' → HostRuns p' small' large' ds ts p'' small'' large''
      → HostRuns p small large (d ∷ ds) (t ∷ ts) p'' small'' large''

-- The ledger beside a host's pool. There is none while the record is not well-formed: after figures that no site may choose, until a pool
-- is made anew.
abbrev pub reply_in : Option Ledger → Frame → List ℕ → Reply
reply_in (some L) frame bytes = reply_to_frame L frame bytes
reply_in none (Ok (request, count)) bytes = plain (Refused NotWellFormed)
reply_in none (Err why) bytes = plain (Refused why)

abbrev pub after_in : Option Ledger → Frame → List ℕ → Option Ledger
after_in (some L) frame bytes = some (after_frame L frame bytes)
after_in none frame bytes = none

abbrev pub awaited_in : Option Ledger → ℕ → Told
awaited_in (some L) old = with_number 0 (lent_numbers (awaited_bits L ∷ []))
awaited_in none old = with_number (number_of NotWellFormed) (lent_numbers (old ∷ []))

abbrev pub share_in : Option Ledger → ℕ → List ℕ → Told
share_in (some L) task old =
    cond (ltb task task_count) (with_number 0 (lent_numbers (share_shown L.memory task))) (with_number (number_of NoSuchTask) (lent_numbers old))
share_in none task old = with_number (number_of NotWellFormed) (lent_numbers old)

-- what the ledger tells of an action, and the ledger after it
abbrev pub told_of : Option Ledger → Action → Told
told_of beside (asks asked loans) =
    cond (is_heard asked loans) (tells asked (reply_in beside (frame_asked asked) (bytes_asked asked)) loans) (with_number too_short loans)
told_of beside (renews limits small large whole) = with_number (cond (is_allowed limits) 0 (number_of LimitsOutOfRange)) (lent_numbers [])
told_of beside (awaits old) = awaited_in beside old
told_of beside (shares task old) = share_in beside task old

abbrev pub after_action : Option Ledger → Action → Option Ledger
after_action beside (asks asked loans) = cond (is_heard asked loans) (after_in beside (frame_asked asked) (bytes_asked asked)) beside
after_action beside (renews limits small large whole) = cond (is_allowed limits) (some (fresh limits)) none
after_action beside (awaits old) = beside
after_action beside (shares task old) = beside

unfoldable pub told_of_all : Option Ledger → List Action → List Told
told_of_all beside [] = []
told_of_all beside (d ∷ ds) = told_of beside d ∷ told_of_all (after_action beside d) ds

unfoldable pub after_actions : Option Ledger → List Action → Option Ledger
after_actions beside [] = beside
after_actions beside (d ∷ ds) = after_actions (after_action beside d) ds

-- what the host has then: a well-formed record that reads as the ledger, or one that is not well-formed (which one, `Renews` says)
abbrev pub IsPoolOf : Option Ledger → Pool → List ℕ → List ℕ → Type 0
IsPoolOf (some L) p small large = (is_well_formed p ≡ true) × Reads p small large L
IsPoolOf none p small large = is_well_formed p ≡ false

-- D4, demand 2 for a host: whatever record it begins with, from where it has a pool made, of any figures and with any bytes in the stores.
-- More pools may be made on the way.
abbrev pub HostDemand2 : Type 0
HostDemand2 =
    (limits : Limits) (small large : List ℕ) (whole : is_allowed limits ≡ true → (length small ≡ whole_small limits) × (length large ≡ whole_large limits)) (more : List Action)
    → (p : Pool) (small₀ large₀ : List ℕ) (ts : List Told) (p' : Pool) (small' large' : List ℕ)
    → (let ds = renews limits small large whole ∷ more in
    HostRuns p small₀ large₀ ds ts p' small' large'
    → (ts ≡ told_of_all none ds) × IsPoolOf (after_actions none ds) p' small' large')

-- What a host asks in demand 3's lists: one of the twelve calls, by its own entry or by a line; a kind that is none, or a line that yields
-- no call; and a line with no room for its answer.
pub data Using : Type 0 where
  calls : (asked : Asked) (loans : Loans) (call : Call) (count : ℕ) → is_heard asked loans ≡ true → frame_asked asked ≡ Ok (Use call, count) → Using
  no_call : (asked : Asked) (loans : Loans) (why : Refusal) → is_heard asked loans ≡ true → frame_asked asked ≡ Err why → Using
  unheard : (asked : Asked) (loans : Loans) → is_heard asked loans ≡ false → Using

abbrev pub action_of : Using → Action
action_of (calls asked loans call count h e) = asks asked loans
action_of (no_call asked loans why h e) = asks asked loans
action_of (unheard asked loans h) = asks asked loans

unfoldable pub calls_in : List Using → List Used
calls_in [] = []
calls_in (calls asked loans call count h e ∷ us) = record { call = call; bytes = bytes_asked asked } ∷ calls_in us
calls_in (no_call asked loans why h e ∷ us) = calls_in us
calls_in (unheard asked loans h ∷ us) = calls_in us

-- what the heap tells of them: of what is no call it knows nothing, and its refusal is told as it is
unfoldable pub heap_told_all : Memory → List Using → List Told
heap_told_all m [] = []
heap_told_all m (calls asked loans call count h e ∷ us) =
    tells asked (heap_reply m call (bytes_asked asked)) loans ∷ heap_told_all (heap_next m call (bytes_asked asked)) us
heap_told_all m (no_call asked loans why h e ∷ us) = tells asked (plain (Refused why)) loans ∷ heap_told_all m us
heap_told_all m (unheard asked loans h ∷ us) = with_number too_short loans ∷ heap_told_all m us

-- D4, demand 3 for a host: whatever it lends, a buffer too short for a read too.
abbrev pub HostDemand3 : Type 0
HostDemand3 =
    (limits : Limits) → is_allowed limits ≡ true → (small large : List ℕ) → length small ≡ whole_small limits → length large ≡ whole_large limits
    → (us : List Using) (ts : List Told) (p' : Pool) (small' large' : List ℕ) → HostRuns (fresh_pool limits) small large (map action_of us) ts p' small' large'
    → (ts ≡ heap_told_all (fresh_memory limits) us) ↔ (all_in_time_and_bounds (fresh_memory limits) [] (calls_in us) ≡ true)
