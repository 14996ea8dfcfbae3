-- The rules H: the unbounded heap (01: endless heap), the expiration book (01: date book), use in time and in bounds, and demand 3.
use Rattle.std.specs.Prelude.{ℕ, Bool, true, false, not, ◌&&◌, ◌||◌, List, [], ◌∷◌, map, ◌↔◌, ◌≡◌, eqb}
use Rattle.std.proofs.Math.Option.{Option, none, some}
use Rattle.ledger.specs.Numbers.{number_of}
use Rattle.ledger.specs.Expirations.{Expiration}
use Rattle.ledger.specs.Objects.{Memory, Reply, fresh_memory}
use Rattle.ledger.specs.Refusals.{heap_verdict, facts_of}
use Rattle.ledger.specs.Rules.{tests_of, reply_to, memory_after, expirations_after, is_in_time_and_bounds}
use Rattle.ledger.specs.Ledger.{Sent, fresh, replies, reply_by, after_by}
use Rattle.ledger.specs.declared.Request.TheVariants.{Use}
use Rattle.ledger.specs.declared.Call.{Call}
use Rattle.ledger.specs.declared.Refusal.{Refusal}
use Rattle.ledger.specs.declared.Limits.{Limits}

-- H3: the heap is a memory that never takes an object back.
abbrev pub heap_verdict_on : Memory → Call → List ℕ → Option Refusal
heap_verdict_on m call new = heap_verdict (facts_of m []) (tests_of call new)

unfoldable pub heap_reply : Memory → Call → List ℕ → Reply
heap_reply m call new = reply_by (heap_verdict_on m call new) (reply_to call m)

unfoldable pub heap_next : Memory → Call → List ℕ → Memory
heap_next m call new = after_by (heap_verdict_on m call new) (memory_after call new m) m

-- one of the twelve calls on its way
pub record Used : Type 0 where
  pub call : Call
  pub bytes : List ℕ

unfoldable pub heap_replies : Memory → List Used → List Reply
heap_replies m [] = []
heap_replies m (u ∷ us) = heap_reply m u.call u.bytes ∷ heap_replies (heap_next m u.call u.bytes) us

unfoldable pub heap_after_all : Memory → List Used → Memory
heap_after_all m [] = m
heap_after_all m (u ∷ us) = heap_after_all (heap_next m u.call u.bytes) us

-- H7: the book is the expirations standing by the heap's clocks; the lengths and sums that it has are the heap's.
-- H6: what the heap refuses leaves the book as it is
unfoldable pub book_next : Memory → List Expiration → Call → List ℕ → List Expiration
book_next m book call new = after_by (heap_verdict_on m call new) (expirations_after call new m book) book

-- H14, H15, H24: a call that the heap refuses is left aside, but not a write that runs past its object nor a release of what is not pinned
abbrev pub is_left_aside : Option Refusal → Bool
is_left_aside none = false
is_left_aside (some r) = not (eqb (number_of r) 13 || eqb (number_of r) 22)

-- H17: all use of the list was in time and in bounds
unfoldable pub all_in_time_and_bounds : Memory → List Expiration → List Used → Bool
all_in_time_and_bounds m book [] = true
all_in_time_and_bounds m book (u ∷ us) =
    (is_left_aside (heap_verdict_on m u.call u.bytes) || is_in_time_and_bounds m book u.call u.bytes)
    && all_in_time_and_bounds (heap_next m u.call u.bytes) (book_next m book u.call u.bytes) us

-- the same call as the ledger gets it
abbrev pub sent : Used → Sent
sent u = record { request = Use u.call; bytes = u.bytes }

-- Demand 3: whatever the figures, for every list of the twelve calls, ledger and heap answer alike exactly when all use was in time and in
-- bounds.
abbrev pub Demand3 : Type 0
Demand3 =
    (limits : Limits) (us : List Used)
    → (replies (fresh limits) (map sent us) ≡ heap_replies (fresh_memory limits) us) ↔ (all_in_time_and_bounds (fresh_memory limits) [] us ≡ true)
