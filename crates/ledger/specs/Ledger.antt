-- The rules L1 to L3: the ledger, its answer to each call and its next state.
use Rattle.std.specs.Prelude.{ℕ, List, [], ◌∷◌, Result, Ok, Err}
use Rattle.std.proofs.Math.Option.{Option, none, some}
use Rattle.ledger.specs.Expirations.{Expiration}
use Rattle.ledger.specs.Objects.{Memory, Reply, fresh_memory, plain, standing, with_objects, usage}
use Rattle.ledger.specs.Refusals.{standing_tests, verdict, Facts, facts_of}
use Rattle.ledger.specs.Rules.{reply_to, memory_after, expirations_after, tests_of}
use Rattle.ledger.specs.Remaining.{remaining_life}
use Rattle.ledger.specs.declared.Answer.TheVariants.{Refused, Counted, Lasts}
use Rattle.ledger.specs.declared.Call.{Call}
use Rattle.ledger.specs.declared.Refusal.{Refusal}
use Rattle.ledger.specs.declared.Request.{Request}
use Rattle.ledger.specs.declared.Request.TheVariants.{Use, Report, Remaining}
use Rattle.ledger.specs.declared.Limits.{Limits}

-- L1: figures, tasks, times, handles given, objects and what is pinned are its memory; the expirations stand beside it
pub record Ledger : Type 0 where
  pub memory : Memory
  pub expirations : List Expiration

-- O3: a memory with these expirations, of which only standing objects are left
abbrev pub settled : Memory → List Expiration → Ledger
settled m xs =
    record {
      memory = with_objects (standing xs m.objects) m;
      expirations = xs;
    }

unfoldable pub fresh : Limits → Ledger
fresh limits = record { memory = fresh_memory limits; expirations = [] }

-- a refused call is answered with its refusal
abbrev pub reply_by : Option Refusal → Reply → Reply
reply_by none reply = reply
reply_by (some r) reply = plain (Refused r)

-- R31: and changes nothing
abbrev pub after_by {ℓ} : {A : Type ℓ} → Option Refusal → A → A → A
after_by none next now = next
after_by (some r) next now = now

abbrev pub facts_in : Ledger → Facts
facts_in L = facts_of L.memory L.expirations

abbrev pub verdict_on : Ledger → Call → List ℕ → Option Refusal
verdict_on L call new = verdict (facts_in L) (tests_of call new)

abbrev pub standing_verdict_on : Ledger → ℕ → ℕ → Option Refusal
standing_verdict_on L task handle = verdict (facts_in L) (standing_tests task handle)

unfoldable pub reply : Ledger → Call → List ℕ → Reply
reply L call new = reply_by (verdict_on L call new) (reply_to call L.memory)

-- what a call leaves that is carried out
abbrev pub carried_out : Ledger → Call → List ℕ → Ledger
carried_out L call new = settled (memory_after call new L.memory) (expirations_after call new L.memory L.expirations)

unfoldable pub next : Ledger → Call → List ℕ → Ledger
next L call new = after_by (verdict_on L call new) (carried_out L call new) L

-- all fourteen calls: report answers its figures (O24), and remaining life asks that the object stands (R46); neither changes anything
-- (O25)
abbrev pub reply_to_request : Ledger → Request → List ℕ → Reply
reply_to_request L (Use call) new = reply L call new
reply_to_request L Report new = plain (Counted (usage L.memory L.expirations))
reply_to_request L (Remaining task handle) new =
    reply_by (standing_verdict_on L task handle) (plain (Lasts (remaining_life task handle L.memory.clocks L.expirations)))

abbrev pub after_request : Ledger → Request → List ℕ → Ledger
after_request L (Use call) new = next L call new
after_request L Report new = L
after_request L (Remaining task handle) new = L

-- what a line gives: a request and how many bytes come with it, or a refusal
abbrev pub Frame : Type 0
Frame = Result (Request × ℕ) Refusal

-- the ledger's reply to a frame with the bytes that come with it, and the ledger after it; F26: a frame that is refused is no call
abbrev pub reply_to_frame : Ledger → Frame → List ℕ → Reply
reply_to_frame L (Ok (request, count)) bytes = reply_to_request L request bytes
reply_to_frame L (Err why) bytes = plain (Refused why)

abbrev pub after_frame : Ledger → Frame → List ℕ → Ledger
after_frame L (Ok (request, count)) bytes = after_request L request bytes
after_frame L (Err why) bytes = L

-- a call on its way: a write brings its bytes, a batch its handles
pub record Sent : Type 0 where
  pub request : Request
  pub bytes : List ℕ

abbrev pub after_sent : Ledger → Sent → Ledger
after_sent L s = after_request L s.request s.bytes

-- the answers to a list of calls, and the ledger that they leave
unfoldable pub replies : Ledger → List Sent → List Reply
replies L [] = []
replies L (s ∷ ss) = reply_to_request L s.request s.bytes ∷ replies (after_sent L s) ss

unfoldable pub after_all : Ledger → List Sent → Ledger
after_all L [] = L
after_all L (s ∷ ss) = after_all (after_sent L s) ss
