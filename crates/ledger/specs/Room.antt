-- The rules K (order 11 of document 02): the room that a script needs, worked out from its calls; and that a pool of so much room, and no
-- smaller one, meets neither 9 nor 10.
use Rattle.std.specs.Prelude.{ℕ, ◌≤◌, Bool, true, cond, ◌||◌, List, [], ◌∷◌, map, ◌↔◌, ◌≢◌, ◌≡◌, eqb}
use Rattle.std.proofs.Math.Option.{Option}
use Rattle.lists.specs.Most.{most}
use Rattle.lists.specs.Tests.{All}
use Rattle.ledger.specs.Numbers.{number_of}
use Rattle.ledger.specs.Limits.{is_allowed}
use Rattle.ledger.specs.Objects.{Reply, usage}
use Rattle.ledger.specs.Refusals.{Test, refusal_of, verdict}
use Rattle.ledger.specs.Rules.{tests_of}
use Rattle.ledger.specs.Ledger.{Ledger, Sent, facts_in, fresh, after_by, carried_out, replies}
use Rattle.ledger.specs.Rows.{open_share}
use Rattle.ledger.specs.declared.Answer.TheVariants.{Refused}
use Rattle.ledger.specs.declared.Call.{Call}
use Rattle.ledger.specs.declared.Call.TheVariants.{Join, Schedule, Make, Refresh, Read, Write, Batch, Release}
use Rattle.ledger.specs.declared.Limits.{Limits}
use Rattle.ledger.specs.declared.Peaks.{Peaks}
use Rattle.ledger.specs.declared.Refusal.{Refusal}
use Rattle.ledger.specs.declared.Refusal.TheVariants.{NoFreeBlock, NoFreeExpiration}
use Rattle.ledger.specs.declared.Request.{Request}
use Rattle.ledger.specs.declared.Request.TheVariants.{Use, Report, Remaining}
use Rattle.ledger.specs.declared.Usage.{Usage}

-- K1: how a script is read: every reserve as 0 and every limit as 255, before any test
abbrev pub read_call : Call → Call
read_call (Join task share) = Join task open_share
read_call (Schedule event task) = Schedule event task
read_call (Make task kind extension size prefix) = Make task kind extension size prefix
read_call (Refresh task kind extension handle) = Refresh task kind extension handle
read_call (Read task handle) = Read task handle
read_call (Write task handle offset) = Write task handle offset
read_call (Batch task kind extension) = Batch task kind extension
read_call (Release task handle) = Release task handle

abbrev pub read_request : Request → Request
read_request (Use call) = Use (read_call call)
read_request Report = Report
read_request (Remaining task handle) = Remaining task handle

abbrev pub as_read : Sent → Sent
as_read s = record { request = read_request s.request; bytes = s.bytes }

-- K2: the refusals for want of room, which are never given (15 is the record's, and the ledger has none)
abbrev pub is_room : Refusal → Bool
is_room r = eqb (number_of r) 9 || eqb (number_of r) 10 || eqb (number_of r) 25 || eqb (number_of r) 26

-- the tests but for those
abbrev pub roomless : List Test → List Test
roomless [] = []
roomless (t ∷ ts) = cond (is_room (refusal_of t)) (roomless ts) (t ∷ roomless ts)

-- K3: the ledger that has room for all: a call is decided by the other tests, and what it leaves is as ever
abbrev pub roomy_verdict_on : Ledger → Call → List ℕ → Option Refusal
roomy_verdict_on L call new = verdict (facts_in L) (roomless (tests_of call new))

unfoldable pub roomy_next : Ledger → Call → List ℕ → Ledger
roomy_next L call new = after_by (roomy_verdict_on L call new) (carried_out L call new) L

abbrev pub roomy_after : Ledger → Request → List ℕ → Ledger
roomy_after L (Use call) new = roomy_next L call new
roomy_after L Report new = L
roomy_after L (Remaining task handle) new = L

-- the ledgers after each of the calls
unfoldable pub roomy_states : Ledger → List Sent → List Ledger
roomy_states L [] = []
roomy_states L (s ∷ ss) = roomy_after L s.request s.bytes ∷ roomy_states (roomy_after L s.request s.bytes) ss

-- K4: the most of each figure of a report after any call, each by itself; 0 where there is no call
abbrev pub figures_of : Ledger → Usage
figures_of L = usage L.memory L.expirations

abbrev pub peaks_of : List Ledger → Peaks
peaks_of Ls =
    record {
      small = most (λ (L : Ledger). (figures_of L).small) Ls;
      large = most (λ (L : Ledger). (figures_of L).large) Ls;
      expirations = most (λ (L : Ledger). (figures_of L).expirations) Ls;
    }

unfoldable pub peaks : Limits → List Sent → Peaks
peaks limits ss = peaks_of (roomy_states (fresh limits) (map as_read ss))

-- K5: a pool of these figures has the room
pub record Fits (limits : Limits) (p : Peaks) : Type 0 where
  pub small : p.small ≤ limits.small
  pub large : p.large ≤ limits.large
  pub expirations : p.expirations ≤ limits.expirations

-- an answer that is neither 9 nor 10
abbrev pub HasRoom : Reply → Type 0
HasRoom y = (y.answer ≢ Refused NoFreeBlock) × (y.answer ≢ Refused NoFreeExpiration)

-- K6: for all figures that a site may choose and for every script, read so: the pool meets neither 9 nor 10 exactly when it has the room.
abbrev pub PeaksFit : Type 0
PeaksFit =
    (limits : Limits) → is_allowed limits ≡ true → (ss : List Sent)
    → All HasRoom (replies (fresh limits) (map as_read ss)) ↔ Fits limits (peaks limits ss)
