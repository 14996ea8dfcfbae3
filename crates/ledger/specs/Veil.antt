-- The claim of V6 to V9 (order 10 of document 02): what is written beyond the prefix of an object (02: head) shows in no viewer's answer,
-- and in no report.
use Rattle.std.specs.Prelude.{ℕ, zero, suc, ◌-◌, Bool, true, cond, List, [], ◌∷◌, map, ◌≡◌}
use Rattle.lists.specs.Sums.{total}
use Rattle.ledger.specs.Tasks.{Clocks, task_at, is_viewing}
use Rattle.ledger.specs.Objects.{Object, with_bytes, Memory, with_objects, Reply, object_at}
use Rattle.ledger.specs.Ledger.{Ledger, Sent, fresh, replies, after_sent, after_all}
use Rattle.ledger.specs.Kept.{Kept}
use Rattle.ledger.specs.declared.Call.{Call}
use Rattle.ledger.specs.declared.Call.TheVariants.{Join, Schedule, Make, Refresh, Read, Write, Batch, Release}
use Rattle.ledger.specs.declared.Request.{Request}
use Rattle.ledger.specs.declared.Request.TheVariants.{Use, Report, Remaining}
use Rattle.ledger.specs.declared.Limits.{Limits}

-- V6: the veil: all but the first so many bytes are 0
unfoldable pub veiled : ℕ → List ℕ → List ℕ
veiled count [] = []
veiled zero (x ∷ xs) = 0 ∷ veiled zero xs
veiled (suc count) (x ∷ xs) = x ∷ veiled count xs

-- over an object, from its prefix on; its sum is that of what is left
unfoldable pub veiled_object : Object → Object
veiled_object o =
    let bytes = veiled o.prefix o.bytes in
    with_bytes bytes (total bytes) o

abbrev pub veiled_memory : Memory → Memory
veiled_memory m = with_objects (map veiled_object m.objects) m

abbrev pub veiled_in : Ledger → Ledger
veiled_in L = record { memory = veiled_memory L.memory; expirations = L.expirations }

-- V7: over a call: of a write's bytes, those that would come to lie beyond the prefix of its object
unfoldable pub veiled_bytes : Memory → Call → List ℕ → List ℕ
veiled_bytes m (Join task share) new = new
veiled_bytes m (Schedule event task) new = new
veiled_bytes m (Make task kind extension size prefix) new = new
veiled_bytes m (Refresh task kind extension handle) new = new
veiled_bytes m (Read task handle) new = new
veiled_bytes m (Write task handle offset) new = veiled ((object_at handle m.objects).prefix - offset) new
veiled_bytes m (Batch task kind extension) new = new
veiled_bytes m (Release task handle) new = new

abbrev pub veiled_by : Memory → Request → List ℕ → List ℕ
veiled_by m (Use call) new = veiled_bytes m call new
veiled_by m Report new = new
veiled_by m (Remaining task handle) new = new

abbrev pub veiled_sent : Ledger → Sent → Sent
veiled_sent L s = record { request = s.request; bytes = veiled_by L.memory s.request s.bytes }

-- over a list of calls: two lists with one veil differ only in bytes written beyond prefixes
unfoldable pub veils : Ledger → List Sent → List Sent
veils L [] = []
veils L (s ∷ ss) = veiled_sent L s ∷ veils (after_sent L s) ss

-- V8: a call of a viewer, or a report
abbrev pub caller_of : Call → ℕ
caller_of (Join task share) = task
caller_of (Schedule event task) = task
caller_of (Make task kind extension size prefix) = task
caller_of (Refresh task kind extension handle) = task
caller_of (Read task handle) = task
caller_of (Write task handle offset) = task
caller_of (Batch task kind extension) = task
caller_of (Release task handle) = task

abbrev pub is_viewer : Clocks → ℕ → Bool
is_viewer clocks task = is_viewing (task_at clocks task).state

abbrev pub is_viewers : Clocks → Request → Bool
is_viewers clocks (Use call) = is_viewer clocks (caller_of call)
is_viewers clocks Report = true
is_viewers clocks (Remaining task handle) = is_viewer clocks task

-- of answers to calls from this ledger on, those to such calls
unfoldable pub to_viewers : Ledger → List Sent → List Reply → List Reply
to_viewers L [] ys = []
to_viewers L (s ∷ ss) [] = []
to_viewers L (s ∷ ss) (y ∷ ys) =
    let rest = to_viewers (after_sent L s) ss ys in cond (is_viewers L.memory.clocks s.request) (y ∷ rest) rest

-- what may be seen of the bytes of an answer: all, but of a read by a task that is no viewer the prefix alone
unfoldable pub seen_bytes : Memory → Call → List ℕ → List ℕ
seen_bytes m (Join task share) bytes = bytes
seen_bytes m (Schedule event task) bytes = bytes
seen_bytes m (Make task kind extension size prefix) bytes = bytes
seen_bytes m (Refresh task kind extension handle) bytes = bytes
seen_bytes m (Read task handle) bytes = cond (is_viewer m.clocks task) bytes (veiled (object_at handle m.objects).prefix bytes)
seen_bytes m (Write task handle offset) bytes = bytes
seen_bytes m (Batch task kind extension) bytes = bytes
seen_bytes m (Release task handle) bytes = bytes

abbrev pub seen_by : Memory → Request → List ℕ → List ℕ
seen_by m (Use call) bytes = seen_bytes m call bytes
seen_by m Report bytes = bytes
seen_by m (Remaining task handle) bytes = bytes

abbrev pub seen : Memory → Request → Reply → Reply
seen m request y = record { answer = y.answer; bytes = seen_by m request y.bytes }

-- and of answers to calls from this ledger on
unfoldable pub seen_in : Ledger → List Sent → List Reply → List Reply
seen_in L [] ys = []
seen_in L (s ∷ ss) [] = []
seen_in L (s ∷ ss) (y ∷ ys) = seen L.memory s.request y ∷ seen_in (after_sent L s) ss ys

pub record Discreet : Type 0 where
  -- V9: two lists of calls from fresh that differ only in bytes written beyond prefixes: all answers to viewers, and all reports, are the
  -- same,
  pub viewers : (limits : Limits) (ss ts : List Sent) → veils (fresh limits) ss ≡ veils (fresh limits) ts
      → to_viewers (fresh limits) ss (replies (fresh limits) ss) ≡ to_viewers (fresh limits) ts (replies (fresh limits) ts)
  -- and so is every answer at its place, but for what a task that is no viewer reads beyond a prefix;
  pub same : (limits : Limits) (ss ts : List Sent) → veils (fresh limits) ss ≡ veils (fresh limits) ts
      → seen_in (fresh limits) ss (replies (fresh limits) ss) ≡ seen_in (fresh limits) ts (replies (fresh limits) ts)
  -- what they leave differs only there too, so that the tasks' states and times are the same;
  pub left : (limits : Limits) (ss ts : List Sent) → veils (fresh limits) ss ≡ veils (fresh limits) ts
      → veiled_in (after_all (fresh limits) ss) ≡ veiled_in (after_all (fresh limits) ts)
  -- as from any two ledgers that differ only there, each of which keeps what every ledger from fresh on does.
  pub alike : (L M : Ledger) → Kept L → Kept M → veiled_in L ≡ veiled_in M → (ss ts : List Sent) → veils L ss ≡ veils M ts
      → (to_viewers L ss (replies L ss) ≡ to_viewers M ts (replies M ts))
      × (seen_in L ss (replies L ss) ≡ seen_in M ts (replies M ts))
