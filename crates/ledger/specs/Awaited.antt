-- The rules T19 to T21: for whom the global time waits, and that it advances when it waits for nobody any more.
use Rattle.std.specs.Prelude.{ℕ, ◌+◌, Bool, true, false, cond, not, ◌&&◌, List, [], ◌∷◌, ◌≡◌, eqb}
use Rattle.std.proofs.Math.Option.{Option, none, some}
use Rattle.lists.specs.Bits.{bits}
use Rattle.lists.specs.Tests.{any}
use Rattle.ledger.specs.Tasks.{Task, Clocks, is_running, is_tested, tasks_after, advances}
use Rattle.ledger.specs.Ledger.{Ledger, Sent, fresh, verdict_on, after_request, after_all}
use Rattle.ledger.specs.declared.Call.{Call}
use Rattle.ledger.specs.declared.Call.TheVariants.{Join, Schedule, Make, Refresh, Read, Write, Batch, Release}
use Rattle.ledger.specs.declared.Event.{Event}
use Rattle.ledger.specs.declared.Limits.{Limits}
use Rattle.ledger.specs.declared.Refusal.{Refusal}
use Rattle.ledger.specs.declared.Request.{Request}
use Rattle.ledger.specs.declared.Request.TheVariants.{Use, Report, Remaining}

-- T19: the global time waits for a task that runs and has not ticked
abbrev pub is_awaited : Task → Bool
is_awaited t = is_running t.state && not t.ticked

-- the tasks that it waits for, a bit each: bit t is task t's
abbrev pub awaited_of : List Task → ℕ
awaited_of tasks = bits is_awaited tasks

abbrev pub awaited_bits : Ledger → ℕ
awaited_bits L = awaited_of L.memory.clocks.tasks

-- T20: some task runs, and nobody is awaited
unfoldable pub is_nobody_awaited : List Task → Bool
is_nobody_awaited tasks = any (λ (t : Task). is_running t.state) tasks && eqb (awaited_of tasks) 0

abbrev pub is_accepted : Option Refusal → Bool
is_accepted none = true
is_accepted (some r) = false

-- a tick, block or leave that leaves nobody awaited while some task runs, as its task's own move leaves the tasks
unfoldable pub is_last_awaited : Call → Clocks → Bool
is_last_awaited (Join task share) clocks = false
is_last_awaited (Schedule event task) clocks = is_tested event && is_nobody_awaited (tasks_after event task clocks)
is_last_awaited (Make task kind extension size prefix) clocks = false
is_last_awaited (Refresh task kind extension handle) clocks = false
is_last_awaited (Read task handle) clocks = false
is_last_awaited (Write task handle offset) clocks = false
is_last_awaited (Batch task kind extension) clocks = false
is_last_awaited (Release task handle) clocks = false

-- such a call, accepted
abbrev pub brings_advance : Ledger → Request → List ℕ → Bool
brings_advance L (Use call) new = is_accepted (verdict_on L call new) && is_last_awaited call L.memory.clocks
brings_advance L Report new = false
brings_advance L (Remaining task handle) new = false

-- and how many of a list of calls are such
unfoldable pub advances_in : Ledger → List Sent → ℕ
advances_in L [] = 0
advances_in L (s ∷ ss) = cond (brings_advance L s.request s.bytes) 1 0 + advances_in (after_request L s.request s.bytes) ss

abbrev pub global_of : Ledger → ℕ
global_of L = L.memory.clocks.global

pub record Awaited : Type 0 where
  -- T20: the advance test by who is awaited
  pub test : (event : Event) (task : ℕ) (clocks : Clocks) → advances event task clocks ≡ is_last_awaited (Schedule event task) clocks
  -- T21: from any ledger, a call makes the global time advance by 1 exactly where it is such a one, and else leaves it;
  pub one : (L : Ledger) (request : Request) (new : List ℕ) → global_of (after_request L request new) ≡ global_of L + cond (brings_advance L request new) 1 0
  -- so over any list of calls it grows by as many as these are;
  pub every : (L : Ledger) (ss : List Sent) → global_of (after_all L ss) ≡ global_of L + advances_in L ss
  -- and from fresh on, between two calls, somebody is awaited wherever some task runs: such a call empties a set that was not empty
  pub between : (limits : Limits) (ss : List Sent) → is_nobody_awaited (after_all (fresh limits) ss).memory.clocks.tasks ≡ false
