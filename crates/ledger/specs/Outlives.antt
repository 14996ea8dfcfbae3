-- The rules U, order 7 of document 02, over every list of calls: a global expiration (01: common date) outlives the ticks that it was set
-- for, and is gone after its rounds.
use Rattle.std.specs.Prelude.{ℕ, ◌+◌, ◌≤◌, Bool, true, false, cond, not, ◌&&◌, ◌||◌, List, [], ◌∷◌, ◌++◌, ◌≡◌, eqb, ltb, length}
use Rattle.lists.specs.Tests.{any, all}
use Rattle.lists.specs.Tables.{all_from}
use Rattle.ledger.specs.Tasks.{Task, Clocks, task_at, absent_task, is_running, is_waiting, advances, clocks_after}
use Rattle.ledger.specs.Expirations.{DueTime, by_local, by_global, pinned, departed, Expiration, due_after, lasting, released}
use Rattle.ledger.specs.Objects.{stands}
use Rattle.ledger.specs.Rules.{expirations_after}
use Rattle.ledger.specs.Ledger.{Ledger, Sent, fresh, after_by, verdict_on, after_request, after_sent, after_all}
use Rattle.ledger.specs.Kept.{is_owned}
use Rattle.ledger.specs.declared.Kind.TheVariants.{Global}
use Rattle.ledger.specs.declared.Event.{Event}
use Rattle.ledger.specs.declared.Event.TheVariants.{Leave, Block, Resume, Tick, View}
use Rattle.ledger.specs.declared.Share.{Share}
use Rattle.ledger.specs.declared.Call.{Call}
use Rattle.ledger.specs.declared.Call.TheVariants.{Join, Schedule, Make, Refresh, Read, Write, Batch, Release}
use Rattle.ledger.specs.declared.Request.{Request}
use Rattle.ledger.specs.declared.Request.TheVariants.{Use, Report, Remaining}
use Rattle.ledger.specs.declared.Limits.{Limits}

-- U1: what an accepted call is: a join, an event, a release, or neither. Only accepted calls count, as ticks and leaves, joins and resumes.
pub data Move : Type 0 where
  neither : Move
  joins : (task : ℕ) (share : Share) → Move
  happens : (event : Event) (task : ℕ) → Move
  releases : (handle : ℕ) → Move

unfoldable pub move_of : Call → Move
move_of (Join task share) = joins task share
move_of (Schedule event task) = happens event task
move_of (Make task kind extension size prefix) = neither
move_of (Refresh task kind extension handle) = neither
move_of (Read task handle) = neither
move_of (Write task handle offset) = neither
move_of (Batch task kind extension) = neither
move_of (Release task handle) = releases handle

unfoldable pub move_in : Ledger → Request → List ℕ → Move
move_in L (Use call) new = after_by (verdict_on L call new) (move_of call) neither
move_in L Report new = neither
move_in L (Remaining task handle) new = neither

-- U2: An expiration has no name, so it is followed by the ledger's rule, which comes in two parts: those that a call sets, as of a list
-- that had none,
unfoldable pub set_in : Ledger → Request → List ℕ → List Expiration
set_in L (Use call) new = after_by (verdict_on L call new) (expirations_after call new L.memory []) []
set_in L Report new = []
set_in L (Remaining task handle) new = []

-- and what it leaves of the earlier ones: only events and releases end any.
abbrev pub left_by : Clocks → Move → List Expiration → List Expiration
left_by clocks neither xs = xs
left_by clocks (joins task share) xs = xs
left_by clocks (happens event task) xs = lasting event task (advances event task clocks) (clocks_after event task clocks) xs
left_by clocks (releases handle) xs = released handle xs

abbrev pub left_in : Ledger → Request → List ℕ → List Expiration → List Expiration
left_in L request new xs = left_by L.memory.clocks (move_in L request new) xs

-- U3: what a list of calls leaves of these. To follow one expiration is to follow a list that has it alone:
unfoldable pub followed : Ledger → List Sent → List Expiration → List Expiration
followed L [] xs = xs
followed L (s ∷ ss) xs = followed (after_sent L s) ss (left_in L s.request s.bytes xs)

pub record Following : Type 0 where
  -- the two parts together are the ledger's rule,
  pub parts : (L : Ledger) (request : Request) (new : List ℕ)
      → (after_request L request new).expirations ≡ set_in L request new ++ left_in L request new L.expirations
  -- and what is left of a list is what is left of each of its parts.
  pub apart : (L : Ledger) (ss : List Sent) (xs ys : List Expiration) → followed L ss (xs ++ ys) ≡ followed L ss xs ++ followed L ss ys
  -- From fresh on, who is departed is absent.
  pub gone : (limits : Limits) (ss : List Sent) → task_at (after_all (fresh limits) ss).memory.clocks departed ≡ absent_task

-- U4: how many accepted events of a list are of some sort: the ticks of one task, its leaves, and the joins and resumes of all; a view
-- (02: 0E) is neither (V2)
abbrev pub is_tick_of : ℕ → Move → Bool
is_tick_of who neither = false
is_tick_of who (joins task share) = false
is_tick_of who (happens Leave task) = false
is_tick_of who (happens Block task) = false
is_tick_of who (happens Resume task) = false
is_tick_of who (happens View task) = false
is_tick_of who (happens Tick task) = eqb who task
is_tick_of who (releases handle) = false

abbrev pub is_leave_of : ℕ → Move → Bool
is_leave_of who neither = false
is_leave_of who (joins task share) = false
is_leave_of who (happens Leave task) = eqb who task
is_leave_of who (happens Block task) = false
is_leave_of who (happens Resume task) = false
is_leave_of who (happens View task) = false
is_leave_of who (happens Tick task) = false
is_leave_of who (releases handle) = false

abbrev pub is_start : Move → Bool
is_start neither = false
is_start (joins task share) = true
is_start (happens Leave task) = false
is_start (happens Block task) = false
is_start (happens Resume task) = true
is_start (happens Tick task) = false
is_start (happens View task) = false
is_start (releases handle) = false

unfoldable pub count_of : (Move → Bool) → Ledger → List Sent → ℕ
count_of sort L [] = 0
count_of sort L (s ∷ ss) = cond (sort (move_in L s.request s.bytes)) 1 0 + count_of sort (after_sent L s) ss

-- U5: A make, refresh or batch sets a global expiration with an extension e, after any calls from fresh on, whatever the figures; it is one
-- of those that the call sets.
pub record Setting : Type 0 where
  pub limits : Limits
  pub earlier : List Sent
  pub call : Sent
  pub setter : ℕ
  pub extension : ℕ
  pub expiration : Expiration
  pub due : expiration.due ≡ due_after (after_all (fresh limits) earlier).memory.clocks setter Global extension
  pub front : List Expiration
  pub back : List Expiration
  pub among : set_in (after_all (fresh limits) earlier) call.request call.bytes ≡ front ++ (expiration ∷ back)

abbrev pub when_set : Setting → Ledger
when_set d = after_sent (after_all (fresh d.limits) d.earlier) d.call

-- U6, the first claim: whatever is called then, while the setter has not left and has made at most e ticks since, this expiration stands,
-- and its object with it.
abbrev pub OutlivesTicks : Type 0
OutlivesTicks =
    (d : Setting) (ss : List Sent) → count_of (is_leave_of d.setter) (when_set d) ss ≡ 0 → count_of (is_tick_of d.setter) (when_set d) ss ≤ d.extension
    → (stands (followed (when_set d) ss (d.expiration ∷ [])) d.expiration.handle ≡ true) × (is_owned (after_all (when_set d) ss).memory.objects d.expiration ≡ true)

-- U7: A round: nobody joins or resumes in it, some task runs at its end, and every task that runs then has ticked in it.
unfoldable pub is_round : Ledger → List Sent → Bool
is_round L ss =
    let tasks = (after_all L ss).memory.clocks.tasks in
    eqb (count_of is_start L ss) 0
    && any (λ (t : Task). is_running t.state) tasks
    && all_from 0 (λ (task : ℕ) (t : Task). not (is_running t.state) || ltb 0 (count_of (is_tick_of task) L ss)) tasks

-- U8: The setter waits. One that has left is departed (E21) and does not wait, whoever has its number since.
abbrev pub setter_waits : Clocks → DueTime → Bool
setter_waits clocks (by_local setter at) = is_waiting (task_at clocks setter).state
setter_waits clocks (by_global setter at) = is_waiting (task_at clocks setter).state
setter_waits clocks pinned = false

-- the setter of what is left waits after none of these calls
unfoldable pub never_waits : Ledger → List Sent → List Expiration → Bool
never_waits L [] xs = true
never_waits L (s ∷ ss) xs =
    let left = left_in L s.request s.bytes xs in
    all (λ (x : Expiration). not (setter_waits (after_sent L s).memory.clocks x.due)) left && never_waits (after_sent L s) ss left

-- U9: rounds that do not overlap, each after any calls; in none of them is the setter waiting
pub record Stretch : Type 0 where
  pub between : List Sent
  pub round : List Sent

unfoldable pub calls_of : List Stretch → List Sent → List Sent
calls_of [] rest = rest
calls_of (r ∷ rs) rest = r.between ++ (r.round ++ calls_of rs rest)

unfoldable pub are_rounds : Ledger → List Expiration → List Stretch → Bool
are_rounds L xs [] = true
are_rounds L xs (r ∷ rs) =
    let start = after_all L r.between in
    let left = followed L r.between xs in
    is_round start r.round && never_waits start r.round left && are_rounds (after_all start r.round) (followed start r.round left) rs

-- U10, the second claim: after e + 2 of them this expiration is gone, and stays so.
abbrev pub GoneAfterRounds : Type 0
GoneAfterRounds =
    (d : Setting) (rs : List Stretch) (rest : List Sent) → length rs ≡ d.extension + 2 → are_rounds (when_set d) (d.expiration ∷ []) rs ≡ true
    → followed (when_set d) (calls_of rs rest) (d.expiration ∷ []) ≡ []
