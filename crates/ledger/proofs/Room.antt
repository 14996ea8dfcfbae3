-- Order 11: while neither 9 nor 10 has come, the pool and the ledger that has room for all are one ledger; and the call that gets one
-- leaves the roomy one with more than the pool has.
use Prim.Native.Nat.{ℕ, ◌+◌, ◌≤◌, ◌<◌}
use native.Mathlib.Omega.{arith}
use mathlib.Core.Bool.{Bool, true, false, true≢false, false≢true, cond, not, ◌&&◌, and-eq-true_iff, or-true}
use mathlib.Core.List.{List, [], ◌∷◌, ◌++◌, map}
use mathlib.Core.Logic.{◌↔◌, ◌≢◌}
use mathlib.Core.Option.{Option, none, some}
use mathlib.Core.Path.{◌≡◌, refl, sym, ap, subst, ◌∙◌}
use borrow.Author.Tests.{leb-true, leb-false, ltb-true, lt-leb, le-ltb, eq-eqb, eqb-true, eqb-false}
use lib.Dec.{eqb, leb, ltb}
use lib.ListN.{length, get_or, set, replicate, get_or-map}
use lib.Seq.{get_or-set_same}
use Rattle.lists.specs.Tests.{All}
use Rattle.lists.proofs.All.{all_imp, all_both, all_get_or, all_append, all_replicate, at_set}
use Rattle.lists.proofs.Cases.{by_test}
use Rattle.lists.proofs.Filters.{filter_all}
use Rattle.lists.proofs.Most.{most_within, most_bounds}
use Rattle.lists.proofs.Sums.{sum_same, sum_zero, sum_at_lem}
use Rattle.ledger.specs.Limits.{task_count, is_small, is_allowed}
use Rattle.ledger.specs.Tasks.{Task, task_at, absent_task, joined, is_absent, is_waiting, is_viewing, is_active, moved, unticked, fresh_clocks, entered}
use Rattle.ledger.specs.Expirations.{DueTime, Expiration, due_after, set_on_each}
use Rattle.ledger.specs.Objects.{Object, Memory, Reply, no_share, fresh_memory, plain, zeroed, stands, shares_after, handles_of, usage}
use Rattle.ledger.specs.Shares.{is_in, quota_in, quota_of, blocks_in, used_in, made, unmet, taken_from, is_full, is_short, is_at_limit}
use Rattle.ledger.specs.Refusals.{Test, standing_tests, verdict, Facts, refusal_of, is_held}
use Rattle.ledger.specs.Rules.{memory_after, expirations_after, tests_of}
use Rattle.ledger.specs.Ledger.{Ledger, Sent, fresh, after_by, carried_out, verdict_on, standing_verdict_on, reply, next, after_request, after_sent, reply_to_request, replies, facts_in}
use Rattle.ledger.specs.Kept.{Kept}
use Rattle.ledger.specs.Remaining.{remaining_life}
use Rattle.ledger.specs.Rows.{open_share}
use Rattle.ledger.specs.Room.{read_call, read_request, as_read, is_room, roomless, roomy_verdict_on, roomy_next, roomy_after, roomy_states, figures_of, peaks_of, peaks, Fits, HasRoom, PeaksFit}
use Rattle.ledger.specs.declared.State.{State}
use Rattle.ledger.specs.declared.State.TheVariants.{Absent, Running, Waiting, Viewing}
use Rattle.ledger.specs.declared.Event.{Event}
use Rattle.ledger.specs.declared.Event.TheVariants.{Leave, Block, Resume, Tick, View}
use Rattle.ledger.specs.declared.Answer.{Answer}
use Rattle.ledger.specs.declared.Answer.TheVariants.{Refused, Lasts}
use Rattle.ledger.specs.declared.Call.{Call}
use Rattle.ledger.specs.declared.Call.TheVariants.{Join, Schedule, Make, Refresh, Read, Write, Batch, Release}
use Rattle.ledger.specs.declared.Kind.{Kind}
use Rattle.ledger.specs.declared.Limits.{Limits}
use Rattle.ledger.specs.declared.Refusal.{Refusal}
use Rattle.ledger.specs.declared.Refusal.TheVariants.{NoFreeBlock, NoFreeExpiration}
use Rattle.ledger.specs.declared.Request.{Request}
use Rattle.ledger.specs.declared.Request.TheVariants.{Use, Report, Remaining}
use Rattle.ledger.specs.declared.Share.{Share}
use Rattle.ledger.proofs.Chosen.{limits_sent}
use Rattle.ledger.proofs.Figures.{allowed}
use Rattle.ledger.proofs.Kept.{kept_fresh, kept_request}
use Rattle.ledger.proofs.KeptTasks.{tasks_after_lem, active}
use Rattle.ledger.proofs.Passed.{Passed, passed, refusal_in, verdict_told, refusal_told}
use Rattle.ledger.proofs.Shares.{unmet_so, all_made, used_append}
use Rattle.ledger.proofs.Reserves.{figures}

-- Any list of tests, those of room the last: two verdicts are one, or a test of room holds and nothing before it.
abbrev is_all_room : List Test → Bool
is_all_room [] = true
is_all_room (t ∷ ts) = is_room (refusal_of t) && is_all_room ts

abbrev is_room_last : List Test → Bool
is_room_last [] = true
is_room_last (t ∷ ts) = cond (is_room (refusal_of t)) (is_all_room ts) (is_room_last ts)

abbrev pub is_room_of : Option Refusal → Bool
is_room_of none = false
is_room_of (some r) = is_room r

data Compared (pool roomy : Option Refusal) : Type 0 where
  alike : pool ≡ roomy → Compared pool roomy
  apart : is_room_of pool ≡ true → roomy ≡ none → Compared pool roomy

all_room : (ts : List Test) → is_all_room ts ≡ true → (is_room_last ts ≡ true) × (roomless ts ≡ [])
all_room [] e = (refl, refl)
all_room (t ∷ ts) e = let (o, es) = (and-eq-true_iff (is_room (refusal_of t)) (is_all_room ts)).0 e in (rw o es, rw o (all_room ts es).1)

compared : (f : Facts) (ts : List Test) → is_room_last ts ≡ true → Compared (verdict f ts) (verdict f (roomless ts))
unfolding verdict
compared f [] e = alike refl
compared f (t ∷ ts) e =
    by_test (is_room (refusal_of t))
    (λ n.
    let (later, none_left) = all_room ts (rw n at e) in
    by_test (is_held f t) (λ h. rw (n, h, none_left) (apart n refl)) (λ h. rw (n, h) (compared f ts later)))
    (λ n. by_test (is_held f t) (λ h. rw (n, h) (alike refl)) (λ h. rw (n, h) (compared f ts (rw n at e))))

-- the roomy verdict is never one of room
never_room : (f : Facts) (ts : List Test) → is_room_of (verdict f (roomless ts)) ≡ false
unfolding verdict
never_room f [] = refl
never_room f (t ∷ ts) =
    by_test (is_room (refusal_of t)) (λ n. rw n (never_room f ts))
    (λ n. by_test (is_held f t) (λ h. rw (n, h) n) (λ h. rw (n, h) (never_room f ts)))

last : (call : Call) (new : List ℕ) → is_room_last (tests_of call new) ≡ true
unfolding tests_of
last (Join task share) new = refl
last (Schedule Leave task) new = refl
last (Schedule Block task) new = refl
last (Schedule Resume task) new = refl
last (Schedule Tick task) new = refl
last (Schedule View task) new = refl
last (Make task kind extension size prefix) new = refl
last (Refresh task kind extension handle) new = refl
last (Read task handle) new = refl
last (Write task handle offset) new = refl
last (Batch task kind extension) new = refl
last (Release task handle) new = refl

-- Who is active reserves nothing and may have 255.
abbrev Open : List Task → List Share → Type 0
Open tasks shares = (task : ℕ) → is_active (get_or tasks task absent_task).state ≡ true → get_or shares task no_share ≡ open_share

-- one who waits is active
waits : (s : State) → not (is_waiting s) ≡ false → is_active s ≡ true
waits Absent e = absurd (true≢false e)
waits Running e = refl
waits Waiting e = refl
waits Viewing e = absurd (true≢false e)

module _ (m : Memory) (xs : List Expiration) (new : List ℕ) (h : Open m.clocks.tasks m.shares) where
  -- a task and its share are set together
  open_set : length m.clocks.tasks ≡ task_count → length m.shares ≡ task_count → (task : ℕ) → leb task_count task ≡ false
      → (entry : Task) (share : Share) → (is_active entry.state ≡ true → share ≡ open_share)
      → Open (set m.clocks.tasks task entry) (set m.shares task share)
  open_set n k task l entry share f other a =
      by_test (eqb other task)
      (λ e.
      let same = eqb-true other task e in
      let there : task < length m.clocks.tasks = rw n (leb-false task_count task l) in
      let listed : task < length m.shares = rw k (leb-false task_count task l) in
      let b : is_active entry.state ≡ true = rw (same, get_or-set_same m.clocks.tasks task entry absent_task there) at a in
      rw (same, get_or-set_same m.shares task share no_share listed) (f b))
      (λ e.
      let d = eqb-false other task e in
      at_set (λ s. s ≡ open_share) m.shares task other no_share (λ q. absurd (d q))
      (at_set (λ t. is_active t.state ≡ true → get_or m.shares other no_share ≡ open_share) m.clocks.tasks task other absent_task (λ q. absurd (d q)) (h other) a))

  -- an event by which nobody becomes active who was not
  open_moved : (task : ℕ) (event : Event) → (is_active (moved event (task_at m.clocks task)).state ≡ true → is_active (task_at m.clocks task).state ≡ true)
      → Open (set m.clocks.tasks task (moved event (task_at m.clocks task))) m.shares
  open_moved task event was other =
      at_set (λ t. is_active t.state ≡ true → get_or m.shares other no_share ≡ open_share) m.clocks.tasks task other absent_task
      (λ e a. rw e (h task (was a))) (h other)

  module _ (n : length m.clocks.tasks ≡ task_count) (k : length m.shares ≡ task_count) where
    open_event : (task : ℕ) (event : Event) → Passed m xs (Schedule event task) new
        → Open (set m.clocks.tasks task (moved event (task_at m.clocks task))) (shares_after event task m.shares)
    unfolding tests_of moved shares_after
    open_event task Leave (exists, rest) = open_set n k task exists absent_task no_share (λ a. absurd (false≢true a))
    open_event task Block (exists, (present, (still, (acts, end)))) = open_moved task Block (λ a. active (task_at m.clocks task).state present acts)
    open_event task Resume (exists, (present, (still, end))) = open_moved task Resume (λ a. waits (task_at m.clocks task).state still)
    open_event task View c = open_moved task View (λ a. absurd (false≢true a))
    open_event task Tick c = open_moved task Tick (λ a. a)

    open_carried : (call : Call) → Passed m xs (read_call call) new
        → Open (memory_after (read_call call) new m).clocks.tasks (memory_after (read_call call) new m).shares
    unfolding memory_after entered tests_of
    open_carried (Join task share) (exists, rest) = open_set n k task exists joined open_share (λ a. refl)
    open_carried (Schedule event task) c =
        tasks_after_lem (λ ts. Open ts (shares_after event task m.shares)) (λ ts o other a. o other (rw (get_or-map unticked ts other absent_task) at a))
        event task m.clocks (open_event task event c)
    open_carried (Make task kind extension size prefix) c = h
    open_carried (Refresh task kind extension handle) c = h
    open_carried (Read task handle) c = h
    open_carried (Write task handle offset) c = h
    open_carried (Batch task kind extension) c = h
    open_carried (Release task handle) c = h

OpenIn : Ledger → Type 0
OpenIn L = Open L.memory.clocks.tasks L.memory.shares

open_fresh : (limits : Limits) → OpenIn (fresh limits)
unfolding OpenIn fresh fresh_memory fresh_clocks
open_fresh limits task a =
    let idle : Task → Type 0 = λ t. is_active t.state ≡ false in
    absurd (false≢true (sym (all_get_or idle absent_task refl (replicate task_count absent_task) (all_replicate idle task_count {a = absent_task} refl) task) ∙ a))

open_request : (L : Ledger) → Kept L → OpenIn L → (request : Request) (new : List ℕ) → OpenIn (after_request L (read_request request) new)
unfolding OpenIn next
open_request L k h Report new = h
open_request L k h (Remaining task handle) new = h
open_request L k h (Use call) new = by (verdict_on L (read_call call) new) refl
  where
    by : (v : Option Refusal) → verdict_on L (read_call call) new ≡ v
        → (let M = after_by v (carried_out L (read_call call) new) L in Open M.memory.clocks.tasks M.memory.shares)
    by none e = open_carried L.memory L.expirations new h k.clocks.sixteen k.shares.sixteen call (passed (facts_in L) (tests_of (read_call call) new) e)
    by (some r) e = h

-- a ledger within these figures
pub record Within (limits : Limits) (L : Ledger) : Type 0 where
  pub blocks : (store : Bool) → used_in store L.memory.objects ≤ blocks_in limits store
  pub dates : length L.expirations ≤ limits.expirations

data Scarce (v : Option Refusal) : Type 0 where
  no_block : v ≡ some NoFreeBlock → Scarce v
  no_date : v ≡ some NoFreeExpiration → Scarce v

-- One call: pool and roomy run take one step, or the pool answers 9 or 10 and the roomy run has outgrown it.
data Step (L : Ledger) (call : Call) (new : List ℕ) : Type 0 where
  same : is_room_of (verdict_on L call new) ≡ false → next L call new ≡ roomy_next L call new → Step L call new
  outgrown : Scarce (verdict_on L call new) → (Within L.memory.limits (roomy_next L call new) → ⊥) → Step L call new

set_more : (due : DueTime) (handles : List ℕ) (ys : List Expiration) → length (set_on_each due handles ys) ≡ length ys + length handles
unfolding set_on_each
set_more due [] ys = omega arith
set_more due (handle ∷ handles) ys = omega (arith, set_more due handles (record { handle = handle; due = due } ∷ ys))

none_reserved : (store : Bool) → ((quota_in store no_share).reserve ≡ 0) × ((quota_in store open_share).reserve ≡ 0)
none_reserved true = (refl, refl)
none_reserved false = (refl, refl)

limit_open : (store : Bool) → (quota_in store open_share).limit ≡ 255
limit_open true = refl
limit_open false = refl

module _ (L : Ledger) (k : Kept L) (h : OpenIn L) where
  abbrev m : Memory
  m = L.memory

  abbrev xs : List Expiration
  xs = L.expirations

  reserve_zero : (store : Bool) (task : ℕ) → (quota_of store m.shares m.objects task).reserve ≡ 0
  unfolding OpenIn
  reserve_zero store task =
      by_test (is_active (task_at m.clocks task).state)
      (λ a. rw (h task a) (none_reserved store).1)
      (λ a. rw (k.shares.inactive task a) (none_reserved store).0)

  unmet_zero : (store : Bool) (task : ℕ) → unmet store m.shares m.objects task ≡ 0
  unmet_zero store task = rw (unmet_so store m.shares m.objects task) (omega (arith, reserve_zero store task))

  taken : (store : Bool) (task : ℕ) → taken_from store m.shares m.objects task ≡ used_in store m.objects
  taken store task =
      let all = sum_same task_count (unmet store m.shares m.objects) (λ (i : ℕ). 0) (unmet_zero store) ∙ sum_zero task_count in
      omega (arith, all)

  -- 25 does not come,
  not_short : (store : Bool) (task : ℕ) → is_short store m.shares m.objects m.limits task 0 ≡ false
  unfolding is_short
  not_short store task =
      le-ltb (blocks_in m.limits store) (taken_from store m.shares m.objects task + 0) (omega (arith, taken store task, k.shares.room store))

  -- nor 26,
  not_at_limit : (most : (store : Bool) → blocks_in m.limits store < 255) (store : Bool) (task : ℕ) → task < task_count
      → is_absent (task_at m.clocks task).state ≡ false → is_viewing (task_at m.clocks task).state ≡ false
      → is_at_limit store m.shares m.objects task ≡ false
  unfolding is_at_limit OpenIn
  not_at_limit most store task l present acts =
      let its = h task (active (task_at m.clocks task).state present acts) in
      let limit : (quota_of store m.shares m.objects task).limit ≡ 255 = rw its (limit_open store) in
      lt-leb (quota_of store m.shares m.objects task).limit (made store m.objects task)
      (omega (arith, limit, most store, k.shares.room store, all_made store task_count m.objects, sum_at_lem task_count task (made store m.objects) l))

  -- and 9 is that all blocks are in use
  full : (store : Bool) (task : ℕ) → is_full store m.shares m.objects m.limits task ≡ true → blocks_in m.limits store ≤ used_in store m.objects
  unfolding is_full
  full store task e = omega (arith, taken store task, leb-true (blocks_in m.limits store) (taken_from store m.shares m.objects task) e)

  -- a make takes one block more: each object stood, and stands
  made_more : (task : ℕ) (kind : Kind) (extension size prefix : ℕ) (new : List ℕ)
      → used_in (is_small size) (carried_out L (Make task kind extension size prefix) new).memory.objects ≡ used_in (is_small size) m.objects + 1
  unfolding memory_after expirations_after
  made_more task kind extension size prefix new =
      let o = zeroed task (m.given + 1) size prefix in
      let ys = expirations_after (Make task kind extension size prefix) new m xs in
      let all = all_append (λ (p : Object). stands ys p.handle ≡ true) m.objects (o ∷ []) (all_imp (λ p s. rw (s, or-true)) m.objects k.standing) (rw (eq-eqb (m.given + 1) (m.given + 1) refl), tt) in
      rw (filter_all (λ (p : Object). stands ys p.handle) (m.objects ++ (o ∷ [])) all, used_append (is_small size) o m.objects)
      (own_store size o refl)
    where
      own_store : (size : ℕ) (o : Object) → o.size ≡ size → used_in (is_small size) m.objects + cond (is_in (is_small size) o) 1 0 ≡ used_in (is_small size) m.objects + 1
      own_store size o e = rw e (by_test (is_small size) (λ d. rw d) (λ d. rw d))

  -- what sets expirations leaves so many more
  dates_more : (call : Call) (new : List ℕ) (n : ℕ) → roomy_verdict_on L call new ≡ none → length (expirations_after call new m xs) ≡ length xs + n
      → m.limits.expirations < length xs + n → Within m.limits (roomy_next L call new) → ⊥
  unfolding roomy_next
  dates_more call new n e more past w = let v : Within m.limits (carried_out L call new) = rw e at w in absurd (omega (arith, v.dates, more, past))

  blocks_more : (task : ℕ) (kind : Kind) (extension size prefix : ℕ) (new : List ℕ) → roomy_verdict_on L (Make task kind extension size prefix) new ≡ none
      → blocks_in m.limits (is_small size) ≤ used_in (is_small size) m.objects → Within m.limits (roomy_next L (Make task kind extension size prefix) new) → ⊥
  unfolding roomy_next
  blocks_more task kind extension size prefix new e past w =
      let v : Within m.limits (carried_out L (Make task kind extension size prefix) new) = rw e at w in
      absurd (omega (arith, v.blocks (is_small size), made_more task kind extension size prefix new, past))

  module _ (most : (store : Bool) → blocks_in m.limits store < 255) (new : List ℕ) where
    by_apart : (call : Call) → is_room_of (verdict_on L (read_call call) new) ≡ true → roomy_verdict_on L (read_call call) new ≡ none → Step L (read_call call) new
    unfolding tests_of verdict roomy_next expirations_after
    by_apart (Join task share) r e =
        let (exists, (absent, (ordered, end))) = passed (facts_in L) (roomless (tests_of (read_call (Join task share)) new)) e in
        absurd (true≢false (sym r ∙ (rw (exists, absent, ordered, not_short true task, not_short false task))))
    by_apart (Make task kind extension size prefix) r e =
        let (exists, (present, (active, (acts, (short, (range, (prefixed, (spent, end)))))))) = passed (facts_in L) (roomless (tests_of (Make task kind extension size prefix) new)) e in
        let below = not_at_limit most (is_small size) task (leb-false task_count task exists) present acts in
        by_test (is_full (is_small size) m.shares m.objects m.limits task)
        (λ f. outgrown (no_block (rw (exists, present, active, acts, short, range, prefixed, spent, below, f)))
        (blocks_more task kind extension size prefix new e (full (is_small size) task f)))
        (λ f. by_test (leb m.limits.expirations (length xs))
        (λ g. outgrown (no_date (rw (exists, present, active, acts, short, range, prefixed, spent, below, f, g)))
        (dates_more (Make task kind extension size prefix) new 1 e (omega arith) (omega (arith, leb-true m.limits.expirations (length xs) g))))
        (λ g. absurd (true≢false (sym r ∙ (rw (exists, present, active, acts, short, range, prefixed, spent, below, f, g))))))
    by_apart (Refresh task kind extension handle) r e =
        let (exists, (present, (active, (acts, (lasts, (short, (given, (gone, end)))))))) = passed (facts_in L) (roomless (tests_of (Refresh task kind extension handle) new)) e in
        by_test (leb m.limits.expirations (length xs))
        (λ g. outgrown (no_date (rw (exists, present, active, acts, lasts, short, given, gone, g)))
        (dates_more (Refresh task kind extension handle) new 1 e (omega arith) (omega (arith, leb-true m.limits.expirations (length xs) g))))
        (λ g. absurd (true≢false (sym r ∙ (rw (exists, present, active, acts, lasts, short, given, gone, g)))))
    by_apart (Batch task kind extension) r e =
        let (exists, (present, (active, (acts, (range, (lasts, (short, (given, (gone, end))))))))) = passed (facts_in L) (roomless (tests_of (Batch task kind extension) new)) e in
        let n = length (handles_of new) in
        by_test (ltb m.limits.expirations (length xs + n))
        (λ g. outgrown (no_date (rw (exists, present, active, acts, range, lasts, short, given, gone, g)))
        (dates_more (Batch task kind extension) new n e (set_more (due_after m.clocks task kind extension) (handles_of new) xs) (ltb-true m.limits.expirations (length xs + n) g)))
        (λ g. absurd (true≢false (sym r ∙ (rw (exists, present, active, acts, range, lasts, short, given, gone, g)))))
    by_apart (Schedule Leave task) r e = absurd (true≢false (sym r ∙ never_room (facts_in L) (tests_of (Schedule Leave task) new)))
    by_apart (Schedule Block task) r e = absurd (true≢false (sym r ∙ never_room (facts_in L) (tests_of (Schedule Block task) new)))
    by_apart (Schedule Resume task) r e = absurd (true≢false (sym r ∙ never_room (facts_in L) (tests_of (Schedule Resume task) new)))
    by_apart (Schedule Tick task) r e = absurd (true≢false (sym r ∙ never_room (facts_in L) (tests_of (Schedule Tick task) new)))
    by_apart (Schedule View task) r e = absurd (true≢false (sym r ∙ never_room (facts_in L) (tests_of (Schedule View task) new)))
    by_apart (Read task handle) r e = absurd (true≢false (sym r ∙ never_room (facts_in L) (tests_of (Read task handle) new)))
    by_apart (Write task handle offset) r e = absurd (true≢false (sym r ∙ never_room (facts_in L) (tests_of (Write task handle offset) new)))
    by_apart (Release task handle) r e = absurd (true≢false (sym r ∙ never_room (facts_in L) (tests_of (Release task handle) new)))

    step : (call : Call) → Step L (read_call call) new
    unfolding next roomy_next
    step call = by (compared (facts_in L) (tests_of (read_call call) new) (last (read_call call) new))
      where
        by : Compared (verdict_on L (read_call call) new) (roomy_verdict_on L (read_call call) new) → Step L (read_call call) new
        by (alike q) = same (rw q (never_room (facts_in L) (tests_of (read_call call) new))) (rw q)
        by (apart r e) = by_apart call r e

-- a kept ledger is within its figures
kept_within : (L : Ledger) → Kept L → Within L.memory.limits L
kept_within L k = record { blocks = λ store. omega (arith, k.shares.room store); dates = k.expirations.room }

-- what an answer says of its verdict
pub has_room : (y : Reply) → is_room_of (refusal_in y.answer) ≡ false → HasRoom y
has_room y e =
    let told : (r : Refusal) → is_room r ≡ true → y.answer ≢ Refused r = λ r n q. true≢false (sym n ∙ (ap (λ (a : Answer). is_room_of (refusal_in a)) (sym q) ∙ e)) in
    (told NoFreeBlock refl, told NoFreeExpiration refl)

has_none : (L : Ledger) (call : Call) (new : List ℕ) → Scarce (verdict_on L call new) → HasRoom (reply L call new) → ⊥
unfolding reply
has_none L call new (no_block q) h = h.0 (rw q)
has_none L call new (no_date q) h = h.1 (rw q)

-- One call on its way, read so
data Met (L : Ledger) (s : Sent) : Type 0 where
  together : HasRoom (reply_to_request L s.request s.bytes) → after_sent L s ≡ roomy_after L s.request s.bytes → Met L s
  parted : (HasRoom (reply_to_request L s.request s.bytes) → ⊥) → (Within L.memory.limits (roomy_after L s.request s.bytes) → ⊥) → Met L s

met : (L : Ledger) → Kept L → OpenIn L → ((store : Bool) → blocks_in L.memory.limits store < 255) → (request : Request) (new : List ℕ)
    → Met L (as_read (record { request = request; bytes = new }))
unfolding reply
met L k h most (Use call) new = by (step L k h most new call)
  where
    by : Step L (read_call call) new → Met L (as_read (record { request = Use call; bytes = new }))
    by (same e q) = together (has_room (reply L (read_call call) new) (rw (refusal_told (verdict_on L (read_call call) new) (read_call call) L.memory) e)) q
    by (outgrown v w) = parted (has_none L (read_call call) new v) w
met L k h most Report new = together (has_room (reply_to_request L Report new) refl) refl
met L k h most (Remaining task handle) new =
    let life = plain (Lasts (remaining_life task handle L.memory.clocks L.expirations)) in
    together
    (has_room (reply_to_request L (Remaining task handle) new)
    (rw (verdict_told (standing_verdict_on L task handle) life refl) (never_room (facts_in L) (standing_tests task handle))))
    refl

-- The list: neither 9 nor 10 so far, and so one ledger.
module _ (limits : Limits) (most : (store : Bool) → blocks_in limits store < 255) where
  both_ways : (ss : List Sent) (L : Ledger) → L.memory.limits ≡ limits → Kept L → OpenIn L
      → All HasRoom (replies L (map as_read ss)) ↔ All (Within limits) (roomy_states L (map as_read ss))
  unfolding replies roomy_states
  both_ways [] L q k h = (λ a. tt, λ a. tt)
  both_ways (s ∷ ss) L q k h =
      by (met L k h (λ store. subst (λ (l : Limits). blocks_in l store < 255) (sym q) (most store)) s.request s.bytes)
      (both_ways ss (after_sent L (as_read s)) now kept (open_request L k h s.request s.bytes))
    where
      now : (after_sent L (as_read s)).memory.limits ≡ limits
      now = limits_sent L (read_request s.request) s.bytes ∙ q

      kept : Kept (after_sent L (as_read s))
      kept = kept_request L k (read_request s.request) s.bytes

      by : Met L (as_read s) → (All HasRoom (replies (after_sent L (as_read s)) (map as_read ss)) ↔ All (Within limits) (roomy_states (after_sent L (as_read s)) (map as_read ss)))
          → All HasRoom (replies L (map as_read (s ∷ ss))) ↔ All (Within limits) (roomy_states L (map as_read (s ∷ ss)))
      by (together a e) (to, fro) =
          let within = subst (λ (l : Limits). Within l (after_sent L (as_read s))) now (kept_within (after_sent L (as_read s)) kept) in
          subst
          (λ (M : Ledger).
          (HasRoom (reply_to_request L (as_read s).request s.bytes) × All HasRoom (replies (after_sent L (as_read s)) (map as_read ss)))
          ↔ (Within limits M × All (Within limits) (roomy_states M (map as_read ss))))
          e (λ (y, ys). (within, to ys), λ (v, vs). (a, fro vs))
      by (parted a w) rest =
          (λ (y, ys). absurd (a y), λ (v, vs). absurd (w (subst (λ (l : Limits). Within l (roomy_after L (as_read s).request s.bytes)) (sym q) v)))

-- the peaks are within the figures exactly when each ledger is
peaks_within : (limits : Limits) (Ls : List Ledger) → All (Within limits) Ls ↔ Fits limits (peaks_of Ls)
unfolding usage
peaks_within limits Ls = (
  λ h.
      record {
        small = most_within (λ (L : Ledger). (figures_of L).small) limits.small Ls (all_imp (λ L w. w.blocks true) Ls h);
        large = most_within (λ (L : Ledger). (figures_of L).large) limits.large Ls (all_imp (λ L w. w.blocks false) Ls h);
        expirations = most_within (λ (L : Ledger). (figures_of L).expirations) limits.expirations Ls (all_imp (λ L w. w.dates) Ls h);
      },
  λ f.
      let stores : All (λ (L : Ledger). ((figures_of L).small ≤ limits.small) × ((figures_of L).large ≤ limits.large)) Ls =
      all_both (λ L s l. (s, l)) Ls
      (most_bounds (λ (L : Ledger). (figures_of L).small) limits.small Ls f.small)
      (most_bounds (λ (L : Ledger). (figures_of L).large) limits.large Ls f.large) in
      all_both
      (λ L b d. record { blocks = λ store. by_test store (λ e. rw e b.0) (λ e. rw e b.1); dates = d }) Ls
      stores (most_bounds (λ (L : Ledger). (figures_of L).expirations) limits.expirations Ls f.expirations),
)

few : (limits : Limits) → is_allowed limits ≡ true → (store : Bool) → blocks_in limits store < 255
few limits e true = omega (arith, (allowed limits e).most_small)
few limits e false = omega (arith, (allowed limits e).most_large)

pub peaks_fit : PeaksFit
unfolding peaks
peaks_fit limits e ss =
    let (to, fro) = both_ways limits (few limits e) ss (fresh limits) (figures limits) (kept_fresh limits) (open_fresh limits) in
    let (up, down) = peaks_within limits (roomy_states (fresh limits) (map as_read ss)) in
    (λ a. up (to a), λ f. fro (down f))
