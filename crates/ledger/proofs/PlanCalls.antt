-- No call of a plan is refused but a make: turn by turn, from the joins on.
use Prim.Native.Nat.{ℕ, zero, suc, ◌+◌, ◌≤◌, ◌<◌}
use native.Mathlib.Nat.{le_refl}
use native.Mathlib.Omega.{arith}
use mathlib.Core.Bool.{Bool, true, false, ◌&&◌}
use mathlib.Core.List.{List, [], ◌∷◌, map}
use mathlib.Core.Option.{none}
use mathlib.Core.Path.{◌≡◌, refl, sym, ap, ◌∙◌, subst}
use borrow.Author.Tests.{lt-leb, le-ltb}
use lib.ListN.{length, get_or-replicate}
use lib.Seq.{get_or-set_same}
use Rattle.lists.proofs.All.{at_set}
use Rattle.lists.proofs.Cases.{by_test, or_false_parts}
use Rattle.ledger.specs.Limits.{task_count}
use Rattle.ledger.specs.Numbers.{is_refusal}
use Rattle.ledger.specs.Shares.{taken_from, blocks_in, is_short}
use Rattle.ledger.specs.Tasks.{entered, joined, fresh_clocks, Task, Clocks, task_at, absent_task}
use Rattle.ledger.specs.Objects.{Reply, fresh_memory}
use Rattle.ledger.specs.Refusals.{verdict}
use Rattle.ledger.specs.Rules.{memory_after, expirations_after, tests_of}
use Rattle.ledger.specs.Ledger.{Ledger, Sent, fresh, verdict_on, next, after_all}
use Rattle.ledger.specs.Kept.{Kept}
use Rattle.ledger.specs.Plans.{turn_of, opened, calls_of_turn, after_turn, step_calls, after_step, plan_share, joins, ready, stepped, run, calls_of}
use Rattle.ledger.specs.PlansClaim.{not_make, is_write, some_refused}
use Rattle.ledger.specs.declared.State.TheVariants.{Absent, Running}
use Rattle.ledger.specs.declared.Call.TheVariants.{Join, Schedule, Make, Refresh, Read, Write, Batch, Release}
use Rattle.ledger.specs.declared.Limits.{Limits}
use Rattle.ledger.specs.declared.Request.{Request}
use Rattle.ledger.specs.declared.Request.TheVariants.{Use, Report, Remaining}
use Rattle.ledger.specs.declared.plans.Channel.{Channel}
use Rattle.ledger.specs.declared.plans.Track.{Track}
use Rattle.ledger.proofs.Kept.{kept_fresh, kept_request, kept_after, kept_all}
use Rattle.ledger.proofs.Appended.{after_append, refused_append}
use Rattle.ledger.proofs.PlanFigures.{run_from, run_length}
use Rattle.ledger.proofs.PlanHeld.{state_at, PollKept, Untouched, poll_untouched, untouched_then}
use Rattle.ledger.proofs.PlanTurns.{Passes, first_passes, none_passes, fits, turned, at_end, turn_untouched}

-- all channels from one on
abbrev pub TracksKept : Ledger → ℕ → List Track → Type 0
TracksKept L task [] = Unit
TracksKept L task (t ∷ ts) = PollKept L task t.poll × TracksKept L (suc task) ts

tracks_untouched : (L M : Ledger) (from : ℕ) → ((j : ℕ) → from ≤ j → Untouched L M j) → (task : ℕ) → from ≤ task → (ts : List Track)
    → TracksKept L task ts → TracksKept M task ts
tracks_untouched L M from u task l [] h = tt
tracks_untouched L M from u task l (t ∷ ts) (h, hs) =
    (poll_untouched L M task (u task l) t.poll h, tracks_untouched L M from u (suc task) (omega (arith, l)) ts hs)

-- a step leaves those before its first alone,
step_untouched : (ts : List Track) (L : Ledger) → Kept L → (step task other : ℕ) → other < task
    → Untouched L (after_all L (step_calls L step task ts)) other
unfolding step_calls
step_untouched [] L k step task other l = at_end task other (λ q. omega (arith, l, q)) L
step_untouched (t ∷ ts) L k step task other l =
    let calls = calls_of_turn L step task t in
    let M = after_all L calls in
    rw (after_append calls (step_calls M step (suc task) ts) L)
    (untouched_then L M _ other (turn_untouched task other (λ q. omega (arith, l, q)) L k (opened L step task t.channel) t.channel
    (turn_of t.channel step t.poll))
    (step_untouched ts M (kept_after calls L k) step (suc task) other (omega (arith, l))))

-- and all others as they should be
pub step_carried : (ts : List Track) (L : Ledger) → Kept L → (step task : ℕ) → task + length ts ≤ task_count → TracksKept L task ts
    → (Passes L (step_calls L step task ts)) × TracksKept (after_all L (step_calls L step task ts)) task (after_step L step task ts)
unfolding step_calls after_step
step_carried [] L k step task l h = (none_passes L, tt)
step_carried (t ∷ ts) L k step task l (h, hs) =
    let w = turn_of t.channel step t.poll in
    let calls = calls_of_turn L step task t in
    let M = after_all L calls in
    let k_m = kept_after calls L k in
    let c = turned L k task (omega (arith, l)) step t w (fits L step task t.channel t.poll h) in
    let rest = tracks_untouched L M (suc task) (λ j g. turn_untouched task j (λ q. omega (arith, g, q)) L k (opened L step task t.channel) t.channel w)
    (suc task) (le_refl (suc task)) ts hs in
    let (passes, kept) = step_carried ts M k_m step (suc task) (omega (arith, l)) rest in
    let after = after_append calls (step_calls M step (suc task) ts) L in
    let poll = poll_untouched M (after_all M (step_calls M step (suc task) ts)) task (step_untouched ts M k_m step (suc task) task
    (le_refl (suc task))) (after_turn L step task t).poll c.kept in (
      rw (refused_append not_make calls (step_calls M step (suc task) ts) L, c.passes, passes),
      (
        subst (λ (N : Ledger). PollKept N task (after_turn L step task t).poll) (sym after) poll,
        subst (λ (N : Ledger). TracksKept N (suc task) (after_step M step (suc task) ts)) (sym after) kept,
      ),
    )

-- Before the first step: a task that is absent may join with no reserve,
not_short : (L : Ledger) → Kept L → (store : Bool) (task : ℕ)
    → is_short store L.memory.shares L.memory.objects L.memory.limits task 0 ≡ false
unfolding is_short
not_short L k store task =
    le-ltb (blocks_in L.memory.limits store) (taken_from store L.memory.shares L.memory.objects task + 0)
    (omega (arith, k.shares.room store))

may_join : (L : Ledger) → Kept L → (task : ℕ) → task < task_count → state_at L task ≡ Absent → verdict_on L (Join task plan_share) [] ≡ none
unfolding verdict tests_of
may_join L k task l e = rw (lt-leb task_count task l, e, not_short L k true task, not_short L k false task)

join_next : (L : Ledger) (task : ℕ) → verdict_on L (Join task plan_share) [] ≡ none
    → ((next L (Join task plan_share) []).memory.clocks ≡ entered task joined L.memory.clocks) ×
    ((next L (Join task plan_share) []).expirations ≡ L.expirations)
unfolding next memory_after expirations_after
join_next L task e = rw e (refl, refl)

-- runs then,
join_runs : (L : Ledger) → Kept L → (task : ℕ) → task < task_count → verdict_on L (Join task plan_share) [] ≡ none
    → state_at (next L (Join task plan_share) []) task ≡ Running
unfolding entered
join_runs L k task l e =
    ap (λ (c : Clocks). (task_at c task).state) (join_next L task e).0
    ∙ ap (λ (t : Task). t.state) (get_or-set_same L.memory.clocks.tasks task joined absent_task (rw k.clocks.sixteen l))

-- and no other is touched
join_untouched : (L : Ledger) (task other : ℕ) → (other ≡ task → ⊥) → verdict_on L (Join task plan_share) [] ≡ none
    → Untouched L (next L (Join task plan_share) []) other
unfolding entered
join_untouched L task other ne e =
    record {
      state = rw (join_next L task e).0
          (at_set (λ (t : Task). t.state ≡ state_at L other) L.memory.clocks.tasks task other absent_task (λ q. absurd (ne q)) refl);
      held = λ handle h. rw (join_next L task e).1 h;
    }

-- Those from one on are absent
abbrev Empty : Ledger → ℕ → Type 0
Empty L task = (j : ℕ) → task ≤ j → j < task_count → state_at L j ≡ Absent

joins_untouched : (plan : List Channel) (L : Ledger) → Kept L → (task other : ℕ) → other < task → task + length plan ≤ task_count
    → Empty L task
    → Untouched L (after_all L (joins task plan)) other
unfolding joins after_all
joins_untouched [] L k task other b l h = record { state = refl; held = λ handle e. e }
joins_untouched (c ∷ plan) L k task other b l h =
    let e = may_join L k task (omega (arith, l)) (h task (le_refl task) (omega (arith, l))) in
    let M = next L (Join task plan_share) [] in
    untouched_then L M _ other (join_untouched L task other (λ q. omega (arith, b, q)) e)
    (joins_untouched plan M (kept_request L k (Use (Join task plan_share)) []) (suc task) other (omega (arith, b)) (omega (arith, l))
    (λ j g n. (join_untouched L task j (λ q. omega (arith, g, q)) e).state ∙ h j (omega (arith, g)) n))

joins_carried : (plan : List Channel) (L : Ledger) → Kept L → (task : ℕ) → task + length plan ≤ task_count → Empty L task
    → (Passes L (joins task plan)) × TracksKept (after_all L (joins task plan)) task (map ready plan)
unfolding joins after_all
joins_carried [] L k task l h = (none_passes L, tt)
joins_carried (c ∷ plan) L k task l h =
    let e = may_join L k task (omega (arith, l)) (h task (le_refl task) (omega (arith, l))) in
    let M = next L (Join task plan_share) [] in
    let k_m = kept_request L k (Use (Join task plan_share)) [] in
    let empty : Empty M (suc task) = λ j g n. (join_untouched L task j (λ q. omega (arith, g, q)) e).state ∙ h j (omega (arith, g)) n in
    let (passes, kept) = joins_carried plan M k_m (suc task) (omega (arith, l)) empty in (
      first_passes L (Join task plan_share) [] (joins (suc task) plan) e passes,
      (
        (joins_untouched plan M k_m (suc task) task (le_refl (suc task)) (omega (arith, l)) empty).state ∙ join_runs L k task
            (omega (arith, l)) e,
        kept,
      ),
    )

empty_fresh : (limits : Limits) → Empty (fresh limits) 0
unfolding fresh fresh_memory fresh_clocks
empty_fresh limits j g n = ap (λ (t : Task). t.state) (get_or-replicate task_count j absent_task absent_task n)

-- all steps
kept_run : (limits : Limits) (plan : List Channel) (steps : ℕ) → Kept (run limits plan steps).ledger
kept_run limits plan steps = rw (sym (run_from limits plan steps)) (kept_all limits (calls_of limits plan steps))

pub run_carried : (limits : Limits) (plan : List Channel) → length plan ≤ task_count → (steps : ℕ)
    → (Passes (fresh limits) (calls_of limits plan steps)) × TracksKept (run limits plan steps).ledger 0 (run limits plan steps).tracks
unfolding run stepped calls_of
run_carried limits plan l zero = joins_carried plan (fresh limits) (kept_fresh limits) 0 (omega (arith, l)) (empty_fresh limits)
run_carried limits plan l (suc steps) =
    let w = run limits plan steps in
    let (passes, kept) = run_carried limits plan l steps in
    let (steps-pass, Kept-then) = step_carried w.tracks w.ledger (kept_run limits plan steps) steps 0
    (omega (arith, l, run_length limits plan steps)) kept in (
      rw (
        refused_append not_make (calls_of limits plan steps) (step_calls w.ledger steps 0 w.tracks) (fresh limits),
        passes,
        run_from
            limits plan steps,
      ) steps-pass,
      Kept-then,
    )

-- a sort of calls within another
fewer_refused : (sort wider : Request → Bool) → ((r : Request) → sort r ≡ true → wider r ≡ true) → (ss : List Sent) (ys : List Reply)
    → some_refused wider ss ys ≡ false → some_refused sort ss ys ≡ false
unfolding some_refused
fewer_refused sort wider f [] ys h = refl
fewer_refused sort wider f (s ∷ ss) [] h = refl
fewer_refused sort wider f (s ∷ ss) (y ∷ ys) h =
    let (this, later) = or_false_parts (wider s.request && is_refusal y.answer) (some_refused wider ss ys) h in
    by_test (sort s.request)
    (λ e. rw (e, rw (f s.request e) at this) (fewer_refused sort wider f ss ys later))
    (λ e. rw e (fewer_refused sort wider f ss ys later))

no_make : (r : Request) → is_write r ≡ true → not_make r ≡ true
no_make (Use (Write task handle offset)) e = refl
no_make (Use (Make task kind extension size prefix)) e = e
no_make (Use (Join task share)) e = refl
no_make (Use (Schedule event task)) e = refl
no_make (Use (Refresh task kind extension handle)) e = refl
no_make (Use (Read task handle)) e = refl
no_make (Use (Batch task kind extension)) e = refl
no_make (Use (Release task handle)) e = refl
no_make Report e = refl
no_make (Remaining task handle) e = refl

pub written : (ss : List Sent) (ys : List Reply) → some_refused not_make ss ys ≡ false → some_refused is_write ss ys ≡ false
written = fewer_refused is_write not_make no_make
