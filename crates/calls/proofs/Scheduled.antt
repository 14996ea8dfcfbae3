-- The calls of tasks on a well-formed record meet their contract.
use Rattle.record.specs.declared.LocalTime.{LocalTime}
use Rattle.tasks.specs.declared.Ending.{Ending}
use Prim.Native.Nat.{ℕ, ◌<◌}
use native.Mathlib.Omega.{arith}
use mathlib.Core.Bool.{Bool, true, false, cond, true≢false, false≢true}
use mathlib.Core.List.{List, [], map, map-id}
use mathlib.Core.Option.{Option, none, some}
use mathlib.Core.Path.{◌≡◌, refl, sym, ap, ◌∙◌}
use borrow.Author.Tests.{leb-false}
use lib.Dec.{leb}
use lib.ListN.{get_or}
use Rattle.lists.specs.Tests.{any}
use Rattle.lists.proofs.All.{all_imp, none→All, map_same}
use Rattle.lists.proofs.Cases.{by_test}
use Rattle.lists.specs.Tables.{all_from, map_from}
use Rattle.ledger.specs.Limits.{standard, task_count}
use Rattle.ledger.specs.Tasks.{is_tested, all_ticked}
use Rattle.ledger.specs.Objects.{Memory, plain}
use Rattle.ledger.specs.Rules.{reply_to}
use Rattle.ledger.specs.Ledger.{verdict_on, reply_by, reply}
use Rattle.ledger.specs.declared.Answer.{Answer}
use Rattle.ledger.specs.declared.Answer.TheVariants.{Refused as RefusedAnswer}
use Rattle.ledger.specs.declared.Event.{Event}
use Rattle.ledger.specs.declared.Event.TheVariants.{Leave, Block, Resume, Tick, View}
use Rattle.ledger.specs.declared.Call.TheVariants.{Schedule}
use Rattle.ledger.specs.declared.Refusal.{Refusal}
use Rattle.ledger.specs.declared.Refusal.TheVariants.{NoSuchTask}
use Rattle.ledger.specs.declared.Request.TheVariants.{Use}
use Rattle.record.specs.Codes.{task_of, due_of, absent_entry}
use Rattle.record.specs.Reading.{Typed}
use Rattle.record.specs.Tables.{BlockEntry, ExpirationEntry, Tables, tables_of}
use Rattle.record.specs.WellFormed.{is_fit_block}
use Rattle.record.specs.WellFormed as WellFormed
use Rattle.record.specs.Pools.{is_well_formed}
use Rattle.record.specs.declared.GlobalTime.{GlobalTime}
use Rattle.record.specs.declared.Pool.{Pool}
use Rattle.record.specs.declared.TaskEntry.{TaskEntry}
use Rattle.record.proofs.Facts.{fit_parts}
use Rattle.steps.specs.Events.{verdict_at, moved_entry, moved_tasks, leaver_of, kept_block, swept, with_times, orphaned_pool, moved_pool, pool_after, answer_after, outcome_by, scheduled}
use Rattle.steps.proofs.EventsFollow.{schedule_follows, schedule_fits}
use Rattle.steps.proofs.Standing.{none_freed, swept_none}
use Rattle.steps.proofs.Orphans.{orphaned_none}
use Rattle.steps.proofs.Staying.{event_stays}
use Rattle.tasks.specs.Steps.{is_leave, may_end, ending_at, ending_of, tested_after, planned_after, planned_by, planned}
use Rattle.tasks.specs.declared.Planned.{Planned}
use Rattle.endings.specs.Ending.{is_ending, ended_entry}
use Rattle.endings.specs.declared.Passing.{Passing}
use Rattle.calls.specs.Contract.{Obeys}
use Rattle.calls.proofs.Passing.{block_keeps}
use Rattle.ledger.specs.Numbers.{is_refusal}
use Rattle.ledger.specs.Refusals.{Verdict}
use Rattle.std.specs.Prelude.{Ok, Err, None, Some}

-- the ledger's reply to an event has no bytes
no_bytes_lem : (v : Option Refusal) (event : Event) (task : ℕ) (m : Memory)
    → plain (reply_by v (reply_to (Schedule event task) m)).answer ≡ reply_by v (reply_to (Schedule event task) m)
unfolding reply_to
no_bytes_lem none event task m = refl
no_bytes_lem (some r) event task m = refl

-- A record that is left as the event leaves it, and that is the same where it is refused, obeys.
pub schedule_obeys : (event : Event) (task : ℕ) {p p' : Pool} → Typed (tables_of p) → is_well_formed p ≡ true → (small large : List ℕ) {answer : Answer}
    → answer ≡ (scheduled event task (tables_of p)).answer → tables_of p' ≡ (scheduled event task (tables_of p)).pool
    → ((why : Refusal) → answer ≡ RefusedAnswer why → p' ≡ p)
    → Obeys (Use (Schedule event task)) [] p small large (plain answer) p' small large
unfolding reply
schedule_obeys event task {p} types w small large a left keeps =
    record {
      unfit = λ u. absurd (true≢false (sym w ∙ u));
      wrong = λ x s n. absurd (false≢true s);
      answers = λ r L reads.
          ap plain (a ∙ (schedule_follows event task (tables_of p) small large L w reads).0) ∙ no_bytes_lem (verdict_on L (Schedule event task) []) event task L.memory;
      leaves = λ r L reads. rw left (schedule_follows event task (tables_of p) small large L w reads).1;
      fits = λ x. rw left (schedule_fits event task (tables_of p) types w);
      keeps = λ why e. record { refused = ap plain e; same_pool = keeps why e; same_small = refl; same_large = refl };
      stays = rw left (event_stays event task (tables_of p));
      sizes = (refl, refl);
      left = (refl, refl);
    }

-- What an event comes to is what it plans.
module _ (event : Event) (task : ℕ) (p : Tables) where
  abbrev answered : Verdict → Type 0
  answered v = (outcome_by v event task p).answer ≡ (planned_by v event task p.tasks p.global).answer

  answer_by : (v : Verdict) → answered v
  unfolding answer_after planned_after
  answer_by (Ok _) = by_test (is_tested event) (λ e. rw e) (λ e. rw e)
  answer_by (Err r) = refl

  pub planned_answer : (planned event task p.tasks p.global).answer ≡ (scheduled event task p).answer
  unfolding scheduled planned
  planned_answer = sym (answer_by (verdict_at event task p.tasks))

-- one that is refused leaves tasks and times, and ends nothing
pub record Unmoved (q : Planned) (tasks : List TaskEntry) (global : GlobalTime) : Type 0 where
  pub same_tasks : q.tasks ≡ tasks
  pub same_time : q.global ≡ global
  pub still : q.ending ≡ None

unmoved_by : (v : Verdict) (event : Event) (task : ℕ) (tasks : List TaskEntry) (global : GlobalTime) (why : Refusal)
    → (planned_by v event task tasks global).answer ≡ RefusedAnswer why → Unmoved (planned_by v event task tasks global) tasks global
unfolding planned_after
unmoved_by (Ok _) event task tasks global why e =
    let carried : is_refusal (planned_by (Ok tt) event task tasks global).answer ≡ false = by_test (is_tested event) (λ t. rw t) (λ t. rw t) in
    absurd (false≢true (sym carried ∙ ap is_refusal e))
unmoved_by (Err r) event task tasks global why e = record { same_tasks = refl; same_time = refl; still = refl }

pub refused_unmoved : (event : Event) (task : ℕ) (tasks : List TaskEntry) (global : GlobalTime) (why : Refusal)
    → (planned event task tasks global).answer ≡ RefusedAnswer why → Unmoved (planned event task tasks global) tasks global
unfolding planned
refused_unmoved event task tasks global = unmoved_by (verdict_at event task tasks) event task tasks global

-- an event of a task that exists
known_task : (task : ℕ) (v : Verdict) → cond (leb task_count task) (Err NoSuchTask) v ≡ Ok tt → task < task_count
known_task task v e =
    by_test (leb task_count task)
    (λ t.
    let refused : Err NoSuchTask ≡ Ok tt = rw t at e in
    let z : ◌≡◌ {A = ℕ} 0 1 = cc in
    absurd (omega arith))
    (leb-false task_count task)

module _ (event : Event) (task : ℕ) (p : Tables) where
  abbrev pub advanced : Bool
  advanced = all_ticked (map task_of (moved_tasks event task p.tasks))

  -- what a tested event plans
  abbrev pub tested : Planned
  tested = tested_after event task advanced (moved_tasks event task p.tasks) p.global (moved_entry event (get_or p.tasks task absent_entry))

  abbrev pub ending : Ending
  ending = ending_at event advanced (moved_entry event (get_or p.tasks task absent_entry)).clock

-- a tested event that may end nothing is a block that leaves the global time
tested_still : (event : Event) (task : ℕ) (p : Tables) → Typed p → WellFormed.is_well_formed p ≡ true → task < task_count → is_tested event ≡ true
    → may_end event (advanced event task p) ≡ false
    → swept (leaver_of event task) (advanced event task p) (tested event task p).tasks (tested event task p).global p ≡ with_times (tested event task p).tasks (tested event task p).global p
tested_still Leave task p types w known t s = absurd (true≢false s)
tested_still Block task p types w known t s =
    rw s
    (swept_none (leaver_of Block task) false _ _ p w
    (block_keeps task p.tasks p.global types.tasks known p.limits p.blocks p.expirations (fit_parts p w).entries))
tested_still Resume task p types w known t s = absurd (false≢true t)
tested_still View task p types w known t s = absurd (false≢true t)
tested_still Tick task p types w known t s = absurd (true≢false s)

-- by what is told of its ending: nothing may end,
nothing_ends : (event : Event) (advanced : Bool) (local : LocalTime) → ending_of event advanced local ≡ None → may_end event advanced ≡ false
nothing_ends event advanced local e = by_test (may_end event advanced) (λ t. absurd (cc (rw t at e))) (λ t. t)

-- or this
what_ends : (event : Event) (advanced : Bool) (local : LocalTime) {ending : Ending} → ending_of event advanced local ≡ Some ending → ending ≡ ending_at event advanced local
what_ends event advanced local e = by_test (may_end event advanced) (λ t. cc (rw t at e)) (λ t. absurd (cc (rw t at e)))

-- one that may end nothing is no leave
nobody_leaves : (event : Event) (task : ℕ) (tasks : List TaskEntry) (global : GlobalTime) → (planned_after event task tasks global).ending ≡ None → is_leave event ≡ false
unfolding planned_after
nobody_leaves Leave task tasks global s = absurd (cc s)
nobody_leaves Block task tasks global s = refl
nobody_leaves Resume task tasks global s = refl
nobody_leaves View task tasks global s = refl
nobody_leaves Tick task tasks global s = refl

-- An event by its plan: with nothing that may end, only tasks and times are new.
module _ (event : Event) (task : ℕ) (p : Tables) (types : Typed p) (w : WellFormed.is_well_formed p ≡ true) where
  still_by : (v : Verdict) → (v ≡ Ok tt → task < task_count) → (planned_by v event task p.tasks p.global).ending ≡ None
      → (outcome_by v event task p).pool ≡ with_times (planned_by v event task p.tasks p.global).tasks (planned_by v event task p.tasks p.global).global p
  unfolding pool_after moved_pool planned_after
  still_by (Ok _) known s =
      ap (λ (t : Tables). moved_pool event task t) (orphaned_none event task p (nobody_leaves event task p.tasks p.global s))
      ∙ by_test (is_tested event) (λ t. rw t (tested_still event task p types w (known refl) t (nothing_ends event (advanced event task p) _ (rw t at s)))) (λ t. rw t)
  still_by (Err r) known s = refl

  pub still_planned : (planned event task p.tasks p.global).ending ≡ None
      → (let q = planned event task p.tasks p.global in (scheduled event task p).pool ≡ with_times q.tasks q.global p)
  unfolding scheduled planned
  still_planned = still_by (verdict_at event task p.tasks) (known_task task _)

-- else it is accepted and tested, and the record is swept
pub record Swept (event : Event) (task : ℕ) (p : Tables) (q : Planned) (e : Ending) : Type 0 where
  pub known : task < task_count
  pub plan : q ≡ tested event task p
  pub ends : e ≡ ending event task p
  pub left : (scheduled event task p).pool ≡ swept (leaver_of event task) (advanced event task p) q.tasks q.global (orphaned_pool event task p)

module _ (event : Event) (task : ℕ) (p : Tables) where
  swept_by : (v : Verdict) → (v ≡ Ok tt → task < task_count) → {e : Ending} → (planned_by v event task p.tasks p.global).ending ≡ Some e
      → (task < task_count) × (planned_by v event task p.tasks p.global ≡ tested event task p) × (e ≡ ending event task p)
      × ((outcome_by v event task p).pool
      ≡ swept (leaver_of event task) (advanced event task p) (planned_by v event task p.tasks p.global).tasks (planned_by v event task p.tasks p.global).global (orphaned_pool event task p))
  unfolding pool_after moved_pool orphaned_pool planned_after
  swept_by (Ok _) known s =
      by_test (is_tested event) (λ t. (known refl, rw t, what_ends event (advanced event task p) _ (rw t at s), rw t)) (λ t. absurd (cc (rw t at s)))
  swept_by (Err r) known s = absurd (cc s)

  pub swept_planned : {e : Ending} → (planned event task p.tasks p.global).ending ≡ Some e → Swept event task p (planned event task p.tasks p.global) e
  unfolding scheduled planned
  swept_planned s =
      let (known, plan, ends, left) = swept_by (verdict_at event task p.tasks) (known_task task _) s in
      record { known = known; plan = plan; ends = ends; left = left }

unended : (t : Passing) (e : ExpirationEntry) → is_ending t (due_of e) ≡ false → ended_entry t e ≡ e
unended t e n = rw n

-- what may end something is an event of a task that exists
pub ends_known : (event : Event) (task : ℕ) (tasks : List TaskEntry) (global : GlobalTime) {q : Planned} {e : Ending} → q ≡ planned event task tasks global → q.ending ≡ Some e → task < task_count
ends_known event task tasks global so s =
    (swept_planned event task (record { limits = standard; tasks = tasks; global = global; given = 0; shares = []; blocks = []; expirations = [] }) (rw so at s)).known

-- the blocks that are left where something ends, and where nothing does
pub blocks_left : (given : ℕ) (t : Passing) (xs : List ExpirationEntry) (blocks : List BlockEntry) → all_from 0 (is_fit_block given xs) blocks ≡ true
    → cond (any (λ (e : ExpirationEntry). is_ending t (due_of e)) xs) (map_from 0 (kept_block (map (ended_entry t) xs)) blocks) blocks
    ≡ map_from 0 (kept_block (map (ended_entry t) xs)) blocks
blocks_left given t xs blocks fit =
    by_test (any (λ (e : ExpirationEntry). is_ending t (due_of e)) xs)
    (λ some. rw some)
    (λ none.
    let same = map_same (ended_entry t) (λ e. e) xs (all_imp (unended t) xs (none→All _ xs none)) ∙ map-id xs in
    rw (none, same) (sym (none_freed given xs blocks fit)))
