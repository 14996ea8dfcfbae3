-- A global expiration outlives the ticks of its setter that it was set for: the setter's ticks still to come are always fewer than what is
-- left of it.
use Prim.Native.Nat.{ℕ, ◌+◌, ◌-◌, ◌≤◌}
use native.Mathlib.Omega.{arith}
use mathlib.Core.Bool.{Bool, true, false, true≢false, cond, not, ◌&&◌, ◌||◌, and-eq-true_iff}
use mathlib.Core.List.{List, [], ◌∷◌}
use mathlib.Core.Path.{◌≡◌, refl, sym, ap, ◌∙◌}
use borrow.Author.Tests.{lt-ltb, eq-eqb, not-false}
use lib.ListN.{get_or, get_or-map}
use Rattle.lists.specs.Tests.{any, all}
use Rattle.lists.proofs.All.{at_set}
use Rattle.lists.proofs.Cases.{by_test}
use Rattle.lists.proofs.Tests.{passes_at}
use Rattle.ledger.specs.Tasks.{Task, Clocks, task_at, absent_task, is_running, is_waiting, is_active, is_tested, moved, all_ticked, unticked, tasks_after, advances, clocks_after, entered, joined}
use Rattle.ledger.specs.Expirations.{Expiration, remaining, put_off, deserted, lasting}
use Rattle.ledger.specs.Objects.{Memory}
use Rattle.ledger.specs.Rules.{tests_of}
use Rattle.ledger.specs.Outlives.{happens, is_tick_of, is_leave_of}
use Rattle.ledger.specs.PutOff.{global_one}
use Rattle.ledger.specs.declared.Event.{Event}
use Rattle.ledger.specs.declared.Event.TheVariants.{Leave, Block, Resume, Tick, View}
use Rattle.ledger.specs.declared.Call.TheVariants.{Join, Schedule}
use Rattle.ledger.specs.declared.Share.{Share}
use Rattle.ledger.proofs.Passed.{Passed}
use Rattle.ledger.proofs.KeptTasks.{active, acting, absent_inactive}

-- 1 where the task is ticked
abbrev flag : Task → ℕ
flag t = cond t.ticked 1 0

-- The setter is active, and so many of its ticks are still to come before the expiration is due: with each advance a ticked flag is used
-- up, and with each flag a tick.
pub record Ahead (clocks : Clocks) (setter at ticks : ℕ) : Type 0 where
  pub active : is_active (task_at clocks setter).state ≡ true
  pub ahead : clocks.global + 1 + flag (task_at clocks setter) + ticks ≤ at

-- so it is when the expiration is set, whether the setter is ticked or not
pub set_ahead : (clocks : Clocks) (setter extension ticks : ℕ) → is_active (task_at clocks setter).state ≡ true → ticks ≤ extension
    → Ahead clocks setter (clocks.global + extension + 2) ticks
set_ahead clocks setter extension ticks there few =
    record { active = there; ahead = by_test (task_at clocks setter).ticked (λ e. rw e (omega arith)) (λ e. rw e (omega arith)) }

-- and it is kept by an advance: who runs then gives up the flag, and for who waits the expiration is put off
ahead_on : (advanced waits : Bool) (now at old new tick ticks : ℕ) → now + 1 + old + (tick + ticks) ≤ at → new ≤ old + tick
    → (advanced ≡ true → waits ≡ false → 1 ≤ new)
    → cond advanced (now + 1) now + 1 + cond advanced 0 new + ticks ≤ at + cond (advanced && waits) 1 0
ahead_on true true now at old new tick ticks h l f = omega arith
ahead_on true false now at old new tick ticks h l f = omega (arith, f refl refl)
ahead_on false waits now at old new tick ticks h l f = omega arith

-- the entry has ticked if it runs
abbrev pub is_done : Task → Bool
is_done t = not (is_running t.state) || t.ticked

flagged : (t : Task) → is_active t.state ≡ true → is_waiting t.state ≡ false → is_done t ≡ true → 1 ≤ flag t
flagged t a w e = let d : t.ticked ≡ true = rw (acting t.state a w) at e in rw d (omega arith)

pub all_ticked_lem : (ts : List Task) → all_ticked ts ≡ true → (task : ℕ) → is_done (get_or ts task absent_task) ≡ true
unfolding all_ticked
all_ticked_lem ts e task = passes_at is_done ts task absent_task ((and-eq-true_iff (any (λ (t : Task). is_running t.state) ts) (all is_done ts)).0 e).1 refl

module _ (m : Memory) (xs : List Expiration) (new : List ℕ) (task setter : ℕ) where
  -- the setter's entry before the event, after it, and after the advance
  abbrev before : Task
  before = task_at m.clocks setter

  abbrev moving : Event → Task
  moving event = get_or (tasks_after event task m.clocks) setter absent_task

  abbrev after : Event → Clocks
  after event = clocks_after event task m.clocks

  -- the event leaves the setter active, and sets its flag only by a tick
  abbrev Fine : Event → Task → Type 0
  Fine event t = (is_active t.state ≡ true) × (flag t ≤ flag before + cond (is_tick_of setter (happens event task)) 1 0)

  own : (event : Event) → Passed m xs (Schedule event task) new → is_leave_of setter (happens event task) ≡ false → setter ≡ task → is_active before.state ≡ true
      → Fine event (moved event (task_at m.clocks task))
  unfolding tests_of moved
  own Leave c stays e present = absurd (true≢false (sym (eq-eqb setter task e) ∙ stays))
  own Block c stays e present = (refl, omega arith)
  own Resume c stays e present = (refl, omega arith)
  own View (exists, (there, end)) stays e present = absurd (true≢false (sym present ∙ rw e (absent_inactive (task_at m.clocks task).state (not-false _ there))))
  own Tick (exists, (there, (waits, (acts, end)))) stays e present = (active (task_at m.clocks task).state there acts, rw (eq-eqb setter task e) (omega arith))

  fine : (event : Event) → Passed m xs (Schedule event task) new → is_leave_of setter (happens event task) ≡ false → is_active before.state ≡ true
      → Fine event (moving event)
  unfolding tasks_after
  fine event c stays present =
      at_set (Fine event) m.clocks.tasks task setter absent_task (λ e. own event c stays e present) (present, omega arith)

  -- its entry after the advance
  entry_after : (event : Event) → task_at (after event) setter ≡ cond (advances event task m.clocks) (unticked (moving event)) (moving event)
  unfolding clocks_after
  entry_after event = by_test (advances event task m.clocks) (λ e. rw e (get_or-map unticked (tasks_after event task m.clocks) setter absent_task)) (λ e. rw e)

  state_after : (event : Event) → (task_at (after event) setter).state ≡ (moving event).state
  state_after event = rw (entry_after event) (by_test (advances event task m.clocks) (λ e. rw e) (λ e. rw e))

  flag_after : (event : Event) → flag (task_at (after event) setter) ≡ cond (advances event task m.clocks) 0 (flag (moving event))
  flag_after event = rw (entry_after event) (by_test (advances event task m.clocks) (λ e. rw e) (λ e. rw e))

  global_after : (event : Event) → (after event).global ≡ cond (advances event task m.clocks) (m.clocks.global + 1) m.clocks.global
  unfolding clocks_after
  global_after event = refl

  -- at an advance it is ticked, unless it waits
  used : (event : Event) → is_active (moving event).state ≡ true → advances event task m.clocks ≡ true → is_waiting (moving event).state ≡ false
      → 1 ≤ flag (moving event)
  unfolding advances
  used event present e w =
      let ticked = ((and-eq-true_iff (is_tested event) (all_ticked (tasks_after event task m.clocks))).0 e).1 in
      flagged (moving event) present w (all_ticked_lem (tasks_after event task m.clocks) ticked setter)

  -- when the expiration is due after the event
  abbrev pub due_then : Event → ℕ → ℕ
  due_then event at = at + cond (advances event task m.clocks && is_waiting (task_at (after event) setter).state) 1 0

  pub kept_ahead : (event : Event) (at ticks : ℕ) → Passed m xs (Schedule event task) new → is_leave_of setter (happens event task) ≡ false
      → Ahead m.clocks setter at (cond (is_tick_of setter (happens event task)) 1 0 + ticks) → Ahead (after event) setter (due_then event at) ticks
  kept_ahead event at ticks c stays k =
      let (active, few) = fine event c stays k.active in
      record {
        active = rw (state_after event) active;
        ahead =
            rw (flag_after event, global_after event, state_after event)
            (ahead_on (advances event task m.clocks) (is_waiting (moving event).state) m.clocks.global at _ _ _ ticks k.ahead few (used event active));
      }

  -- who joins was absent, and so is another
  pub joined_ahead : (share : Share) (at ticks : ℕ) → Passed m xs (Join task share) new → Ahead m.clocks setter at ticks
      → Ahead (entered task joined m.clocks) setter at ticks
  unfolding tests_of entered
  joined_ahead share at ticks (exists, (absent, c)) k =
      let (present, ahead) =
      at_set (λ t. (is_active t.state ≡ true) × (m.clocks.global + 1 + flag t + ticks ≤ at)) m.clocks.tasks task setter absent_task
      (λ e. absurd (true≢false (sym k.active ∙ rw e (absent_inactive (task_at m.clocks task).state (not-false _ absent))))) (k.active, k.ahead) in
      record { active = present; ahead = ahead }

  -- so it is left, due then
  pub one_left : (event : Event) (handle at : ℕ) → is_leave_of setter (happens event task) ≡ false → 1 ≤ due_then event at - (after event).global
      → lasting event task (advances event task m.clocks) (after event) (global_one handle setter at ∷ []) ≡ global_one handle setter (due_then event at) ∷ []
  unfolding lasting put_off deserted remaining advances
  one_left Resume handle at stays h = ap (λ (n : ℕ). global_one handle setter n ∷ []) (omega arith)
  one_left View handle at stays h = ap (λ (n : ℕ). global_one handle setter n ∷ []) (omega arith)
  one_left Block handle at stays h = rw (lt-ltb 0 _ h)
  one_left Tick handle at stays h = rw (lt-ltb 0 _ h)
  one_left Leave handle at stays h = rw (stays, lt-ltb 0 _ h)
