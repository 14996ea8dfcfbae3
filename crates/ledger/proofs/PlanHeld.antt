-- What a channel has, its state and the object of its poll, is not touched by the calls of others: a local expiration stays while the clock
-- of its setter stands.
use Prim.Native.Nat.{ℕ, ◌+◌, ◌<◌}
use mathlib.Core.Bool.{Bool, true, false, true≢false, ◌&&◌, and-eq-true_iff}
use mathlib.Core.List.{List, [], ◌∷◌}
use mathlib.Core.Option.{Option, none, some}
use mathlib.Core.Path.{◌≡◌, refl, sym, ◌∙◌}
use borrow.Author.Tests.{eqb-true}
use lib.Dec.{eqb}
use lib.ListN.{length, get_or, get_or-map}
use lib.Seq.{get_or-set_same}
use Rattle.std.specs.Prelude.{Option as Maybe, Some, None}
use Rattle.lists.specs.Tests.{any, All}
use Rattle.lists.proofs.All.{all_imp, at_set}
use Rattle.lists.proofs.Cases.{by_test, or_right}
use Rattle.ledger.specs.Tasks.{Clocks, task_at, absent_task, moved, unticked, clocks_after}
use Rattle.ledger.specs.Expirations.{DueTime, by_local, by_global, pinned, Expiration, due_after, remaining, is_live, is_of, is_set_by, put_off, still_live, lasting}
use Rattle.ledger.specs.Rules.{memory_after, expirations_after}
use Rattle.ledger.specs.Ledger.{Ledger, settled, after_by, verdict_on, next}
use Rattle.ledger.specs.Kept.{Kept}
use Rattle.ledger.specs.Plans.{made_by}
use Rattle.ledger.specs.declared.State.{State}
use Rattle.ledger.specs.declared.State.TheVariants.{Running, Waiting}
use Rattle.ledger.specs.declared.Event.{Event}
use Rattle.ledger.specs.declared.Event.TheVariants.{Leave, Block, Resume, Tick, View}
use Rattle.ledger.specs.declared.Kind.TheVariants.{Local}
use Rattle.ledger.specs.declared.Call.{Call}
use Rattle.ledger.specs.declared.Call.TheVariants.{Schedule, Write}
use Rattle.ledger.specs.declared.Refusal.{Refusal}
use Rattle.ledger.specs.declared.plans.Channel.{Channel}
use Rattle.ledger.specs.declared.plans.Poll.{Poll}
use Rattle.ledger.proofs.KeptTasks.{tasks_after_lem}

abbrev pub state_at : Ledger → ℕ → State
state_at L task = (task_at L.memory.clocks task).state

-- the expiration is a local one that this task set on this object
abbrev pub is_held_by : ℕ → ℕ → Expiration → Bool
is_held_by task handle x = is_of handle x && is_set_by task x.due

abbrev pub holds : Ledger → ℕ → ℕ → Bool
holds L task handle = any (is_held_by task handle) L.expirations

-- a channel with no poll open runs; one with a poll open waits, and its object has a local expiration of its own
abbrev pub PollKept : Ledger → ℕ → Maybe Poll → Type 0
PollKept L task None = state_at L task ≡ Running
PollKept L task (Some poll) = (state_at L task ≡ Waiting) × (holds L task poll.handle ≡ true)

-- what is left of a channel by calls of others
pub record Untouched (L M : Ledger) (task : ℕ) : Type 0 where
  pub state : state_at M task ≡ state_at L task
  pub held : (handle : ℕ) → holds L task handle ≡ true → holds M task handle ≡ true

pub poll_untouched : (L M : Ledger) (task : ℕ) → Untouched L M task → (poll : Maybe Poll) → PollKept L task poll → PollKept M task poll
poll_untouched L M task u None e = u.state ∙ e
poll_untouched L M task u (Some poll) (e, h) = (u.state ∙ e, u.held poll.handle h)

pub untouched_then : (L M N : Ledger) (task : ℕ) → Untouched L M task → Untouched M N task → Untouched L N task
untouched_then L M N task u v = record { state = v.state ∙ u.state; held = λ h e. v.held h (u.held h e) }

-- the clock and the state of a task that an event is not of
pub others_clock : (event : Event) (task other : ℕ) (clocks : Clocks) → (other ≡ task → ⊥)
    → ((task_at (clocks_after event task clocks) other).state ≡ (task_at clocks other).state)
    × ((task_at (clocks_after event task clocks) other).clock ≡ (task_at clocks other).clock)
others_clock event task other clocks ne =
    tasks_after_lem
    (λ ts. ((get_or ts other absent_task).state ≡ (task_at clocks other).state) × ((get_or ts other absent_task).clock ≡ (task_at clocks other
    ).clock))
    (λ ts h. rw (get_or-map unticked ts other absent_task) h) event task clocks
    (at_set (λ t. (t.state ≡ (task_at clocks other).state) × (t.clock ≡ (task_at clocks other).clock)) clocks.tasks task other absent_task
    (λ e. absurd (ne e)) (refl, refl))

-- and of the one that it is of
pub own_clock : (event : Event) (task : ℕ) (clocks : Clocks) → task < length clocks.tasks
    → ((task_at (clocks_after event task clocks) task).state ≡ (moved event (task_at clocks task)).state)
    × ((task_at (clocks_after event task clocks) task).clock ≡ (moved event (task_at clocks task)).clock)
own_clock event task clocks l =
    tasks_after_lem
    (λ ts. ((get_or ts task absent_task).state ≡ (moved event (task_at clocks task)).state) ×
    ((get_or ts task absent_task).clock ≡ (moved event (task_at clocks task)).clock))
    (λ ts h. rw (get_or-map unticked ts task absent_task) h) event task clocks
    (rw (get_or-set_same clocks.tasks task (moved event (task_at clocks task)) absent_task l) (refl, refl))

-- a local expiration whose setter's clock stands is not due where it was not before
one_held : (task handle : ℕ) (advanced : Bool) (before after : Clocks) → (task_at after task).clock ≡ (task_at before task).clock
    → (of : ℕ) (due : DueTime) → is_live before (record { handle = of; due = due }) ≡ true
    → is_held_by task handle (record { handle = of; due = due }) ≡ true
    → (is_held_by task handle (record { handle = of; due = put_off advanced after due }) ≡ true)
    × (is_live after (record { handle = of; due = put_off advanced after due }) ≡ true)
unfolding put_off remaining
one_held task handle advanced before after same of (by_local setter at) live h =
    let set_by : setter ≡ task = eqb-true setter task ((and-eq-true_iff (eqb of handle) (eqb setter task)).0 h).1 in
    (h, rw (set_by, same) (rw set_by at live))
one_held task handle advanced before after same of (by_global setter at) live h =
    absurd (true≢false (sym ((and-eq-true_iff (eqb of handle) false).0 h).1))
one_held task handle advanced before after same of pinned live h =
    absurd (true≢false (sym ((and-eq-true_iff (eqb of handle) false).0 h).1))

still_held : (task handle : ℕ) (advanced : Bool) (before after : Clocks) → (task_at after task).clock ≡ (task_at before task).clock
    → (xs : List Expiration) → All (λ (x : Expiration). is_live before x ≡ true) xs → any (is_held_by task handle) xs ≡ true
    → any (is_held_by task handle) (still_live advanced after xs) ≡ true
still_held task handle advanced before after same [] k e = e
still_held task handle advanced before after same (x ∷ xs) (live, k) e =
    let y : Expiration = record { handle = x.handle; due = put_off advanced after x.due } in
    by_test (is_held_by task handle x)
    (λ d.
    let (held, lives) = one_held task handle advanced before after same x.handle x.due live d in
    rw (lives, held))
    (λ d.
    let rest = still_held task handle advanced before after same xs k (rw d at e) in
    by_test (is_live after y) (λ l. rw l (or_right (is_held_by task handle y) rest)) (λ l. rw l rest))

-- any event but a leave
abbrev pub Keeps : Event → Type 0
Keeps Leave = ⊥
Keeps Block = Unit
Keeps Resume = Unit
Keeps Tick = Unit
Keeps View = Unit

-- a block, resume or tick leaves what a task holds whose clock it does not move
pub event_held : (L : Ledger) → Kept L → (event : Event) (task other handle : ℕ) → Keeps event
    → (task_at (clocks_after event task L.memory.clocks) other).clock ≡ (task_at L.memory.clocks other).clock
    → holds L other handle ≡ true
    → any (is_held_by other handle) (expirations_after (Schedule event task) [] L.memory L.expirations) ≡ true
unfolding expirations_after lasting
event_held L k Leave task other handle keeps same h = absurd keeps
event_held L k View task other handle keeps same h = h
event_held L k Resume task other handle keeps same h = h
event_held L k Block task other handle keeps same h =
    still_held other handle _ L.memory.clocks _ same L.expirations (all_imp (λ x e. e.ahead) L.expirations
    k.expirations.each) h
event_held L k Tick task other handle keeps same h =
    still_held other handle _ L.memory.clocks _ same L.expirations (all_imp (λ x e. e.ahead) L.expirations
    k.expirations.each) h

-- an event that is carried out
pub event_next : (L : Ledger) (event : Event) (task : ℕ) → verdict_on L (Schedule event task) [] ≡ none
    → ((next L (Schedule event task) []).memory.clocks ≡ clocks_after event task L.memory.clocks)
    × ((next L (Schedule event task) []).expirations ≡ expirations_after (Schedule event task) [] L.memory L.expirations)
unfolding next memory_after
event_next L event task e = rw e (refl, refl)

event_refused : (L : Ledger) (event : Event) (task : ℕ) (r : Refusal) → verdict_on L (Schedule event task) [] ≡ some r
    → next L (Schedule event task) [] ≡ L
unfolding next
event_refused L event task r e = rw e

pub others_untouched : (L : Ledger) → Kept L → (event : Event) (task other : ℕ) → Keeps event → (other ≡ task → ⊥)
    → Untouched L (next L (Schedule event task) []) other
others_untouched L k event task other keeps ne = by (verdict_on L (Schedule event task) []) refl
  where
    by : (v : Option Refusal) → verdict_on L (Schedule event task) [] ≡ v → Untouched L (next L (Schedule event task) []) other
    by none e =
        let (state, clock) = others_clock event task other L.memory.clocks ne in
        record {
          state = rw (event_next L event task e).0 state;
          held = λ handle h. rw (event_next L event task e).1 (event_held L k event task other handle keeps clock h);
        }
    by (some r) e = rw (event_refused L event task r e) (record { state = refl; held = λ handle h. h })

-- a make or a write touches no task
pub make_untouched : (L : Ledger) (c : Channel) (task other : ℕ) → Untouched L (next L (made_by c task) []) other
unfolding next memory_after expirations_after
make_untouched L c task other = by (verdict_on L (made_by c task) [])
  where
    by : (v : Option Refusal)
        → Untouched L (after_by v (settled (memory_after (made_by c task) [] L.memory)
        (expirations_after (made_by c task) [] L.memory L.expirations)) L) other
    by none = record {
      state = refl;
      held = λ handle h.
          or_right (is_held_by other handle (record {
            handle = L.memory.given + 1;
            due = due_after L.memory.clocks task Local
                c.extension;
          })) h;
    }
    by (some r) = record { state = refl; held = λ handle h. h }

pub write_untouched : (L : Ledger) (task handle offset : ℕ) (new : List ℕ) (other : ℕ)
    → Untouched L (next L (Write task handle offset) new) other
unfolding next memory_after expirations_after
write_untouched L task handle offset new other = by (verdict_on L (Write task handle offset) new)
  where
    call : Call
    call = Write task handle offset

    by : (v : Option Refusal)
        → Untouched L (after_by v (settled (memory_after call new L.memory) (expirations_after call new L.memory L.expirations))
        L) other
    by none = record { state = refl; held = λ handle h. h }
    by (some r) = record { state = refl; held = λ handle h. h }
