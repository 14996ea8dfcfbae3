-- No call of a turn is refused but a make: a channel waits exactly while its poll is open, and keeps the object of it.
use Prim.Native.Nat.{ℕ, ◌+◌, ◌≤◌, ◌<◌}
use native.Mathlib.Omega.{arith}
use mathlib.Core.Bool.{true, false, true≢false, and-eq-true_iff}
use mathlib.Core.List.{List, [], ◌∷◌}
use mathlib.Core.Option.{Option, none, some, IsSome}
use mathlib.Core.Path.{◌≡◌, refl, sym, subst, ◌∙◌}
use borrow.Author.Tests.{lt-leb, le-ltb, eqb-true, eq-eqb, ne_eqb}
use lib.Dec.{eqb}
use Rattle.std.specs.Prelude.{Option as Maybe, Some, None}
use Rattle.lists.specs.Tests.{All}
use Rattle.lists.proofs.All.{all_imp, found}
use Rattle.lists.proofs.Cases.{by_test}
use Rattle.lists.proofs.Implied.{any_none}
use Rattle.ledger.specs.Limits.{task_count}
use Rattle.ledger.specs.Numbers.{is_refusal}
use Rattle.ledger.specs.Tasks.{task_at, moved}
use Rattle.ledger.specs.Expirations.{due_after, is_of, is_set_by, lasting}
use Rattle.ledger.specs.Objects.{Object, object_at, stands}
use Rattle.ledger.specs.Refusals.{verdict}
use Rattle.ledger.specs.Rules.{reply_to, expirations_after, tests_of}
use Rattle.ledger.specs.Ledger.{Ledger, Sent, reply_by, verdict_on, reply, next, replies, after_all}
use Rattle.ledger.specs.Kept.{Kept}
use Rattle.ledger.specs.Rows.{send, resume, tick, block, write}
use Rattle.ledger.specs.Plans.{is_due, has_reply, is_over, turn_of, made_by, opened_by, opened, closing, turn_calls, track_after}
use Rattle.ledger.specs.PlansClaim.{not_make, some_refused}
use Rattle.ledger.specs.declared.Answer.{Answer}
use Rattle.ledger.specs.declared.Answer.TheVariants.{Refused, Done, Advanced, Handle, Bytes, Counted, Lasts}
use Rattle.ledger.specs.declared.State.TheVariants.{Running, Waiting}
use Rattle.ledger.specs.declared.Event.{Event}
use Rattle.ledger.specs.declared.Event.TheVariants.{Block, Resume, Tick}
use Rattle.ledger.specs.declared.Call.{Call}
use Rattle.ledger.specs.declared.Call.TheVariants.{Schedule, Write}
use Rattle.ledger.specs.declared.Refusal.{Refusal}
use Rattle.ledger.specs.declared.Request.TheVariants.{Use}
use Rattle.ledger.specs.declared.plans.Channel.{Channel}
use Rattle.ledger.specs.declared.plans.Poll.{Poll}
use Rattle.ledger.specs.declared.plans.Track.{Track}
use Rattle.ledger.specs.declared.plans.Turn.{Turn}
use Rattle.ledger.specs.declared.plans.Turn.TheVariants.{Rests, Begins, Replied, Quits}
use Rattle.ledger.proofs.Demand3.{intact_at}
use Rattle.ledger.proofs.Kept.{kept_request, owned_by}
use Rattle.ledger.proofs.KeptExpirations.{is_listed}
use Rattle.ledger.proofs.KeptPins.{eqb_swap}
use Rattle.ledger.proofs.Passed.{refusal_in, refusal_told}
use Rattle.ledger.proofs.PlanHeld.{Keeps, state_at, is_held_by, holds, PollKept, Untouched, untouched_then, own_clock, event_held, event_next, others_untouched, make_untouched, write_untouched}

-- a task that runs may block and tick, one that waits may resume
may_block : (L : Ledger) (task : ℕ) → task < task_count → state_at L task ≡ Running → verdict_on L (Schedule Block task) [] ≡ none
unfolding verdict tests_of
may_block L task l e = rw (lt-leb task_count task l, e)

may_tick : (L : Ledger) (task : ℕ) → task < task_count → state_at L task ≡ Running → verdict_on L (Schedule Tick task) [] ≡ none
unfolding verdict tests_of
may_tick L task l e = rw (lt-leb task_count task l, e)

may_resume : (L : Ledger) (task : ℕ) → task < task_count → state_at L task ≡ Waiting → verdict_on L (Schedule Resume task) [] ≡ none
unfolding verdict tests_of
may_resume L task l e = rw (lt-leb task_count task l, e)

-- what an object that stands has
at_listed : (P : Object → Type 0) (handle : ℕ) (os : List Object) → is_listed handle os ≡ true → All P os → P (object_at handle os)
unfolding object_at
at_listed P handle [] e h = absurd (true≢false (sym e))
at_listed P handle (o ∷ os) e (h, hs) =
    by_test (eqb o.handle handle) (λ d. rw d h)
    (λ d. rw d (at_listed P handle os (rw (eqb_swap handle o.handle, d) at e) hs))

-- and a task that runs may write a byte at the start of an object that it holds
may_write : (L : Ledger) → Kept L → (task handle : ℕ) → task < task_count → state_at L task ≡ Running → holds L task handle ≡ true
    → verdict_on L (Write task handle 0) (1 ∷ []) ≡ none
unfolding verdict tests_of
may_write L k task handle l e h =
    let m = L.memory in
    let xs = L.expirations in
    let here : stands xs handle ≡ true =
    by_test (stands xs handle) (λ d. d)
    (λ d. absurd (true≢false (sym h ∙ any_none (is_held_by task handle) (is_of handle) (λ x p. ((and-eq-true_iff (is_of handle x)
    (is_set_by task x.due)).0 p).0) xs d))) in
    let listed = owned_by m xs k handle here in
    let (first, last) = found {C = (1 ≤ handle) × (handle ≤ m.given)} (λ (o : Object). eqb handle o.handle)
    (λ o d n. rw (eqb-true handle o.handle d) n.numbered) m.objects listed k.objects.each in
    let sized = at_listed (λ (o : Object). 1 ≤ o.size) handle m.objects listed (all_imp (λ o n. n.sized.0) m.objects
    k.objects.each) in
    rw (
      lt-leb task_count task l,
      e,
      ne_eqb handle 0 (λ q. omega (arith, q, first)),
      le-ltb m.given handle last,
      here,
      intact_at handle m.objects (all_imp (λ o n. n.intact) m.objects k.objects.each),
      le-ltb (object_at handle m.objects).size 1 sized,
    )

-- a call that passes its tests is not refused
no_refusal : (answer : Answer) → refusal_in answer ≡ none → is_refusal answer ≡ false
no_refusal (Refused r) e = absurd (subst IsSome e tt)
no_refusal Done e = refl
no_refusal (Advanced b) e = refl
no_refusal (Handle h) e = refl
no_refusal Bytes e = refl
no_refusal (Counted u) e = refl
no_refusal (Lasts life) e = refl

taken : (L : Ledger) (call : Call) (new : List ℕ) → verdict_on L call new ≡ none → is_refusal (reply L call new).answer ≡ false
unfolding reply
taken L call new e = no_refusal (reply L call new).answer (refusal_told (verdict_on L call new) call L.memory ∙ e)

-- none of these calls is refused, makes left aside
abbrev pub Passes : Ledger → List Sent → Type 0
Passes L ss = some_refused not_make ss (replies L ss) ≡ false

-- a call of any list that passes, and those after it
pub first_passes : (L : Ledger) (call : Call) (new : List ℕ) (ss : List Sent) → verdict_on L call new ≡ none → Passes (next L call new) ss
    → Passes L (send call new ∷ ss)
unfolding some_refused replies
first_passes L call new ss e h = by_test (not_make (Use call)) (λ d. rw (d, taken L call new e) h) (λ d. rw d h)

make_passes : (L : Ledger) (c : Channel) (task : ℕ) (ss : List Sent) → Passes (next L (made_by c task) []) ss
    → Passes L (send (made_by c task) [] ∷ ss)
unfolding some_refused replies
make_passes L c task ss h = h

pub none_passes : (L : Ledger) → Passes L []
unfolding some_refused
none_passes L = refl

-- the state of a task after its own event
own_state : (L : Ledger) → Kept L → (event : Event) (task : ℕ) → task < task_count → verdict_on L (Schedule event task) [] ≡ none
    → state_at (next L (Schedule event task) []) task ≡ (moved event (task_at L.memory.clocks task)).state
own_state L k event task l e = rw (event_next L event task e).0 (own_clock event task L.memory.clocks (rw k.clocks.sixteen l)).0

pub record Carried (L : Ledger) (task : ℕ) (poll : Maybe Poll) (ss : List Sent) : Type 0 where
  pub passes : Passes L ss
  pub kept : PollKept (after_all L ss) task poll

module _ (L : Ledger) (k : Kept L) (task : ℕ) (l : task < task_count) where
  after_tick : state_at L task ≡ Running → Carried L task None (tick task ∷ [])
  unfolding after_all moved
  after_tick e =
      let may = may_tick L task l e in
      record {
        passes = first_passes L (Schedule Tick task) [] [] may (none_passes _);
        kept = own_state L k Tick task l may ∙ e;
      }

  after_block : (step handle : ℕ) → state_at L task ≡ Running → holds L task handle ≡ true
      → Carried L task (Some (record { begun = step; handle = handle })) (block task ∷ [])
  unfolding after_all moved
  after_block step handle e h =
      let may = may_block L task l e in
      record {
        passes = first_passes L (Schedule Block task) [] [] may (none_passes _);
        kept = (
          own_state L k Block task l may,
          rw (event_next L Block task may).1
              (event_held L k Block task task handle tt
              (own_clock Block task L.memory.clocks (rw k.clocks.sixteen l)).1 h),
        );
      }

-- calls one after the other
then : (L : Ledger) (task : ℕ) (poll : Maybe Poll) (call : Call) (new : List ℕ) (ss : List Sent) → verdict_on L call new ≡ none
    → Carried (next L call new) task poll ss → Carried L task poll (send call new ∷ ss)
unfolding after_all
then L task poll call new ss e c = record { passes = first_passes L call new ss e c.passes; kept = c.kept }

-- what the state of a channel has to be for what it does
abbrev Fits : Ledger → ℕ → Maybe Poll → Turn → Type 0
Fits L task poll Begins = state_at L task ≡ Running
Fits L task poll (Replied handle) = (state_at L task ≡ Waiting) × (holds L task handle ≡ true)
Fits L task poll Quits = state_at L task ≡ Waiting
Fits L task poll Rests = PollKept L task poll

pub fits : (L : Ledger) (step task : ℕ) (c : Channel) (poll : Maybe Poll) → PollKept L task poll → Fits L task poll (turn_of c step poll)
unfolding turn_of
fits L step task c None k = by_test (is_due c step) (λ e. rw e k) (λ e. rw e k)
fits L step task c (Some poll) k =
    by_test (has_reply c step poll.begun)
    (λ e. rw e k)
    (λ e. by_test (is_over c step poll.begun) (λ d. rw (e, d) k.0) (λ d. rw (e, d) k))

-- a task holds the object that it made
new_held : (L : Ledger) (c : Channel) (task : ℕ) → verdict_on L (made_by c task) [] ≡ none
    → holds (next L (made_by c task) []) task (L.memory.given + 1) ≡ true
unfolding next expirations_after due_after
new_held L c task e = rw (e, eq-eqb (L.memory.given + 1) (L.memory.given + 1) refl, eq-eqb task task refl)

-- and what it held when it resumes
resumed_held : (L : Ledger) (task handle : ℕ) → verdict_on L (Schedule Resume task) [] ≡ none → holds L task handle ≡ true
    → holds (next L (Schedule Resume task) []) task handle ≡ true
unfolding expirations_after lasting
resumed_held L task handle may h = rw (event_next L Resume task may).1 h

-- it is one of the sixteen, and its turn leaves it as it should be
module _ (L : Ledger) (k : Kept L) (task : ℕ) (l : task < task_count) where
  begun : (step : ℕ) (c : Channel) → state_at L task ≡ Running
      → let poll = opened L step task c in
      Carried L task poll (send (made_by c task) [] ∷ send (Schedule (closing poll) task) [] ∷ [])
  unfolding reply reply_to after_all
  begun step c e = by (verdict_on L (made_by c task) []) refl
    where
      M : Ledger
      M = next L (made_by c task) []

      k_m : Kept M
      k_m = kept_request L k (Use (made_by c task)) []

      runs : state_at M task ≡ Running
      runs = (make_untouched L c task task).state ∙ e

      with_answer : (poll : Maybe Poll) (ss : List Sent) → Carried M task poll ss → Carried L task poll (send (made_by c task) [] ∷ ss)
      with_answer poll ss h = record { passes = make_passes L c task ss h.passes; kept = h.kept }

      by : (v : Option Refusal) → verdict_on L (made_by c task) [] ≡ v
          → let poll = opened_by step (reply_by v (reply_to (made_by c task) L.memory)).answer in
          Carried L task poll (send (made_by c task) [] ∷ send (Schedule (closing poll) task) [] ∷ [])
      by none d = with_answer _ _ (after_block M k_m task l step (L.memory.given + 1) runs (new_held L c task d))
      by (some r) d = with_answer _ _ (after_tick M k_m task l runs)

  own_running : verdict_on L (Schedule Resume task) [] ≡ none → state_at (next L (Schedule Resume task) []) task ≡ Running
  unfolding moved
  own_running may = own_state L k Resume task l may

  nothing_done : (poll : Maybe Poll) → PollKept L task poll → Carried L task poll []
  unfolding after_all
  nothing_done poll h = record { passes = none_passes L; kept = h }

  replied : (handle : ℕ) → state_at L task ≡ Waiting → holds L task handle ≡ true
      → Carried L task None (resume task ∷ write task handle 0 (1 ∷ []) ∷ tick task ∷ [])
  replied handle e h =
      let may = may_resume L task l e in
      let M = next L (Schedule Resume task) [] in
      let k_m = kept_request L k (Use (Schedule Resume task)) [] in
      let runs : state_at M task ≡ Running = own_running may in
      let held : holds M task handle ≡ true = resumed_held L task handle may h in
      let writes = may_write M k_m task handle l runs held in
      let N = next M (Write task handle 0) (1 ∷ []) in
      let kN = kept_request M k_m (Use (Write task handle 0)) (1 ∷ []) in
      then L task None (Schedule Resume task) [] (write task handle 0 (1 ∷ []) ∷ tick task ∷ []) may
      (then M task None (Write task handle 0) (1 ∷ []) (tick task ∷ []) writes
      (after_tick N kN task l ((write_untouched M task handle 0 (1 ∷ []) task).state ∙ runs)))

  given_up : state_at L task ≡ Waiting → Carried L task None (resume task ∷ tick task ∷ [])
  given_up e =
      let may = may_resume L task l e in
      let M = next L (Schedule Resume task) [] in
      let k_m = kept_request L k (Use (Schedule Resume task)) [] in
      then L task None (Schedule Resume task) [] (tick task ∷ []) may (after_tick M k_m task l (own_running may))

  pub turned : (step : ℕ) (t : Track) (w : Turn) → Fits L task t.poll w
      → let poll = opened L step task t.channel in
      Carried L task (track_after poll t w).poll (turn_calls poll task t.channel w)
  unfolding track_after turn_calls
  turned step t Begins h = begun step t.channel h
  turned step t (Replied handle) (e, h) = replied handle e h
  turned step t Quits h = given_up h
  turned step t Rests h = nothing_done t.poll h

-- and all others as they are
module _ (task other : ℕ) (ne : other ≡ task → ⊥) where
  unmoved : (L : Ledger) → Kept L → (event : Event) → Keeps event → (ss : List Sent)
      → Untouched (next L (Schedule event task) []) (after_all (next L (Schedule event task) []) ss) other
      → Untouched L (after_all L (send (Schedule event task) [] ∷ ss)) other
  unfolding after_all
  unmoved L k event keeps ss u = untouched_then L (next L (Schedule event task) []) _ other
      (others_untouched L k event task other keeps ne) u

  pub at_end : (L : Ledger) → Untouched L (after_all L []) other
  unfolding after_all
  at_end L = record { state = refl; held = λ handle h. h }

  begin_untouched : (L : Ledger) → Kept L → (c : Channel) (poll : Maybe Poll)
      → Untouched L (after_all L (send (made_by c task) [] ∷ send (Schedule (closing poll) task) [] ∷ [])) other
  unfolding after_all
  begin_untouched L k c poll =
      let M = next L (made_by c task) [] in
      untouched_then L M _ other (make_untouched L c task other) (by poll M (kept_request L k (Use (made_by c task)) []))
    where
      by : (poll : Maybe Poll) (M : Ledger) → Kept M → Untouched M (after_all M (send (Schedule (closing poll) task) [] ∷ [])) other
      by None M k_m = unmoved M k_m Tick tt [] (at_end _)
      by (Some poll) M k_m = unmoved M k_m Block tt [] (at_end _)

  tick_untouched : (L : Ledger) → Kept L → Untouched L (after_all L (tick task ∷ [])) other
  tick_untouched L k = unmoved L k Tick tt [] (at_end _)

  write_then : (L : Ledger) → Kept L → (handle : ℕ) → Untouched L (after_all L (write task handle 0 (1 ∷ []) ∷ tick task ∷ [])) other
  unfolding after_all
  write_then L k handle =
      let M = next L (Write task handle 0) (1 ∷ []) in
      untouched_then L M _ other (write_untouched L task handle 0 (1 ∷ []) other)
      (tick_untouched M (kept_request L k (Use (Write task handle 0)) (1 ∷ [])))

  pub turn_untouched : (L : Ledger) → Kept L → (poll : Maybe Poll) (c : Channel) (w : Turn)
      → Untouched L (after_all L (turn_calls poll task c w)) other
  unfolding turn_calls
  turn_untouched L k poll c Begins = begin_untouched L k c poll
  turn_untouched L k poll c (Replied handle) =
      unmoved L k Resume tt _ (write_then _ (kept_request L k (Use (Schedule Resume task)) []) handle)
  turn_untouched L k poll c Quits =
      unmoved L k Resume tt _ (tick_untouched _ (kept_request L k (Use (Schedule Resume task)) []))
  turn_untouched L k poll c Rests = at_end L
