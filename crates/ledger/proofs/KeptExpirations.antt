-- The expirations stay as `ExpirationsKept` says when clocks move, when one is set, and when the objects change.
use Prim.Native.Nat.{ℕ, ◌+◌, ◌-◌, ◌≤◌, ◌<◌}
use native.Mathlib.Nat.{le_trans}
use native.Mathlib.Omega.{arith}
use mathlib.Core.Bool.{Bool, true, false, true≢false, cond, not, ◌&&◌, ◌||◌, or-true}
use mathlib.Core.List.{List, [], ◌∷◌}
use mathlib.Core.Path.{◌≡◌, refl, sym, ap, ◌∙◌}
use borrow.Author.Tests.{lt-ltb, ltb-false, leb-false, eqb-true, eqb-false, eq-eqb, not-true, not-false}
use lib.Dec.{eqb, ltb}
use lib.ListN.{length, get_or, get_or-map, length-map}
use Rattle.lists.specs.Tests.{any, filter, All}
use Rattle.lists.proofs.Cases.{by_test}
use Rattle.lists.proofs.All.{all_imp, all_both, all_filter, all_any, all_map, at_set}
use Rattle.lists.proofs.Counts.{any_left, length_filter}
use Rattle.ledger.specs.Limits.{task_count}
use Rattle.ledger.specs.Tasks.{Task, Clocks, task_at, absent_task, is_absent, is_waiting, is_tested, moved, unticked, tasks_after, advances, clocks_after, entered, joined}
use Rattle.ledger.specs.Expirations.{DueTime, by_local, by_global, pinned, departed, Expiration, due_after, remaining, is_pinned, is_live, is_set_by, is_of, is_pin_of, put_off, deserted, each_due, still_live, lasting, released, set_on_each}
use Rattle.ledger.specs.Objects.{Object, Memory, stands, standing}
use Rattle.ledger.specs.Refusals.{most_extension}
use Rattle.ledger.specs.Rules.{tests_of}
use Rattle.ledger.specs.Kept.{Within, is_owned, ExpirationKept, ExpirationsKept}
use Rattle.ledger.specs.declared.Kind.{Kind}
use Rattle.ledger.specs.declared.Kind.TheVariants.{Local, Global, Pinned}
use Rattle.ledger.specs.declared.Event.{Event}
use Rattle.ledger.specs.declared.Event.TheVariants.{Leave, Block, Resume, Tick, View}
use Rattle.ledger.specs.declared.Share.{Share}
use Rattle.ledger.specs.declared.Call.TheVariants.{Join, Schedule}
use Rattle.ledger.specs.declared.Limits.{Limits}
use Rattle.ledger.proofs.Passed.{Passed}
use Rattle.ledger.proofs.KeptTasks.{tasks_after_lem}

-- a local expiration is within bounds by its setter's entry
abbrev LocalWithin : Limits → Task → ℕ → Type 0
LocalWithin limits setter at = (at - setter.clock ≤ limits.extension + 1) × (is_absent setter.state ≡ false)

-- no advance leaves more units, whether it puts off or not
put_within : (advanced waits : Bool) (at now most : ℕ) → at - now ≤ most → at + cond (advanced && waits) 1 0 - cond advanced (now + 1) now ≤ most
put_within true true at now most h = omega (arith, h)
put_within true false at now most h = omega (arith, h)
put_within false waits at now most h = omega (arith, h)

-- it is not due yet
abbrev is_ahead : Clocks → DueTime → Bool
is_ahead clocks due = is_pinned due || ltb 0 (remaining clocks due)

-- who set it: of a pinned one nobody is asked
abbrev setter_of : DueTime → ℕ
setter_of (by_local setter at) = setter
setter_of (by_global setter at) = setter
setter_of pinned = departed

module _ (m : Memory) (xs : List Expiration) (new : List ℕ) (task : ℕ) where
  -- the task before the event, and the clocks after it
  abbrev before : Task
  before = task_at m.clocks task

  abbrev after : Event → Clocks
  after event = clocks_after event task m.clocks

  -- what is kept of an expiration after the event
  abbrev Lasts : Event → Expiration → Type 0
  Lasts event = ExpirationKept m.limits (after event) m.objects

  -- whether the event advances the global time, and what that makes of a due
  abbrev put : Event → DueTime → DueTime
  put event = put_off (advances event task m.clocks) (after event)

  -- the event leaves an expiration that its own task set within bounds
  abbrev Spares : Event → DueTime → Type 0
  Spares event due = setter_of due ≡ task → (at : ℕ) → LocalWithin m.limits before at → LocalWithin m.limits (moved event before) at

  -- then it leaves the setter of any there, who is no departed one
  there_after : (event : Event) (setter : ℕ) → (setter ≡ task → (at : ℕ) → LocalWithin m.limits before at → LocalWithin m.limits (moved event before) at)
      → not (is_absent (task_at m.clocks setter).state) ≡ true → not (is_absent (task_at (after event) setter).state) ≡ true
  unfolding clocks_after
  there_after event setter f h =
      tasks_after_lem (λ ts. not (is_absent (get_or ts setter absent_task).state) ≡ true) (λ ts h. rw (get_or-map unticked ts setter absent_task) h)
      event task m.clocks
      (at_set (λ t. not (is_absent t.state) ≡ true) m.clocks.tasks task setter absent_task
      (λ e. rw (f e 0 (omega arith, not-true _ (rw e at h))).1) h)

  -- and all within bounds: no clock goes back
  within_after : (event : Event) (due : DueTime) → Spares event due → Within m.limits m.clocks due → Within m.limits (after event) (put event due)
  unfolding clocks_after remaining put_off
  within_after event (by_local setter at) f h =
      tasks_after_lem (λ ts. LocalWithin m.limits (get_or ts setter absent_task) at) (λ ts h. rw (get_or-map unticked ts setter absent_task) h)
      event task m.clocks
      (at_set (λ t. LocalWithin m.limits t at) m.clocks.tasks task setter absent_task (λ e. f e at (rw e at h)) h)
  within_after event (by_global setter at) f (most, there) = (
    put_within (advances event task m.clocks) (is_waiting (task_at (after event) setter).state) at m.clocks.global _ most,
    by_test (eqb setter departed) (λ d. rw d) (λ d. rw d (there_after event setter f (rw d at there))),
  )
  within_after event pinned f h = tt

  -- an expiration that is still ahead after the event
  lasts : (event : Event) (x : Expiration) → Spares event x.due → ExpirationKept m.limits m.clocks m.objects x
      → is_ahead (after event) (put event x.due) ≡ true → Lasts event (record { handle = x.handle; due = put event x.due })
  lasts event x f k h = record { owned = k.owned; ahead = h; within = within_after event x.due f k.within }

  -- an event with an advance test leaves only those
  live : (event : Event) (ys : List Expiration) → length ys ≤ m.limits.expirations
      → All (λ (x : Expiration). is_ahead (after event) (put event x.due) ≡ true → Lasts event (record { handle = x.handle; due = put event x.due })) ys
      → ExpirationsKept m.limits (after event) m.objects (still_live (advances event task m.clocks) (after event) ys)
  live event ys r ks =
      let zs = each_due (put event) ys in
      record {
        each =
            all_filter {P = λ (x : Expiration). is_live (after event) x ≡ true → Lasts event x} (is_live (after event)) (λ x e k. k e) zs
            (all_map _ _ ys ks);
        room = le_trans (length_filter _ zs) (rw (length-map ys _) r);
      }

  -- one without moves no clock by which an expiration is due, so all are still ahead
  abbrev Still : Event → Type 0
  Still event =
      (at : ℕ) → LocalWithin m.limits before at → ((moved event before).clock ≡ before.clock) × (is_absent (moved event before).state ≡ false)

  ahead_still : (event : Event) → is_tested event ≡ false → Still event → (due : DueTime) → Within m.limits m.clocks due
      → is_ahead m.clocks due ≡ true → is_ahead (after event) due ≡ true
  unfolding remaining clocks_after tasks_after advances
  ahead_still event e f (by_local setter at) w h =
      rw e (at_set (λ t. ltb 0 (at - t.clock) ≡ true) m.clocks.tasks task setter absent_task (λ q. rw ((f at (rw q at w)).0, ← q) h) h)
  ahead_still event e f (by_global setter at) w h = rw e h
  ahead_still event e f pinned w h = refl

  -- and puts none off
  put_still : (event : Event) → is_tested event ≡ false → (due : DueTime) → put event due ≡ due
  unfolding put_off advances
  put_still event e (by_local setter at) = refl
  put_still event e (by_global setter at) = rw e (ap (by_global setter) (omega arith))
  put_still event e pinned = refl

  still : (event : Event) → is_tested event ≡ false → Still event → ExpirationsKept m.limits m.clocks m.objects xs
      → ExpirationsKept m.limits (after event) m.objects xs
  still event e f k =
      let spared : (due : DueTime) → Spares event due = λ due own at h. (rw (f at h).0 h.0, (f at h).1) in
      record {
        each =
            all_imp
            (λ x h. record {
              owned = h.owned;
              ahead = ahead_still event e f x.due h.within h.ahead;
              within = rw (put_still event e x.due) at (within_after event x.due (spared x.due) h.within);
            })
            xs k.each;
        room = k.room;
      }

  -- the expiration is not one that the task set by its clock
  abbrev is_others : Expiration → Bool
  is_others x = not (is_set_by task x.due)

  -- a leave leaves none with its task as its setter
  left_others : task < departed → (due : DueTime) → not (is_set_by task due) ≡ true → setter_of (deserted task due) ≡ task → ⊥
  unfolding deserted
  left_others known (by_local setter at) others own = true≢false (sym (eq-eqb setter task own) ∙ not-true _ others)
  left_others known (by_global setter at) others own =
      by_test (eqb setter task) (λ e. omega (arith, rw e at own, known)) (λ e. eqb-false setter task e (rw e at own))
  left_others known pinned others own = omega (arith, own, known)

  -- and all within bounds
  left_within : task < departed → (due : DueTime) → Within m.limits m.clocks due → Within m.limits m.clocks (deserted task due)
  unfolding deserted remaining
  left_within known (by_local setter at) h = h
  left_within known (by_global setter at) (most, there) = by_test (eqb setter task) (λ e. rw e (most, refl)) (λ e. rw e (most, there))
  left_within known pinned h = tt

  left_ahead : (due : DueTime) → is_ahead m.clocks due ≡ true → is_ahead m.clocks (deserted task due) ≡ true
  unfolding deserted remaining
  left_ahead (by_local setter at) h = h
  left_ahead (by_global setter at) h = h
  left_ahead pinned h = refl

  left_kept : task < departed → (x : Expiration) → ExpirationKept m.limits m.clocks m.objects x
      → ExpirationKept m.limits m.clocks m.objects (record { handle = x.handle; due = deserted task x.due })
  left_kept known x k =
      record { owned = k.owned; ahead = left_ahead x.due k.ahead; within = left_within known x.due k.within }

  -- who joins was absent, and so nobody's setter
  joined_due : is_absent before.state ≡ true → (due : DueTime) → Within m.limits m.clocks due → is_ahead m.clocks due ≡ true
      → (is_ahead (entered task joined m.clocks) due ≡ true) × Within m.limits (entered task joined m.clocks) due
  unfolding entered remaining
  joined_due absent (by_local setter at) w h =
      at_set (λ t. (ltb 0 (at - t.clock) ≡ true) × LocalWithin m.limits t at) m.clocks.tasks task setter absent_task
      (λ e. absurd (true≢false (sym absent ∙ (rw e at w.1)))) (h, w)
  joined_due absent (by_global setter at) (most, there) h = (
    h,
    (
      most,
      by_test (eqb setter departed) (λ d. rw d)
          (λ d. rw d (at_set (λ t. not (is_absent t.state) ≡ true) m.clocks.tasks task setter absent_task (λ e. refl) (rw d at there))),
    ),
  )
  joined_due absent pinned w h = (refl, tt)

  pub expirations_joined : (share : Share) → Passed m xs (Join task share) new → ExpirationsKept m.limits m.clocks m.objects xs
      → ExpirationsKept m.limits (entered task joined m.clocks) m.objects xs
  unfolding tests_of
  expirations_joined share (exists, (absent, c)) k =
      record {
        each =
            all_imp
            (λ x h. let (ahead, within) = joined_due (not-false _ absent) x.due h.within h.ahead in
            record { owned = h.owned; ahead = ahead; within = within })
            xs k.each;
        room = k.room;
      }

  -- the five events
  pub expirations_after_lem : (event : Event) → Passed m xs (Schedule event task) new → ExpirationsKept m.limits m.clocks m.objects xs
      → ExpirationsKept m.limits (after event) m.objects (lasting event task (advances event task m.clocks) (after event) xs)
  unfolding tests_of lasting moved
  expirations_after_lem Resume c k = still Resume refl (λ at h. (refl, refl)) k
  expirations_after_lem View (exists, (absent, end)) k = still View refl (λ at h. absurd (true≢false (sym (not-false _ absent) ∙ h.1))) k
  expirations_after_lem Block c k = live Block xs k.room (all_imp (λ x. lasts Block x (λ own at h. (h.0, refl))) xs k.each)
  expirations_after_lem Tick c k = live Tick xs k.room (all_imp (λ x. lasts Tick x (λ own at h. (omega arith, h.1))) xs k.each)
  expirations_after_lem Leave (exists, c) k =
      let known = leb-false task_count task exists in
      let others = filter is_others xs in
      live Leave (each_due (deserted task) others) (rw (length-map others _) (le_trans (length_filter is_others xs) k.room))
      (all_map _ _ others
      (all_filter is_others (λ x e h. lasts Leave _ (λ own. absurd (left_others known x.due e own)) (left_kept known x h)) xs k.each))

-- the same expirations with other objects
pub reowned : {limits : Limits} {clocks : Clocks} {os ps : List Object} {xs : List Expiration}
    → ((x : Expiration) → stands xs x.handle ≡ true → is_owned os x ≡ true → is_owned ps x ≡ true)
    → ExpirationsKept limits clocks os xs → ExpirationsKept limits clocks ps xs
reowned {xs} f k =
    record {
      each =
          all_both (λ x h e. record { owned = f x e h.owned; ahead = h.ahead; within = h.within }) xs k.each
          (all_any (λ (x y : Expiration). is_of x.handle y) (λ x. eq-eqb x.handle x.handle refl) xs);
      room = k.room;
    }

-- with those that stand: the object of an expiration does
pub expirations_settled : {limits : Limits} {clocks : Clocks} {os : List Object} {xs : List Expiration} → ExpirationsKept limits clocks os xs
    → ExpirationsKept limits clocks (standing xs os) xs
expirations_settled {os = os} =
    reowned (λ x e o. any_left _ _ (λ (o : Object) d. rw (eqb-true x.handle o.handle d) at e) os ∙ o)

-- a due that a call sets is ahead and within bounds
new_due : (limits : Limits) (clocks : Clocks) (task extension : ℕ) (kind : Kind) → is_absent (task_at clocks task).state ≡ false
    → extension ≤ most_extension limits kind
    → (is_ahead clocks (due_after clocks task kind extension) ≡ true) × Within limits clocks (due_after clocks task kind extension)
unfolding due_after remaining
new_due limits clocks task extension Local present h = (lt-ltb 0 ((task_at clocks task).clock + extension + 1 - (task_at clocks task).clock) (omega arith), (omega (arith, h), present))
new_due limits clocks task extension Global present h = (lt-ltb 0 (clocks.global + extension + 2 - clocks.global) (omega arith), (omega (arith, h), rw (present, or-true)))
new_due limits clocks task extension Pinned present h = (refl, tt)

pub expirations_set : {limits : Limits} {clocks : Clocks} {os : List Object} {xs : List Expiration} (task : ℕ) (kind : Kind) (extension handle : ℕ)
    → is_absent (task_at clocks task).state ≡ false → ltb (most_extension limits kind) extension ≡ false
    → length xs < limits.expirations
    → is_owned os (record { handle = handle; due = due_after clocks task kind extension }) ≡ true → ExpirationsKept limits clocks os xs
    → ExpirationsKept limits clocks os (record { handle = handle; due = due_after clocks task kind extension } ∷ xs)
expirations_set {limits} {clocks} task kind extension handle present short room owned k =
    let (ahead, within) = new_due limits clocks task extension kind present (ltb-false _ _ short) in
    record { each = (record { owned = owned; ahead = ahead; within = within }, k.each); room = room }

-- an object of the list has this handle: it owns what is set on the handle
abbrev pub is_listed : ℕ → List Object → Bool
is_listed handle os = any (λ (o : Object). eqb handle o.handle) os

-- and on each object of a batch, where there is room for all
pub expirations_set_each : {limits : Limits} {clocks : Clocks} {os : List Object} (task : ℕ) (kind : Kind) (extension : ℕ)
    → is_absent (task_at clocks task).state ≡ false → ltb (most_extension limits kind) extension ≡ false
    → (handles : List ℕ) (xs : List Expiration) → length xs + length handles ≤ limits.expirations
    → All (λ (handle : ℕ). is_listed handle os ≡ true) handles
    → ExpirationsKept limits clocks os xs → ExpirationsKept limits clocks os (set_on_each (due_after clocks task kind extension) handles xs)
unfolding set_on_each
expirations_set_each task kind extension present short [] xs room owned k = k
expirations_set_each task kind extension present short (h ∷ hs) xs room (owned, rest) k =
    expirations_set_each task kind extension present short hs _ (omega (arith, room)) rest
    (expirations_set task kind extension h present short (omega (arith, room)) owned k)

-- a release ends the pinned one
pub expirations_released : {limits : Limits} {clocks : Clocks} {os : List Object} {xs : List Expiration} (handle : ℕ) → ExpirationsKept limits clocks os xs
    → ExpirationsKept limits clocks os (released handle xs)
unfolding released
expirations_released {xs = xs} handle k =
    let others : Expiration → Bool = λ x. not (is_pin_of handle x) in
    record { each = all_filter others (λ x e h. h) xs k.each; room = le_trans (length_filter others xs) k.room }
