-- An object that was made pinned stands until a release of it is accepted: what is pinned loses a handle by its release alone, and has a
-- pinned expiration.
use Prim.Native.Nat.{ℕ, ◌+◌}
use native.Mathlib.Omega.{arith}
use mathlib.Core.Bool.{Bool, true, false, true≢false, cond, not, and-eq-true_iff}
use mathlib.Core.List.{List, [], ◌∷◌}
use mathlib.Core.Option.{Option, none, some}
use mathlib.Core.Path.{◌≡◌, refl, sym, ◌∙◌}
use borrow.Author.Tests.{eqb-true, eq-eqb}
use lib.Dec.{eqb, leb}
use Rattle.lists.specs.Tests.{any}
use Rattle.lists.proofs.Cases.{by_test, or_right, or_false_parts}
use Rattle.lists.proofs.Counts.{any_left}
use Rattle.lists.proofs.Implied.{any_none}
use Rattle.lists.specs.Sums.{sum_below}
use Rattle.ledger.specs.Limits.{task_count, standard, last_handle}
use Rattle.ledger.specs.Tasks.{task_at, is_absent, is_waiting, fresh_clocks, moved, all_ticked, tasks_after, advances, clocks_after, entered}
use Rattle.ledger.specs.Expirations.{is_pinned, is_of, is_pin_of, due_after, put_off, lasting, released}
use Rattle.ledger.specs.Objects.{Memory, Reply, fresh_memory, object_at, is_intact, stands, makers_after, shares_after}
use Rattle.ledger.specs.Shares.{made as made_in, unmet, is_full, is_short, is_at_limit}
use Rattle.ledger.specs.Refusals.{is_not_given, verdict}
use Rattle.ledger.specs.Rules.{reply_to, memory_after, expirations_after, tests_of}
use Rattle.ledger.specs.Ledger.{Ledger, Sent, fresh, settled, reply_by, after_by, verdict_on, reply, next, after_request, after_sent, after_all}
use Rattle.ledger.specs.Kept.{Kept}
use Rattle.ledger.specs.Outlives.{neither, move_of, move_in}
use Rattle.ledger.specs.Pinned.{PinnedMake, made_by, when_made, is_release_of, is_released, StandsUntilReleased, sparing, PinnedApplies, pinned_edges, PinnedClaim}
use Rattle.ledger.specs.Rows.{join}
use Rattle.ledger.specs.declared.Answer.TheVariants.{Refused, Handle, Bytes}
use Rattle.ledger.specs.declared.Call.{Call}
use Rattle.ledger.specs.declared.Call.TheVariants.{Join, Schedule, Make, Refresh, Read, Write, Batch, Release}
use Rattle.ledger.specs.declared.Kind.TheVariants.{Local, Global, Pinned}
use Rattle.ledger.specs.declared.Refusal.{Refusal}
use Rattle.ledger.specs.declared.Refusal.TheVariants.{NoSuchTask, TaskAbsent, TaskWaiting, HandleNotGiven, ObjectGone, SumDiffers}
use Rattle.ledger.specs.declared.Request.{Request}
use Rattle.ledger.specs.declared.Request.TheVariants.{Use, Report, Remaining}
use Rattle.ledger.proofs.KeptPins.{eqb_swap}
use Rattle.ledger.proofs.Kept.{kept_request, kept_after, kept_all}
use Rattle.ledger.proofs.Edges.{pinned_edges_hold}

-- a read of an object that stands is not answered 12, whatever else it is
not_gone : (a b c d e : Bool) (y : Reply) → (y.answer ≡ Refused ObjectGone → ⊥)
    → (reply_by
    (cond a (some NoSuchTask)
    (cond b (some TaskAbsent) (cond c (some TaskWaiting) (cond d (some HandleNotGiven) (cond e (some SumDiffers) none))))) y).answer
    ≡ Refused ObjectGone → ⊥
not_gone true b c d e y f g = let z : ◌≡◌ {A = ℕ} 0 1 = cc in omega arith
not_gone false true c d e y f g = let z : ◌≡◌ {A = ℕ} 0 1 = cc in omega arith
not_gone false false true d e y f g = let z : ◌≡◌ {A = ℕ} 0 1 = cc in omega arith
not_gone false false false true e y f g = let z : ◌≡◌ {A = ℕ} 0 1 = cc in omega arith
not_gone false false false false true y f g = let z : ◌≡◌ {A = ℕ} 0 1 = cc in omega arith
not_gone false false false false false y f g = f g

never : Bytes ≡ Refused ObjectGone → ⊥
never e = let z : ◌≡◌ {A = ℕ} 0 1 = cc in omega arith

pub read_stands : (L : Ledger) (task handle : ℕ) → stands L.expirations handle ≡ true → (reply L (Read task handle) []).answer ≡ Refused ObjectGone → ⊥
unfolding reply verdict tests_of reply_to
read_stands L task handle h e =
    let state = (task_at L.memory.clocks task).state in
    not_gone (leb task_count task) (is_absent state) (is_waiting state) (is_not_given L.memory.given handle)
    (not (is_intact (object_at handle L.memory.objects))) (reply_to (Read task handle) L.memory) never (rw h at e)

module _ (object : ℕ) where
  abbrev is_among : Memory → Bool
  is_among m = any (eqb object) m.pinned

  -- a call that is carried out and is no release of the object
  pinned_carried : (call : Call) (new : List ℕ) (m : Memory) → is_release_of object (move_of call) ≡ false → is_among m ≡ true → is_among (memory_after call new m) ≡ true
  unfolding memory_after move_of
  pinned_carried (Join task share) new m e h = h
  pinned_carried (Schedule event task) new m e h = h
  pinned_carried (Make task Local extension size prefix) new m e h = h
  pinned_carried (Make task Global extension size prefix) new m e h = h
  pinned_carried (Make task Pinned extension size prefix) new m e h = or_right (eqb object (m.given + 1)) h
  pinned_carried (Refresh task kind extension handle) new m e h = h
  pinned_carried (Read task handle) new m e h = h
  pinned_carried (Write task handle offset) new m e h = h
  pinned_carried (Batch task kind extension) new m e h = h
  pinned_carried (Release task handle) new m e h = any_left (eqb object) _ (λ x own. rw (← eqb-true object x own, eqb_swap handle object, e)) m.pinned ∙ h

  pinned_request : (L : Ledger) (request : Request) (new : List ℕ) → is_release_of object (move_in L request new) ≡ false → is_among L.memory ≡ true
      → is_among (after_request L request new).memory ≡ true
  unfolding next move_in
  pinned_request L Report new e h = h
  pinned_request L (Remaining task handle) new e h = h
  pinned_request L (Use call) new e h = by (verdict_on L call new) e
    where
      by : (v : Option Refusal) → is_release_of object (after_by v (move_of call) neither) ≡ false
          → is_among (after_by v (settled (memory_after call new L.memory) (expirations_after call new L.memory L.expirations)) L).memory ≡ true
      by none e = pinned_carried call new L.memory e h
      by (some r) e = h

  pinned_all : (ss : List Sent) (L : Ledger) → is_released object L ss ≡ false → is_among L.memory ≡ true → is_among (after_all L ss).memory ≡ true
  unfolding is_released after_all
  pinned_all [] L e h = h
  pinned_all (s ∷ ss) L e h =
      let (this, later) = or_false_parts (is_release_of object (move_in L s.request s.bytes)) (is_released object (after_sent L s) ss) e in
      pinned_all ss (after_sent L s) later (pinned_request L s.request s.bytes this h)

  -- what is pinned stands
  pinned_stands : (L : Ledger) → Kept L → is_among L.memory ≡ true → stands L.expirations object ≡ true
  pinned_stands L k h =
      by_test (stands L.expirations object) (λ e. e)
      (λ e. absurd (true≢false (sym h ∙ k.pins object
      ∙ any_none (is_pin_of object) (is_of object) (λ x p. ((and-eq-true_iff (is_of object x) (is_pinned x.due)).0 p).0) L.expirations e)))

-- the object that was made is among them
made : (p : PinnedMake) → any (eqb p.object) (when_made p).memory.pinned ≡ true
unfolding reply next reply_to memory_after
made p = by (verdict_on L call p.bytes) p.answered
  where
    L : Ledger
    L = after_all (fresh p.limits) p.earlier

    call : Call
    call = Make p.task Pinned p.extension p.size p.prefix

    by : (v : Option Refusal) → (reply_by v (reply_to call L.memory)).answer ≡ Handle p.object
        → any (eqb p.object) (after_by v (settled (memory_after call p.bytes L.memory) (expirations_after call p.bytes L.memory L.expirations)) L).memory.pinned ≡ true
    by none e = let same : L.memory.given + 1 ≡ p.object = cc in rw (eq-eqb p.object (L.memory.given + 1) (sym same))
    by (some r) e = let z : ◌≡◌ {A = ℕ} 0 1 = cc in absurd (omega arith)

pub stands_until : StandsUntilReleased
stands_until p ss e =
    let M = when_made p in
    let k = kept_after ss M (kept_request (after_all (fresh p.limits) p.earlier) (kept_all p.limits p.earlier) (made_by p).request p.bytes) in
    let here = pinned_stands p.object (after_all M ss) k (pinned_all p.object ss M e (made p)) in
    (here, λ task. read_stands (after_all M ss) task p.object here)

-- task 0 makes object 1
first_pinned : PinnedMake
unfolding fresh reply next after_all tests_of verdict reply_to fresh_memory memory_after expirations_after lasting fresh_clocks moved advances tasks_after clocks_after
    entered sum_below made_in unmet is_full is_short is_at_limit standard last_handle
first_pinned = record { limits = standard; earlier = join 0 ∷ []; task = 0; extension = 0; size = 4; prefix = 0; bytes = []; object = 1; answered = refl }

pinned_applies : PinnedApplies
unfolding first_pinned sparing is_released move_of move_in fresh next after_all tests_of verdict
    fresh_memory memory_after expirations_after due_after put_off lasting released fresh_clocks moved all_ticked advances tasks_after clocks_after standard last_handle entered makers_after shares_after sum_below made_in unmet is_full is_short is_at_limit
pinned_applies = record { made = first_pinned; object = refl; unreleased = refl; standing = refl; released = refl; gone = refl }

pub pinned_claim : PinnedClaim
unfolding pinned_edges
pinned_claim = record { until = stands_until; applies = pinned_applies; five = refl; rows = pinned_edges_hold }
