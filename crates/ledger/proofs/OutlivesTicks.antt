-- Order 7, the first claim: over every list of calls a global expiration outlives the ticks of its setter that it was set for, and its
-- object stands with it.
use Prim.Native.Nat.{ℕ, ◌+◌}
use native.Mathlib.Omega.{arith}
use mathlib.Core.Bool.{Bool, true, false, cond, and-false}
use mathlib.Core.List.{List, [], ◌∷◌}
use mathlib.Core.Path.{◌≡◌, refl, sym, ap, subst, ◌∙◌}
use borrow.Author.Tests.{eq-eqb}
use Rattle.ledger.specs.Tasks.{Clocks}
use Rattle.ledger.specs.Expirations.{DueTime, Expiration, due_after, released}
use Rattle.ledger.specs.Objects.{stands}
use Rattle.ledger.specs.Ledger.{Ledger, Sent, after_sent}
use Rattle.ledger.specs.Outlives.{Move, neither, joins, happens, releases, move_in, left_by, followed, is_tick_of, is_leave_of, count_of, when_set, OutlivesTicks}
use Rattle.ledger.specs.PutOff.{global_one}
use Rattle.ledger.proofs.Following.{clocks_by, MovePassed, clocks_moved, move_passed}
use Rattle.ledger.proofs.Setting.{set_now, object_stands}
use Rattle.ledger.proofs.Outlives.{Ahead, set_ahead, due_then, kept_ahead, joined_ahead, one_left}

-- one call, by its event
step : (L : Ledger) (new : List ℕ) (v : Move) → MovePassed L new v → (handle setter at ticks : ℕ) → is_leave_of setter v ≡ false
    → Ahead L.memory.clocks setter at (cond (is_tick_of setter v) 1 0 + ticks)
    → (then : ℕ) × (left_by L.memory.clocks v (global_one handle setter at ∷ []) ≡ global_one handle setter then ∷ []) × Ahead (clocks_by L.memory.clocks v) setter then ticks
unfolding released
step L new neither c handle setter at ticks stays k = (at, refl, record { active = k.active; ahead = omega (arith, k.ahead) })
step L new (joins task share) c handle setter at ticks stays k =
    (at, refl, joined_ahead L.memory L.expirations new task setter share at ticks c (record { active = k.active; ahead = omega (arith, k.ahead) }))
step L new (happens event task) c handle setter at ticks stays k =
    let m = L.memory in
    let k' = kept_ahead m L.expirations new task setter event at ticks c stays k in (
      due_then m L.expirations new task setter event at,
      one_left m L.expirations new task setter event handle at stays (omega (arith, k'.ahead)),
      k',
    )
step L new (releases other) c handle setter at ticks stays k = (at, rw and-false, record { active = k.active; ahead = omega (arith, k.ahead) })

-- none of a list is of a sort: neither its first, nor any later one
pub none_first : (b : Bool) (n : ℕ) → cond b 1 0 + n ≡ 0 → (b ≡ false) × (n ≡ 0)
none_first true n e = absurd (omega arith)
none_first false n e = (refl, omega arith)

-- every list
outlived : (handle setter : ℕ) (ss : List Sent) (L : Ledger) (at : ℕ) → count_of (is_leave_of setter) L ss ≡ 0
    → Ahead L.memory.clocks setter at (count_of (is_tick_of setter) L ss) → (then : ℕ) × (followed L ss (global_one handle setter at ∷ []) ≡ global_one handle setter then ∷ [])
unfolding count_of followed
outlived handle setter [] L at e k = (at, refl)
outlived handle setter (s ∷ ss) L at e k =
    let v = move_in L s.request s.bytes in
    let (stays, rest) = none_first (is_leave_of setter v) _ e in
    let (then, left, k') = step L s.bytes v (move_passed L s.request s.bytes) handle setter at (count_of (is_tick_of setter) (after_sent L s) ss) stays k in
    let (last, more) = outlived handle setter ss (after_sent L s) then rest
    (subst (λ (clocks : Clocks). Ahead clocks setter then (count_of (is_tick_of setter) (after_sent L s) ss)) (sym (clocks_moved L s.request s.bytes)) k') in
    (last, ap (followed (after_sent L s) ss) left ∙ more)

pub outlives_ticks : OutlivesTicks
unfolding due_after
outlives_ticks d ss stays few =
    let M = when_set d in
    let (there, due) = set_now d in
    let same : d.expiration ≡ global_one d.expiration.handle d.setter (M.memory.clocks.global + d.extension + 2) = ap (λ (u : DueTime). record { handle = d.expiration.handle; due = u }) due in
    let (then, left) = outlived d.expiration.handle d.setter ss M _ stays (set_ahead M.memory.clocks d.setter d.extension _ there few) in
    let e : stands (followed M ss (d.expiration ∷ [])) d.expiration.handle ≡ true =
    ap (λ (xs : List Expiration). stands xs d.expiration.handle) (ap (λ (x : Expiration). followed M ss (x ∷ [])) same ∙ left) ∙ rw (eq-eqb d.expiration.handle d.expiration.handle refl) in
    (e, object_stands d ss e)
