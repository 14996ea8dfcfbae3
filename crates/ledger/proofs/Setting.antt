-- An expiration that is set now: its setter is there and the clocks are as they were; and while it is followed to stand, its object stands.
use Prim.Native.Nat.{ℕ}
use mathlib.Core.Bool.{Bool, true, or-true}
use mathlib.Core.List.{List, [], ◌∷◌, ◌++◌}
use mathlib.Core.Option.{Option, none, some}
use mathlib.Core.Path.{◌≡◌, refl}
use Rattle.lists.specs.Tests.{any, All}
use Rattle.lists.proofs.Cases.{or_right}
use Rattle.lists.proofs.Counts.{any_append}
use Rattle.ledger.specs.Tasks.{Clocks, task_at, is_active}
use Rattle.ledger.specs.Expirations.{DueTime, Expiration, is_of, due_after, released, set_on_each}
use Rattle.ledger.specs.Objects.{Memory, stands, handles_of}
use Rattle.ledger.specs.Rules.{expirations_after, tests_of}
use Rattle.ledger.specs.Ledger.{Ledger, facts_in, Sent, fresh, after_by, verdict_on, after_sent, after_all}
use Rattle.ledger.specs.Kept.{Kept, is_owned}
use Rattle.ledger.specs.Outlives.{Move, neither, move_of, move_in, set_in, left_in, followed, Setting, when_set}
use Rattle.ledger.specs.declared.Kind.{Kind}
use Rattle.ledger.specs.declared.Kind.TheVariants.{Local, Global, Pinned}
use Rattle.ledger.specs.declared.Call.{Call}
use Rattle.ledger.specs.declared.Call.TheVariants.{Join, Schedule, Make, Refresh, Read, Write, Batch, Release}
use Rattle.ledger.specs.declared.Refusal.{Refusal}
use Rattle.ledger.specs.declared.Request.{Request}
use Rattle.ledger.specs.declared.Request.TheVariants.{Use, Report, Remaining}
use Rattle.ledger.proofs.Passed.{Passed, passed}
use Rattle.ledger.proofs.KeptTasks.{active}
use Rattle.ledger.proofs.Kept.{owned_by, kept_request, kept_after, kept_all}
use Rattle.ledger.proofs.Following.{clocks_moved, lasting_none, following}

-- what an expiration that is set now tells: its setter is active, and its call moves no clock
abbrev IsNew : Clocks → Move → Expiration → Type 0
IsNew clocks v x =
    (setter extension : ℕ) → x.due ≡ due_after clocks setter Global extension → (is_active (task_at clocks setter).state ≡ true) × (v ≡ neither)

same_setter : (clocks : Clocks) (task : ℕ) (kind : Kind) (extension setter e : ℕ) → due_after clocks task kind extension ≡ due_after clocks setter Global e
    → task ≡ setter
unfolding due_after
same_setter clocks task Local extension setter e d = cc
same_setter clocks task Global extension setter e d = cc
same_setter clocks task Pinned extension setter e d = cc

set_each_lem : (P : Expiration → Type 0) (due : DueTime) → ((handle : ℕ) → P (record { handle = handle; due = due })) → (handles : List ℕ) (xs : List Expiration)
    → All P xs → All P (set_on_each due handles xs)
unfolding set_on_each
set_each_lem P due f [] xs k = k
set_each_lem P due f (h ∷ hs) xs k = set_each_lem P due f hs _ (f h, k)

all_new : (m : Memory) (xs : List Expiration) (call : Call) (new : List ℕ) → Passed m xs call new → All (IsNew m.clocks (move_of call)) (expirations_after call new m [])
unfolding expirations_after tests_of move_of released
all_new m xs (Join task share) new c = tt
all_new m xs (Schedule event task) new c = rw (lasting_none event task _ _) tt
all_new m xs (Make task kind extension size prefix) new (exists, (there, (waits, (acts, c)))) =
    (λ setter e d. (rw (← same_setter m.clocks task kind extension setter e d) (active (task_at m.clocks task).state there acts), refl), tt)
all_new m xs (Refresh task kind extension handle) new (exists, (there, (waits, (acts, c)))) =
    (λ setter e d. (rw (← same_setter m.clocks task kind extension setter e d) (active (task_at m.clocks task).state there acts), refl), tt)
all_new m xs (Read task handle) new c = tt
all_new m xs (Write task handle offset) new c = tt
all_new m xs (Batch task kind extension) new (exists, (there, (waits, (acts, c)))) =
    set_each_lem _ (due_after m.clocks task kind extension)
    (λ h setter e d. (rw (← same_setter m.clocks task kind extension setter e d) (active (task_at m.clocks task).state there acts), refl)) (handles_of new) [] tt
all_new m xs (Release task handle) new c = tt

new_in : (L : Ledger) (request : Request) (new : List ℕ) → All (IsNew L.memory.clocks (move_in L request new)) (set_in L request new)
unfolding set_in move_in
new_in L Report new = tt
new_in L (Remaining task handle) new = tt
new_in L (Use call) new = by (verdict_on L call new) refl
  where
    by : (v : Option Refusal) → verdict_on L call new ≡ v
        → All (IsNew L.memory.clocks (after_by v (move_of call) neither)) (after_by v (expirations_after call new L.memory []) [])
    by none e = all_new L.memory L.expirations call new (passed (facts_in L) (tests_of call new) e)
    by (some r) e = tt

all_middle : (P : Expiration → Type 0) (front : List Expiration) (x : Expiration) (back : List Expiration) → All P (front ++ (x ∷ back)) → P x
all_middle P [] x back (h, hs) = h
all_middle P (y ∷ ys) x back (h, hs) = all_middle P ys x back hs

-- when it is set: its setter is active, and the clocks are as they were
pub set_now : (d : Setting) → (is_active (task_at (when_set d).memory.clocks d.setter).state ≡ true)
    × (d.expiration.due ≡ due_after (when_set d).memory.clocks d.setter Global d.extension)
set_now d =
    let L = after_all (fresh d.limits) d.earlier in
    let (there, still) = all_middle _ d.front d.expiration d.back (rw d.among at (new_in L d.call.request d.call.bytes)) d.setter d.extension d.due in
    rw (clocks_moved L d.call.request d.call.bytes, still) (there, d.due)

pub kept_set : (d : Setting) → Kept (when_set d)
kept_set d = kept_request (after_all (fresh d.limits) d.earlier) (kept_all d.limits d.earlier) d.call.request d.call.bytes

module _ (p : Expiration → Bool) where
  -- what is found in what is left of the ledger's expirations is found in the ledger
  inside : (ss : List Sent) (L : Ledger) → any p (followed L ss L.expirations) ≡ true → any p (after_all L ss).expirations ≡ true
  unfolding followed after_all
  inside [] L e = e
  inside (s ∷ ss) L e =
      let new = set_in L s.request s.bytes in
      let left = left_in L s.request s.bytes L.expirations in
      inside ss (after_sent L s)
      (rw (following.parts L s.request s.bytes, following.apart (after_sent L s) ss new left, any_append) (or_right (any p (followed (after_sent L s) ss new)) e))

  -- and what is found in what is left of one is found in what is left of a list that has it
  among : (L : Ledger) (ss : List Sent) (front : List Expiration) (x : Expiration) (back rest : List Expiration)
      → any p (followed L ss (x ∷ [])) ≡ true → any p (followed L ss ((front ++ (x ∷ back)) ++ rest)) ≡ true
  among L ss front x back rest e =
      rw (following.apart L ss (front ++ (x ∷ back)) rest, following.apart L ss front (x ∷ back), following.apart L ss (x ∷ []) back, any_append, any_append, any_append, e, or-true)

-- where the one that was set stands, its object does
pub object_stands : (d : Setting) (ss : List Sent) → stands (followed (when_set d) ss (d.expiration ∷ [])) d.expiration.handle ≡ true
    → is_owned (after_all (when_set d) ss).memory.objects d.expiration ≡ true
object_stands d ss e =
    let L = after_all (fresh d.limits) d.earlier in
    let M = when_set d in
    let N = after_all M ss in
    let h : any (is_of d.expiration.handle) N.expirations ≡ true =
    inside (is_of d.expiration.handle) ss M
    (rw (following.parts L d.call.request d.call.bytes, d.among)
    (among (is_of d.expiration.handle) M ss d.front d.expiration d.back (left_in L d.call.request d.call.bytes L.expirations) e)) in
    owned_by N.memory N.expirations (kept_after ss M (kept_set d)) d.expiration.handle h
