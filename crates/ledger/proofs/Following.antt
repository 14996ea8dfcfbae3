-- To follow an expiration by itself is to follow it inside the ledger; and what a call makes of the clocks goes by its event alone.
use Prim.Native.Nat.{ℕ, ◌≤◌}
use native.Mathlib.Omega.{arith}
use mathlib.Core.Bool.{Bool}
use mathlib.Core.List.{List, [], ◌∷◌, ◌++◌, map-append, append_assoc}
use mathlib.Core.Option.{Option, none, some}
use mathlib.Core.Path.{◌≡◌, refl, sym, ap, ◌∙◌}
use lib.ListN.{length, get_or-eq_default}
use Rattle.lists.proofs.Filters.{filter_append}
use Rattle.ledger.specs.Tasks.{Clocks, task_at, absent_task, advances, clocks_after, entered, joined}
use Rattle.ledger.specs.Expirations.{DueTime, departed, Expiration, still_live, due_after, lasting, released, set_on_each}
use Rattle.ledger.specs.Objects.{Memory, handles_of}
use Rattle.ledger.specs.Rules.{memory_after, expirations_after, tests_of}
use Rattle.ledger.specs.Ledger.{Ledger, facts_in, Sent, fresh, settled, after_by, verdict_on, next, after_request, after_sent, after_all}
use Rattle.ledger.specs.Outlives.{Move, neither, joins, happens, releases, move_of, move_in, set_in, left_by, left_in, followed, Following}
use Rattle.ledger.specs.declared.Call.{Call}
use Rattle.ledger.specs.declared.Call.TheVariants.{Join, Schedule, Make, Refresh, Read, Write, Batch, Release}
use Rattle.ledger.specs.declared.Event.{Event}
use Rattle.ledger.specs.declared.Event.TheVariants.{Leave, Block, Resume, Tick, View}
use Rattle.ledger.specs.declared.Refusal.{Refusal}
use Rattle.ledger.specs.declared.Request.{Request}
use Rattle.ledger.specs.declared.Request.TheVariants.{Use, Report, Remaining}
use Rattle.ledger.specs.declared.Limits.{Limits}
use Rattle.ledger.proofs.Passed.{Passed, passed}
use Rattle.ledger.proofs.Kept.{kept_all}

live_append : (advanced : Bool) (clocks : Clocks) (xs ys : List Expiration)
    → still_live advanced clocks (xs ++ ys) ≡ still_live advanced clocks xs ++ still_live advanced clocks ys
live_append advanced clocks xs ys = simp (map-append, filter_append)

lasting_append : (event : Event) (task : ℕ) (advanced : Bool) (clocks : Clocks) (xs ys : List Expiration)
    → lasting event task advanced clocks (xs ++ ys) ≡ lasting event task advanced clocks xs ++ lasting event task advanced clocks ys
unfolding lasting
lasting_append Block task advanced clocks xs ys = live_append advanced clocks xs ys
lasting_append Resume task advanced clocks xs ys = refl
lasting_append View task advanced clocks xs ys = refl
lasting_append Leave task advanced clocks xs ys = simp (filter_append, map-append)
lasting_append Tick task advanced clocks xs ys = live_append advanced clocks xs ys

pub lasting_none : (event : Event) (task : ℕ) (advanced : Bool) (clocks : Clocks) → lasting event task advanced clocks [] ≡ []
unfolding lasting
lasting_none Block task advanced clocks = refl
lasting_none Resume task advanced clocks = refl
lasting_none View task advanced clocks = refl
lasting_none Leave task advanced clocks = refl
lasting_none Tick task advanced clocks = refl

left_append : (clocks : Clocks) (v : Move) (xs ys : List Expiration) → left_by clocks v (xs ++ ys) ≡ left_by clocks v xs ++ left_by clocks v ys
unfolding released
left_append clocks neither xs ys = refl
left_append clocks (joins task share) xs ys = refl
left_append clocks (happens event task) xs ys = lasting_append event task _ _ xs ys
left_append clocks (releases handle) xs ys = filter_append _ xs ys

pub left_none : (clocks : Clocks) (v : Move) → left_by clocks v [] ≡ []
unfolding released
left_none clocks neither = refl
left_none clocks (joins task share) = refl
left_none clocks (happens event task) = lasting_none event task _ _
left_none clocks (releases handle) = refl

-- those of a batch stand before the earlier ones
set_append : (due : DueTime) (handles : List ℕ) (xs : List Expiration) → set_on_each due handles xs ≡ set_on_each due handles [] ++ xs
unfolding set_on_each
set_append due [] xs = refl
set_append due (h ∷ hs) xs =
    let x : Expiration = record { handle = h; due = due } in
    set_append due hs (x ∷ xs) ∙ sym (append_assoc (set_on_each due hs []) (x ∷ []) xs) ∙ ap (λ (zs : List Expiration). zs ++ xs) (sym (set_append due hs (x ∷ [])))

carried : (call : Call) (new : List ℕ) (m : Memory) (xs : List Expiration)
    → expirations_after call new m xs ≡ expirations_after call new m [] ++ left_by m.clocks (move_of call) xs
unfolding expirations_after move_of released
carried (Join task share) new m xs = refl
carried (Schedule event task) new m xs = ap (λ (zs : List Expiration). zs ++ lasting event task (advances event task m.clocks) (clocks_after event task m.clocks) xs) (sym (lasting_none event task _ _))
carried (Make task kind extension size prefix) new m xs = refl
carried (Refresh task kind extension handle) new m xs = refl
carried (Read task handle) new m xs = refl
carried (Write task handle offset) new m xs = refl
carried (Batch task kind extension) new m xs = set_append (due_after m.clocks task kind extension) (handles_of new) xs
carried (Release task handle) new m xs = refl

parts : (L : Ledger) (request : Request) (new : List ℕ)
    → (after_request L request new).expirations ≡ set_in L request new ++ left_in L request new L.expirations
unfolding next set_in move_in
parts L Report new = refl
parts L (Remaining task handle) new = refl
parts L (Use call) new = by (verdict_on L call new)
  where
    by : (v : Option Refusal)
        → (after_by v (settled (memory_after call new L.memory) (expirations_after call new L.memory L.expirations)) L).expirations
        ≡ after_by v (expirations_after call new L.memory []) [] ++ left_by L.memory.clocks (after_by v (move_of call) neither) L.expirations
    by none = carried call new L.memory L.expirations
    by (some r) = refl

apart : (L : Ledger) (ss : List Sent) (xs ys : List Expiration) → followed L ss (xs ++ ys) ≡ followed L ss xs ++ followed L ss ys
unfolding followed
apart L [] xs ys = refl
apart L (s ∷ ss) xs ys = ap (followed (after_sent L s) ss) (left_append L.memory.clocks (move_in L s.request s.bytes) xs ys) ∙ apart (after_sent L s) ss _ _

-- there are sixteen tasks, and so none has the number of who is departed
gone : (limits : Limits) (ss : List Sent) → task_at (after_all (fresh limits) ss).memory.clocks departed ≡ absent_task
gone limits ss =
    let ts = (after_all (fresh limits) ss).memory.clocks.tasks in
    let past : length ts ≤ departed = omega (arith, (kept_all limits ss).clocks.sixteen) in
    get_or-eq_default ts absent_task past

pub following : Following
following = record { parts = parts; apart = apart; gone = gone }

-- the clocks after a call go by its event too
abbrev pub clocks_by : Clocks → Move → Clocks
clocks_by clocks neither = clocks
clocks_by clocks (joins task share) = entered task joined clocks
clocks_by clocks (happens event task) = clocks_after event task clocks
clocks_by clocks (releases handle) = clocks

-- and an event has passed its tests
abbrev pub MovePassed : Ledger → List ℕ → Move → Type 0
MovePassed L new neither = Unit
MovePassed L new (joins task share) = Passed L.memory L.expirations (Join task share) new
MovePassed L new (happens event task) = Passed L.memory L.expirations (Schedule event task) new
MovePassed L new (releases handle) = Unit

clocks_carried : (call : Call) (new : List ℕ) (m : Memory) → (memory_after call new m).clocks ≡ clocks_by m.clocks (move_of call)
unfolding memory_after move_of
clocks_carried (Join task share) new m = refl
clocks_carried (Schedule event task) new m = refl
clocks_carried (Make task kind extension size prefix) new m = refl
clocks_carried (Refresh task kind extension handle) new m = refl
clocks_carried (Read task handle) new m = refl
clocks_carried (Write task handle offset) new m = refl
clocks_carried (Batch task kind extension) new m = refl
clocks_carried (Release task handle) new m = refl

pub clocks_moved : (L : Ledger) (request : Request) (new : List ℕ)
    → (after_request L request new).memory.clocks ≡ clocks_by L.memory.clocks (move_in L request new)
unfolding next move_in
clocks_moved L Report new = refl
clocks_moved L (Remaining task handle) new = refl
clocks_moved L (Use call) new = by (verdict_on L call new)
  where
    by : (v : Option Refusal)
        → (after_by v (settled (memory_after call new L.memory) (expirations_after call new L.memory L.expirations)) L).memory.clocks
        ≡ clocks_by L.memory.clocks (after_by v (move_of call) neither)
    by none = clocks_carried call new L.memory
    by (some r) = refl

call_passed : (L : Ledger) (call : Call) (new : List ℕ) → Passed L.memory L.expirations call new → MovePassed L new (move_of call)
unfolding move_of
call_passed L (Join task share) new c = c
call_passed L (Schedule event task) new c = c
call_passed L (Make task kind extension size prefix) new c = tt
call_passed L (Refresh task kind extension handle) new c = tt
call_passed L (Read task handle) new c = tt
call_passed L (Write task handle offset) new c = tt
call_passed L (Batch task kind extension) new c = tt
call_passed L (Release task handle) new c = tt

pub move_passed : (L : Ledger) (request : Request) (new : List ℕ) → MovePassed L new (move_in L request new)
unfolding move_in
move_passed L Report new = tt
move_passed L (Remaining task handle) new = tt
move_passed L (Use call) new = by (verdict_on L call new) refl
  where
    by : (v : Option Refusal) → verdict_on L call new ≡ v → MovePassed L new (after_by v (move_of call) neither)
    by none e = call_passed L call new (passed (facts_in L) (tests_of call new) e)
    by (some r) e = tt
