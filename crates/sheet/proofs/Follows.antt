-- A sheet follows the roomy ledger.
use Prim.Native.Nat.{ℕ, suc, ◌+◌, ◌≤◌, ◌<◌}
use native.Mathlib.Omega.{arith}
use mathlib.Core.Bool.{Bool, true, false, cond, not, ◌&&◌}
use mathlib.Core.List.{List, [], ◌∷◌, ◌++◌, map, append-nil}
use mathlib.Core.Path.{◌≡◌, refl, sym, ap, ◌∙◌}
use lib.Dec.{eqb}
use lib.ListN.{length, length-append}
use Rattle.lists.specs.Tests.{all, filter, All}
use Rattle.lists.proofs.All.{all_imp}
use Rattle.lists.proofs.Cases.{by_test}
use Rattle.lists.proofs.Counts.{any_map}
use Rattle.lists.proofs.Filters.{filter_filter_append}
use Rattle.ledger.proofs.KeptPins.{SetsNoPin, pins_carried}
use Rattle.ledger.proofs.Standing.{sets_on, stood}
use Rattle.ledger.specs.Kept.{PinsKept}
use Rattle.ledger.specs.Compared.{Shown, shown}
use Rattle.ledger.specs.Expirations.{DueTime, by_local, by_global, pinned, Expiration}
use Rattle.ledger.specs.Ledger.{Ledger, after_by, carried_out}
use Rattle.ledger.specs.Limits.{task_count, is_small}
use Rattle.ledger.specs.Objects.{Object, Memory, stands}
use Rattle.ledger.specs.Refusals.{Test, verdict, Facts, is_held}
use Rattle.ledger.specs.Rules.{memory_after, expirations_after}
use Rattle.ledger.specs.Tasks.{Clocks, task_at, is_absent, is_running, is_waiting, is_viewing}
use Rattle.ledger.specs.declared.Call.{Call}
use Rattle.ledger.specs.declared.Limits.{Limits}
use Rattle.ledger.specs.declared.State.{State}
use Rattle.ledger.specs.declared.State.TheVariants.{Absent, Running, Waiting, Viewing}
use Rattle.sheet.specs.Sheet.{Sheet, Known, numbered, stands_in, standing}

-- a verdict by whether all tests are passed
abbrev pub is_passed : Facts → List Test → Bool
is_passed f [] = true
is_passed f (t ∷ ts) = not (is_held f t) && is_passed f ts

pub by_passed {ℓ} : {A : Type ℓ} (f : Facts) (ts : List Test) (a b : A) → after_by (verdict f ts) a b ≡ cond (is_passed f ts) a b
unfolding verdict
by_passed f [] a b = refl
by_passed f (t ∷ ts) a b = by_test (is_held f t) (λ h. rw h) (λ h. rw h (by_passed f ts a b))

-- the states of a task
pub acting : (none : Bool) (s : State) (rest : Bool) → (not none && (not (is_absent s) && (not (is_waiting s) && (not (is_viewing s) && rest)))) ≡ ((not none && is_running s) && rest)
acting true s rest = refl
acting false Absent rest = refl
acting false Running rest = refl
acting false Waiting rest = refl
acting false Viewing rest = refl

-- who set it by its own clock is there
abbrev pub Present : Clocks → DueTime → Type 0
Present clocks (by_local setter at) = is_absent (task_at clocks setter).state ≡ false
Present clocks (by_global setter at) = Unit
Present clocks pinned = Unit

-- what is known of each expiration: its handle was given, and its setter is there
pub record Fine (clocks : Clocks) (given : ℕ) (x : Expiration) : Type 0 where
  pub first : 1 ≤ x.handle
  pub last : x.handle ≤ given
  pub there : Present clocks x.due

abbrev pub known : Object → Known
known o = record { handle = o.handle; small = is_small o.size }

pub record Follows (limits : Limits) (s : Sheet) (L : Ledger) : Type 0 where
  pub figures : L.memory.limits ≡ limits
  pub sixteen : length L.memory.clocks.tasks ≡ task_count
  pub clocks : s.clocks ≡ L.memory.clocks
  pub given : length s.stores ≡ L.memory.given
  pub lefts : s.lefts ≡ map (shown L.memory.clocks) L.expirations
  pub objects : map known L.memory.objects ≡ standing s
  pub each : All (Fine L.memory.clocks L.memory.given) L.expirations
  pub pins : PinsKept L.memory.pinned L.expirations

pub stands_shown : (clocks : Clocks) (xs : List Expiration) (handle : ℕ) → stands_in (map (shown clocks) xs) handle ≡ stands xs handle
stands_shown clocks xs handle = any_map (λ (x : Shown). eqb x.handle handle) (shown clocks) xs

numbered_append : (first : ℕ) (bs cs : List Bool) → numbered first (bs ++ cs) ≡ numbered first bs ++ numbered (first + length bs) cs
unfolding numbered
numbered_append first [] cs = ap (λ (n : ℕ). numbered n cs) (omega arith)
numbered_append first (b ∷ bs) cs =
    let same : suc first + length bs ≡ first + suc (length bs) = omega arith in
    rw (numbered_append (suc first) bs cs, same)

numbered_below : (first : ℕ) (bs : List Bool) → All (λ (k : Known). k.handle < first + length bs) (numbered first bs)
unfolding numbered
numbered_below first [] = tt
numbered_below first (b ∷ bs) = (omega arith, all_imp (λ k h. omega (arith, h)) (numbered (suc first) bs) (numbered_below (suc first) bs))

-- objects by what stands of them
known_standing : (clocks : Clocks) (xs : List Expiration) (os : List Object)
    → map known (filter (λ (o : Object). stands xs o.handle) os) ≡ filter (λ (k : Known). stands_in (map (shown clocks) xs) k.handle) (map known os)
known_standing clocks xs [] = refl
known_standing clocks xs (o ∷ os) =
    rw (stands_shown clocks xs o.handle)
    (by_test (stands xs o.handle) (λ e. rw (e, known_standing clocks xs os)) (λ e. rw (e, known_standing clocks xs os)))

module _ (limits : Limits) (s : Sheet) (L : Ledger) (f : Follows limits s L) (call : Call) (new : List ℕ) where
  abbrev m : Memory
  m = L.memory

  abbrev xs : List Expiration
  xs = L.expirations

  abbrev then : Memory
  then = memory_after call new m

  abbrev ys : List Expiration
  ys = expirations_after call new m xs

  stood_on : all (stands xs) (sets_on call new) ≡ true → (lefts : List Shown) → lefts ≡ map (shown then.clocks) ys → (k : Known) → k.handle < 1 + length s.stores
      → stands_in lefts k.handle ≡ true → stands_in s.lefts k.handle ≡ true
  stood_on e lefts q k l h =
      let stand : stands ys k.handle ≡ true = sym (stands_shown then.clocks ys k.handle) ∙ ap (λ (zs : List Shown). stands_in zs k.handle) (sym q) ∙ h in
      ap (λ (zs : List Shown). stands_in zs k.handle) f.lefts ∙ stands_shown m.clocks xs k.handle
      ∙ stood m xs call new e k.handle (omega (arith, l, f.given)) stand

  -- a call that is carried out
  pub finish : (t : Sheet) (extra : List Bool) → all (stands xs) (sets_on call new) ≡ true → SetsNoPin call
      → then.limits ≡ m.limits → length then.clocks.tasks ≡ task_count → t.clocks ≡ then.clocks
      → t.lefts ≡ map (shown then.clocks) ys
      → t.stores ≡ s.stores ++ extra → then.given ≡ m.given + length extra
      → map known then.objects ≡ map known m.objects ++ numbered (1 + length s.stores) extra
      → All (Fine then.clocks then.given) ys
      → Follows limits t (carried_out L call new)
  finish t extra e pin fixed sixteen clocks lefts stores given objects each =
      let p : Known → Bool = λ k. stands_in t.lefts k.handle in
      let q : Known → Bool = λ k. stands_in s.lefts k.handle in
      let old = numbered 1 s.stores in
      let more = numbered (1 + length s.stores) extra in
      record {
        figures = fixed ∙ f.figures;
        sixteen = sixteen;
        clocks = clocks;
        given = ap length stores ∙ length-append s.stores extra ∙ ap (λ (n : ℕ). n + length extra) f.given ∙ sym given;
        lefts = lefts;
        objects =
            known_standing then.clocks ys then.objects
            ∙ ap (λ (zs : List Shown). filter (λ (k : Known). stands_in zs k.handle) (map known then.objects)) (sym lefts)
            ∙ ap (filter p) (objects ∙ ap (λ (ks : List Known). ks ++ more) f.objects)
            ∙ filter_filter_append p q old more (all_imp (λ k l h. stood_on e t.lefts lefts k l h) old (numbered_below 1 s.stores))
            ∙ ap (filter p) (sym (numbered_append 1 s.stores extra) ∙ ap (numbered 1) (sym stores));
        each = each;
        pins = pins_carried m xs call new pin f.pins;
      }

  -- one that makes no object
  pub stay : (t : Sheet) → all (stands xs) (sets_on call new) ≡ true → SetsNoPin call
      → then.limits ≡ m.limits → length then.clocks.tasks ≡ task_count → t.clocks ≡ then.clocks
      → t.lefts ≡ map (shown then.clocks) ys
      → t.stores ≡ s.stores → then.given ≡ m.given
      → map known then.objects ≡ map known m.objects
      → All (Fine then.clocks m.given) ys
      → Follows limits t (carried_out L call new)
  unfolding numbered
  stay t e pin fixed sixteen clocks lefts stores given objects each =
      finish t [] e pin fixed sixteen clocks lefts (stores ∙ sym (append-nil s.stores)) (omega (arith, given)) (objects ∙ sym (append-nil (map known m.objects)))
      (rw given each)
