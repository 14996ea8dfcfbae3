-- A call that is carried out has passed all its tests, and its answer is no refusal.
use Prim.Native.Nat.{ℕ}
use mathlib.Core.Bool.{Bool, true, false, cond}
use mathlib.Core.List.{List, [], ◌∷◌}
use mathlib.Core.Option.{Option, none, some, IsSome}
use mathlib.Core.Path.{◌≡◌, refl, subst}
use Rattle.lists.proofs.Cases.{by_test}
use Rattle.ledger.specs.Tasks.{is_tested}
use Rattle.ledger.specs.Expirations.{Expiration}
use Rattle.ledger.specs.Objects.{Memory, Reply}
use Rattle.ledger.specs.Refusals.{Facts, facts_of, Test, refusal_of, is_held, verdict, as_verdict}
use Rattle.ledger.specs.Rules.{reply_to, tests_of}
use Rattle.ledger.specs.Ledger.{reply_by}
use Rattle.ledger.specs.declared.Answer.{Answer}
use Rattle.ledger.specs.declared.Answer.TheVariants.{Refused, Done, Advanced, Handle, Bytes, Counted, Lasts}
use Rattle.ledger.specs.declared.Call.{Call}
use Rattle.ledger.specs.declared.Call.TheVariants.{Join, Schedule, Make, Refresh, Read, Write, Batch, Release}
use Rattle.ledger.specs.declared.Refusal.{Refusal}
use Rattle.std.specs.Prelude.{Ok, Err}

abbrev pub AllPassed : Facts → List Test → Type 0
AllPassed f [] = Unit
AllPassed f (t ∷ ts) = (is_held f t ≡ false) × AllPassed f ts

abbrev pub Passed : Memory → List Expiration → Call → List ℕ → Type 0
Passed m xs call new = AllPassed (facts_of m xs) (tests_of call new)

-- a test that gives no refusal does not hold, and leaves it to the others
first : (b : Bool) (r : Refusal) {later : Option Refusal} {C : Type 0} → (later ≡ none → C)
    → cond b (some r) later ≡ none → (b ≡ false) × C
first true r f e = absurd (subst IsSome e tt)
first false r f e = (refl, f e)

pub passed : (f : Facts) (ts : List Test) → verdict f ts ≡ none → AllPassed f ts
unfolding verdict
passed f [] e = tt
passed f (t ∷ ts) e = first (is_held f t) (refusal_of t) (passed f ts) e

-- code's verdict tells the ledger's
pub accepted_none : (v : Option Refusal) → as_verdict v ≡ Ok tt → v ≡ none
accepted_none none e = refl
accepted_none (some r) e = cc

pub refused_some : (v : Option Refusal) {r : Refusal} → as_verdict v ≡ Err r → v ≡ some r
refused_some none e = cc
refused_some (some r) e = cc

-- the refusal in an answer
abbrev pub refusal_in : Answer → Option Refusal
refusal_in (Refused r) = some r
refusal_in Done = none
refusal_in (Advanced b) = none
refusal_in (Handle h) = none
refusal_in Bytes = none
refusal_in (Counted u) = none
refusal_in (Lasts life) = none

-- one that is carried out has none,
no_refusal : (call : Call) (m : Memory) → refusal_in (reply_to call m).answer ≡ none
unfolding reply_to
no_refusal (Join task share) m = refl
no_refusal (Schedule event task) m = by_test (is_tested event) (λ e. rw e) (λ e. rw e)
no_refusal (Make task kind extension size prefix) m = refl
no_refusal (Refresh task kind extension handle) m = refl
no_refusal (Read task handle) m = refl
no_refusal (Write task handle offset) m = refl
no_refusal (Batch task kind extension) m = refl
no_refusal (Release task handle) m = refl

-- and so a reply tells its verdict
pub verdict_told : (v : Option Refusal) (y : Reply) → refusal_in y.answer ≡ none → refusal_in (reply_by v y).answer ≡ v
verdict_told none y e = e
verdict_told (some r) y e = refl

pub refusal_told : (v : Option Refusal) (call : Call) (m : Memory) → refusal_in (reply_by v (reply_to call m)).answer ≡ v
refusal_told v call m = verdict_told v (reply_to call m) (no_refusal call m)
