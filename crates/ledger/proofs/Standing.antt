-- What stands after a call stood before it, and an object that stands is found among those that do.
use Prim.Native.Nat.{ℕ, ◌+◌, ◌≤◌}
use native.Mathlib.Omega.{arith}
use mathlib.Core.Bool.{Bool, true, false, false≢true, not, and-eq-true_iff}
use mathlib.Core.List.{List, [], ◌∷◌}
use mathlib.Core.Path.{◌≡◌, refl, sym, ◌∙◌}
use borrow.Author.Tests.{eqb-true}
use lib.Dec.{eqb}
use Rattle.lists.specs.Tests.{all, filter, All}
use Rattle.lists.proofs.All.{all_widened}
use Rattle.lists.proofs.Cases.{by_test, or_second, or_right}
use Rattle.lists.proofs.Counts.{any_map}
use Rattle.lists.proofs.Filters.{any_filter}
use Rattle.ledger.specs.Tasks.{Clocks}
use Rattle.ledger.specs.Expirations.{departed, DueTime, Expiration, is_of, is_set_by, put_off, deserted, each_due, still_live, due_after, lasting, released, set_on_each}
use Rattle.ledger.specs.Objects.{Object, Memory, zeroed, object_at, stands, standing, handles_of}
use Rattle.ledger.specs.Rules.{expirations_after}
use Rattle.ledger.specs.Ledger.{Ledger}
use Rattle.ledger.specs.declared.Call.{Call}
use Rattle.ledger.specs.declared.Call.TheVariants.{Join, Schedule, Make, Refresh, Read, Write, Batch, Release}
use Rattle.ledger.specs.declared.Event.{Event}
use Rattle.ledger.specs.declared.Event.TheVariants.{Leave, Block, Resume, Tick, View}

-- an object that stands is the same object among the standing ones
pub at_standing : (xs : List Expiration) (handle : ℕ) (os : List Object) → stands xs handle ≡ true
    → object_at handle (standing xs os) ≡ object_at handle os
unfolding object_at
at_standing xs handle [] s = refl
at_standing xs handle (o ∷ os) s =
    by_test (eqb o.handle handle)
    (λ e. let d : stands xs o.handle ≡ true = rw (eqb-true o.handle handle e) s in rw (d, e))
    (λ e. by_test (stands xs o.handle) (λ d. rw (d, e) (at_standing xs handle os s)) (λ d. rw (d, e) (at_standing xs handle os s)))

-- where all stand, none is found by the handle of one that is gone
pub gone_object : (xs : List Expiration) (handle : ℕ) (os : List Object) → stands xs handle ≡ false
    → All (λ (o : Object). stands xs o.handle ≡ true) os
    → object_at handle os ≡ zeroed departed 0 0 0
unfolding object_at
gone_object xs handle [] gone stood = refl
gone_object xs handle (o ∷ os) gone (s, ss) =
    by_test (eqb o.handle handle) (λ e. absurd (false≢true (sym gone ∙ rw (eqb-true o.handle handle e) at s)))
    (λ e. rw e (gone_object xs handle os gone ss))

-- an event sets no expiration
due_stands : (f : DueTime → DueTime) (xs : List Expiration) (handle : ℕ) → stands (each_due f xs) handle ≡ stands xs handle
due_stands f xs handle = any_map (is_of handle) _ xs

live_stands : (advanced : Bool) (clocks : Clocks) (xs : List Expiration) (handle : ℕ) → stands (still_live advanced clocks xs) handle ≡ true
    → stands xs handle ≡ true
live_stands advanced clocks xs handle s =
    rw (due_stands (put_off advanced clocks) xs handle) at (any_filter _ _ (each_due (put_off advanced clocks) xs) s)

lasting_stands : (event : Event) (task : ℕ) (advanced : Bool) (clocks : Clocks) (xs : List Expiration) (handle : ℕ)
    → stands (lasting event task advanced clocks xs) handle ≡ true → stands xs handle ≡ true
unfolding lasting
lasting_stands Leave task advanced clocks xs handle s =
    let others : List Expiration = filter (λ (x : Expiration). not (is_set_by task x.due)) xs in
    any_filter (is_of handle) _ xs (rw (due_stands (deserted task) others handle) at (live_stands advanced clocks (each_due (deserted task) others) handle s))
lasting_stands Block task advanced clocks xs handle s = live_stands advanced clocks xs handle s
lasting_stands Resume task advanced clocks xs handle s = s
lasting_stands View task advanced clocks xs handle s = s
lasting_stands Tick task advanced clocks xs handle s = live_stands advanced clocks xs handle s

-- nor do refresh and batch set one where none stands
each_stands : (due : DueTime) (handles : List ℕ) (xs : List Expiration) → all (stands xs) handles ≡ true → (handle : ℕ)
    → stands (set_on_each due handles xs) handle ≡ true → stands xs handle ≡ true
unfolding set_on_each
each_stands due [] xs e handle s = s
each_stands due (h ∷ hs) xs e handle s =
    let (here, rest) = (and-eq-true_iff (stands xs h) (all (stands xs) hs)).0 e in
    or_second (eqb h handle) (λ a. rw (sym (eqb-true h handle a)) here) (each_stands due hs _ (all_widened (stands xs) _ (λ n t. or_right (eqb h n) t) hs rest) handle s)

-- a release sets none
released_stands : (released-handle : ℕ) (xs : List Expiration) (handle : ℕ) → stands (released released-handle xs) handle ≡ true → stands xs handle ≡ true
unfolding released
released_stands gone xs handle s = any_filter (is_of handle) _ xs s

-- the handles on which a call sets an expiration, but for the new one of a make
abbrev pub sets_on : Call → List ℕ → List ℕ
sets_on (Join task share) new = []
sets_on (Schedule event task) new = []
sets_on (Make task kind extension size prefix) new = []
sets_on (Refresh task kind extension handle) new = handle ∷ []
sets_on (Read task handle) new = []
sets_on (Write task handle offset) new = []
sets_on (Batch task kind extension) new = handles_of new
sets_on (Release task handle) new = []

-- where these stand, a handle that was given stands after the call only if it stood before
pub stood : (m : Memory) (xs : List Expiration) (call : Call) (new : List ℕ) → all (stands xs) (sets_on call new) ≡ true
    → (handle : ℕ) → handle ≤ m.given → stands (expirations_after call new m xs) handle ≡ true → stands xs handle ≡ true
unfolding expirations_after set_on_each
stood m xs (Join task share) new e handle g s = s
stood m xs (Schedule event task) new e handle g s = lasting_stands event task _ _ xs handle s
stood m xs (Make task kind extension size prefix) new e handle g s =
    or_second (eqb (m.given + 1) handle) (λ a. absurd (omega (arith, g, eqb-true (m.given + 1) handle a))) s
stood m xs (Refresh task kind extension used) new e handle g s = each_stands (due_after m.clocks task kind extension) (used ∷ []) xs e handle s
stood m xs (Read task used) new e handle g s = s
stood m xs (Write task used offset) new e handle g s = s
stood m xs (Batch task kind extension) new e handle g s = each_stands _ (handles_of new) xs e handle s
stood m xs (Release task used) new e handle g s = released_stands used xs handle s

-- every object of the ledger stands
abbrev pub Standing : Ledger → Type 0
Standing L = All (λ (o : Object). stands L.expirations o.handle ≡ true) L.memory.objects
