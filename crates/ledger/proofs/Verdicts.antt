-- When the pool and the heap come to one verdict: laws over any list of tests.
use mathlib.Core.Bool.{Bool, true, false, false≢true, not, ◌&&◌, ◌||◌, and-eq-true_iff, and-true}
use mathlib.Core.List.{List, [], ◌∷◌}
use mathlib.Core.Option.{Option, none, some}
use mathlib.Core.Path.{◌≡◌, refl}
use borrow.Author.Tests.{not-true}
use lib.Dec.{eqb}
use Rattle.lists.proofs.Cases.{by_test, and₃, or_map}
use Rattle.ledger.specs.Numbers.{number_of}
use Rattle.ledger.specs.Refusals.{Facts, Test, shared, own, verdict, heap_verdict}
use Rattle.ledger.specs.Heap.{is_left_aside}
use Rattle.ledger.specs.declared.Refusal.{Refusal}

-- a refusal that only the pool gives
abbrev pub is_own : Refusal → Bool
is_own r = eqb (number_of r) 9 || eqb (number_of r) 10 || eqb (number_of r) 12 || eqb (number_of r) 25 || eqb (number_of r) 26

abbrev pub is_own_verdict : Option Refusal → Bool
is_own_verdict none = false
is_own_verdict (some r) = is_own r

-- no test of the pool's own holds
abbrev pub is_clear : Facts → List Test → Bool
is_clear f [] = true
is_clear f (shared r holds ∷ ts) = is_clear f ts
is_clear f (own r holds ∷ ts) = not (holds f) && is_clear f ts

-- none of the heap's refusals that are left aside can come by these facts
abbrev pub is_late : Facts → List Test → Bool
is_late g [] = true
is_late g (shared r holds ∷ ts) = not (is_left_aside (some r) && holds g) && is_late g ts
is_late g (own r holds ∷ ts) = is_late g ts

-- no test is the pool's own
abbrev pub is_shared : List Test → Bool
is_shared [] = true
is_shared (shared r holds ∷ ts) = is_shared ts
is_shared (own r holds ∷ ts) = false

-- each refusal that is left aside is tested before the pool's own ones or is never this heap's, and 13 and 22 are tested after them
abbrev pub is_ordered : Facts → List Test → Bool
is_ordered g [] = true
is_ordered g (shared r holds ∷ ts) = not (is_own r) && (is_left_aside (some r) || is_shared ts) && is_ordered g ts
is_ordered g (own r holds ∷ ts) = is_own r && is_late g ts && is_ordered g ts

-- the shared tests come out the same by either's facts, as far as the pool gets
abbrev pub Agree : Facts → Facts → List Test → Type 0
Agree f g [] = Unit
Agree f g (shared r holds ∷ ts) = (holds f ≡ holds g) × Agree f g ts
Agree f g (own r holds ∷ ts) = holds f ≡ false → Agree f g ts

-- what the heap makes of late tests is never left aside
late_stays : (g : Facts) (ts : List Test) → is_late g ts ≡ true → is_left_aside (heap_verdict g ts) ≡ false
unfolding heap_verdict
late_stays g [] e = refl
late_stays g (shared r holds ∷ ts) e =
    let (l, ls) = (and-eq-true_iff (not (is_left_aside (some r) && holds g)) (is_late g ts)).0 e in
    by_test (holds g) (λ h. rw h (not-true _ (rw (h, and-true) at l))) (λ h. rw h (late_stays g ts ls))
late_stays g (own r holds ∷ ts) e = late_stays g ts e

-- with no test of the pool's own, none holds
shared_clear : (f : Facts) (ts : List Test) → is_shared ts ≡ true → is_clear f ts ≡ true
shared_clear f [] e = refl
shared_clear f (shared r holds ∷ ts) e = shared_clear f ts e
shared_clear f (own r holds ∷ ts) e = absurd (false≢true e)

-- the heap never gives a refusal of the pool's own
pub heap_not_own : (g : Facts) (ts : List Test) → is_ordered g ts ≡ true → is_own_verdict (heap_verdict g ts) ≡ false
unfolding heap_verdict
heap_not_own g [] e = refl
heap_not_own g (shared r holds ∷ ts) e =
    let (o, p, es) = and₃ (not (is_own r)) (is_left_aside (some r) || is_shared ts) (is_ordered g ts) e in
    by_test (holds g) (λ h. rw h (not-true _ o)) (λ h. rw h (heap_not_own g ts es))
heap_not_own g (own r holds ∷ ts) e = let (o, l, es) = and₃ (is_own r) (is_late g ts) (is_ordered g ts) e in heap_not_own g ts es

-- how the two verdicts compare, where `fine` says that the call is left aside or that no test of the pool's own holds
pub data Compared (fine : Bool) (pool heap : Option Refusal) : Type 0 where
  alike : fine ≡ true → pool ≡ heap → Compared fine pool heap
  apart : fine ≡ false → is_own_verdict pool ≡ true → Compared fine pool heap

pub compared : (f g : Facts) (ts : List Test) → is_ordered g ts ≡ true → Agree f g ts
    → Compared (is_left_aside (heap_verdict g ts) || is_clear f ts) (verdict f ts) (heap_verdict g ts)
unfolding heap_verdict verdict
compared f g [] e a = alike refl refl
compared f g (shared r holds ∷ ts) e (a, rest) =
    let (o, p, es) = and₃ (not (is_own r)) (is_left_aside (some r) || is_shared ts) (is_ordered g ts) e in
    by_test (holds g)
    (λ h. rw (a, h) (alike (or_map (is_left_aside (some r)) (shared_clear f ts) p) refl))
    (λ h. rw (a, h) (compared f g ts es rest))
compared f g (own r holds ∷ ts) e a =
    let (o, l, es) = and₃ (is_own r) (is_late g ts) (is_ordered g ts) e in
    by_test (holds f) (λ h. rw (h, late_stays g ts l) (apart refl o)) (λ h. rw h (compared f g ts es (a h)))
