-- A numeral grows by a digit, and has as many as there are places at most.
use Prim.Native.Nat.{ℕ, zero, suc, ◌+◌, ◌*◌, ◌/◌, ◌%◌, ◌≤◌, ◌<◌}
use native.Mathlib.Omega.{arith}
use mathlib.Core.List.{List, [], ◌∷◌, ◌++◌}
use mathlib.Core.Path.{◌≡◌, ap, ◌∙◌}
use borrow.Author.Tests.{lt-ltb, le-ltb, ltb-false}
use lib.Dec.{ltb}
use lib.ListN.{length, length-append}
use Rattle.lists.proofs.Cases.{by_test}
use Rattle.text.specs.Decimals.{numeral_of, numeral}

-- 10 to a power
unfoldable pub ten : ℕ → ℕ
ten zero = 1
ten (suc k) = 10 * ten k

-- more places than a number needs are not used
numeral_more : (k v : ℕ) → 1 ≤ v → v < ten k → numeral_of k v ≡ numeral_of (suc k) v
unfolding ten numeral_of
numeral_more zero v l h = absurd (omega (arith, l, h))
numeral_more (suc k) v l h =
    by_test (ltb v 10)
    (λ e. rw e)
    (λ e. rw (e, numeral_more k (v / 10) (omega (arith, ltb-false v 10 e)) (omega (arith, h))))

-- a digit more
grown : (v d : ℕ) → 1 ≤ v → d < 10 → numeral_of 5 (10 * v + d) ≡ numeral_of 4 v ++ ((48 + d) ∷ [])
unfolding numeral_of
grown v d l k =
    let whole : (10 * v + d) / 10 ≡ v = omega (arith, k) in
    let rest : (10 * v + d) % 10 ≡ d = omega (arith, k) in
    rw (le-ltb (10 * v + d) 10 (omega (arith, l)), whole, rest)

pub numeral_snoc : (v d : ℕ) → 1 ≤ v → v < 10000 → d < 10 → numeral (10 * v + d) ≡ numeral v ++ ((48 + d) ∷ [])
unfolding ten
numeral_snoc v d l h k = grown v d l k ∙ ap (λ (xs : List ℕ). xs ++ ((48 + d) ∷ [])) (numeral_more 4 v l h)

pub numeral_digit : (d : ℕ) → d < 10 → numeral d ≡ (48 + d) ∷ []
unfolding numeral_of
numeral_digit d h = rw (lt-ltb d 10 h)

pub numeral_length : (places n : ℕ) → length (numeral_of places n) ≤ places
unfolding numeral_of
numeral_length zero n = omega arith
numeral_length (suc places) n =
    by_test (ltb n 10) (λ e. rw e (omega arith)) (λ e. rw (e, length-append) (omega (arith, numeral_length places (n / 10))))
