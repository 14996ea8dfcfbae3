-- How many elements between two places pass a test, and how many in all have one of the first numbers; for any element type.
use Prim.Native.Nat.{ℕ, zero, suc, ◌+◌, ◌≤◌, ◌<◌}
use native.Mathlib.Omega.{arith}
use mathlib.Core.Bool.{Bool, false, cond, not, ◌&&◌, ◌||◌, and-true, and-false}
use mathlib.Core.List.{List, [], ◌∷◌}
use mathlib.Core.Path.{◌≡◌, refl, ◌∙◌}
use borrow.Author.Tests.{ltb-true, ltb-false, ne_eqb}
use lib.Dec.{eqb, ltb, eqb-suc-suc}
use lib.ListN.{length, get_or, take}
use Rattle.lists.specs.Sums.{sum_below}
use Rattle.lists.specs.Tests.{all, count}
use Rattle.lists.proofs.Cases.{by_test}
use Rattle.lists.proofs.Sums.{sum_same, sum_add, sum_zero, sum_just_one}
use Rattle.lists.proofs.Tallies.{sum_agree}

-- what passes q in all passes p between the two places
pub between {ℓ} : {A : Type ℓ} (p q : A → Bool) (d : A) (from to : ℕ) (xs : List A) → from ≤ to → to ≤ length xs
    → ((k : ℕ) → k < from → q (get_or xs k d) ≡ false)
    → ((k : ℕ) → from ≤ k → k < to → q (get_or xs k d) ≡ p (get_or xs k d))
    → ((k : ℕ) → to ≤ k → k < length xs → q (get_or xs k d) ≡ false)
    → count q xs + count p (take from xs) ≡ count p (take to xs)
between p q d zero zero [] h n a b c = refl
between p q d zero zero (x ∷ xs) h n a b c =
    let out : q x ≡ false = c 0 (omega arith) (omega arith) in
    rw out (between p q d zero zero xs h (omega arith) (λ k l. absurd (omega arith)) (λ k l m. absurd (omega arith)) (λ k l m. c (suc k) (omega arith) (omega arith)))
between p q d zero (suc to) [] h n a b c = absurd (omega arith)
between p q d zero (suc to) (x ∷ xs) h n a b c =
    let in_it : q x ≡ p x = b 0 (omega arith) (omega arith) in
    let rest = between p q d zero to xs (omega arith) (omega arith) (λ k l. absurd (omega arith)) (λ k l m. b (suc k) (omega arith) (omega arith)) (λ k l m. c (suc k) (omega arith) (omega arith)) in
    rw in_it (by_test (p x) (λ e. rw e (omega arith)) (λ e. rw e (omega arith)))
between p q d (suc from) zero xs h n a b c = absurd (omega arith)
between p q d (suc from) (suc to) [] h n a b c = absurd (omega arith)
between p q d (suc from) (suc to) (x ∷ xs) h n a b c =
    let out : q x ≡ false = a 0 (omega arith) in
    let rest = between p q d from to xs (omega arith) (omega arith) (λ k l. a (suc k) (omega arith)) (λ k l m. b (suc k) (omega arith) (omega arith)) (λ k l m. c (suc k) (omega arith) (omega arith)) in
    rw out (by_test (p x) (λ e. rw e (omega arith)) (λ e. rw e (omega arith)))

-- elements that pass t and have a number
module _ {ℓ} {A : Type ℓ} (t : A → Bool) (f : A → ℕ) (n : ℕ) where
  one : (a : ℕ) (b : Bool) → sum_below n (λ (j : ℕ). cond (b && eqb a j) 1 0) ≡ cond (b && ltb a n) 1 0
  one a b =
      by_test (ltb a n)
      (λ e. rw (e, and-true) (sum_just_one n a b (ltb-true a n e)))
      (λ e. rw (e, and-false)
      (sum_agree n _ (λ (j : ℕ). 0) (λ j l. rw (ne_eqb a j (λ q. omega (arith, q, ltb-false a n e)), and-false)) ∙ sum_zero n))

  first_one : (j : ℕ) (x : A) (xs : List A)
      → count (λ (y : A). t y && eqb (f y) j) (x ∷ xs) ≡ cond (t x && eqb (f x) j) 1 0 + count (λ (y : A). t y && eqb (f y) j) xs
  first_one j x xs = by_test (t x && eqb (f x) j) (λ e. rw e (omega arith)) (λ e. rw e (omega arith))

  by_numbers : (xs : List A) → sum_below n (λ (j : ℕ). count (λ (y : A). t y && eqb (f y) j) xs) ≡ count (λ (y : A). t y && ltb (f y) n) xs
  by_numbers [] = sum_zero n
  by_numbers (x ∷ xs) =
      sum_same n _ _ (λ j. first_one j x xs)
      ∙ sum_add n (λ (j : ℕ). cond (t x && eqb (f x) j) 1 0) (λ (j : ℕ). count (λ (y : A). t y && eqb (f y) j) xs)
      ∙ rw (one (f x) (t x), by_numbers xs) (by_test (t x && ltb (f x) n) (λ e. rw e (omega arith)) (λ e. rw e (omega arith)))

  fewer : (xs : List A) → count (λ (y : A). t y && ltb (f y) n) xs ≤ count t xs
  fewer [] = omega arith
  fewer (x ∷ xs) =
      let rest = fewer xs in
      by_test (t x) (λ e. rw e (by_test (ltb (f x) n) (λ l. rw l (omega arith)) (λ l. rw l (omega arith)))) (λ e. rw e rest)

  all_below : (xs : List A) → eqb (count (λ (y : A). t y && ltb (f y) n) xs) (count t xs) ≡ all (λ (y : A). not (t y) || ltb (f y) n) xs
  all_below [] = refl
  all_below (x ∷ xs) =
      by_test (t x)
      (λ e. rw e
      (by_test (ltb (f x) n)
      (λ l. rw (l, eqb-suc-suc) (all_below xs))
      (λ l. rw l (ne_eqb (count (λ (y : A). t y && ltb (f y) n) xs) (suc (count t xs)) (λ q. omega (arith, q, fewer xs))))))
      (λ e. rw e (all_below xs))

  -- where each of the first n numbers has its count, these are all that pass t exactly if no other number is there
  pub known_by : (xs : List A) → eqb (sum_below n (λ (j : ℕ). count (λ (y : A). t y && eqb (f y) j) xs)) (count t xs) ≡ all (λ (y : A). not (t y) || ltb (f y) n) xs
  known_by xs = rw (by_numbers xs) (all_below xs)
