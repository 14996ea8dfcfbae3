-- The library's sum of a list of numbers is the sum of its elements one by one, and of them by their places.
use Prim.Native.Nat.{ℕ, zero, suc, ◌+◌}
use native.Mathlib.Omega.{arith}
use mathlib.Core.List.{List, [], ◌∷◌}
use mathlib.Core.Path.{◌≡◌, refl}
use lib.ListN.{length, get_or}
use Rattle.std.specs.List.{fold, sum}
use Rattle.lists.specs.Sums.{total, sum_below}

summed_on : (a : ℕ) (xs : List ℕ) → fold (λ a x. a + x) a xs ≡ a + total xs
unfolding total
summed_on a [] = omega arith
summed_on a (x ∷ xs) = let rest = summed_on (a + x) xs in omega arith

pub sum_total : (xs : List ℕ) → sum xs ≡ total xs
sum_total xs = let all = summed_on 0 xs in omega arith

-- what a function gives on the numbers below n: on 0, and on the others
sum_first : (n : ℕ) (f : ℕ → ℕ) → sum_below (suc n) f ≡ f 0 + sum_below n (λ (k : ℕ). f (suc k))
unfolding sum_below
sum_first zero f = refl
sum_first (suc n) f = let rest = sum_first n f in omega arith

pub total_below : (xs : List ℕ) → total xs ≡ sum_below (length xs) (λ (k : ℕ). get_or xs k 0)
unfolding total sum_below
total_below [] = refl
total_below (x ∷ xs) = let rest = total_below xs in omega (arith, sum_first (length xs) (λ (k : ℕ). get_or (x ∷ xs) k 0))
