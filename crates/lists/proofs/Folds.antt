-- Lists gone through from a start to the end, as `fold` does: a test of all elements is `all`, of some `any`.
use Prim.Native.Nat.{ℕ, ◌+◌, ◌-◌, ◌≤◌}
use native.Mathlib.Omega.{arith}
use mathlib.Core.Bool.{Bool, true, false, ◌&&◌, ◌||◌, and_assoc, or_assoc, and-true, or-false}
use mathlib.Core.List.{List, [], ◌∷◌}
use mathlib.Core.Path.{◌≡◌, sym, ap, ◌∙◌}
use lib.ListN.{take, drop}
use Rattle.std.specs.List.{fold, slice_range}
use Rattle.lists.specs.Tests.{any, all}
use Rattle.lists.proofs.Blocks.{drop_take}

module _ {A : Type 0} where
  pub fold_and : (p : A → Bool) (fit : Bool) (xs : List A) → fold (λ fit x. fit && p x) fit xs ≡ (fit && all p xs)
  fold_and p fit [] = sym (and-true fit)
  fold_and p fit (x ∷ xs) = fold_and p (fit && p x) xs ∙ and_assoc fit (p x) (all p xs)

  pub fold_all : (p : A → Bool) (xs : List A) → fold (λ fit x. fit && p x) true xs ≡ all p xs
  fold_all p xs = fold_and p true xs

  pub fold_or : (p : A → Bool) (some : Bool) (xs : List A) → fold (λ some x. some || p x) some xs ≡ (some || any p xs)
  fold_or p some [] = sym (or-false some)
  fold_or p some (x ∷ xs) = fold_or p (some || p x) xs ∙ or_assoc some (p x) (any p xs)

  pub fold_any : (p : A → Bool) (xs : List A) → fold (λ some x. some || p x) false xs ≡ any p xs
  fold_any p xs = fold_or p false xs

  -- a part of a list in other words
  part : (a b : ℕ) (xs : List A) → a ≤ b → slice_range xs a b ≡ drop a (take b xs)
  part a b xs h = let end : a + (b - a) ≡ b = omega arith in sym (drop_take a (b - a) xs) ∙ ap (λ (n : ℕ). drop a (take n xs)) end

  -- of a part: r is what the fold gave
  pub all_part : (p : A → Bool) (a b : ℕ) (xs : List A) (r : Bool) → a ≤ b → r ≡ fold (λ fit x. fit && p x) true (slice_range xs a b)
      → r ≡ all p (drop a (take b xs))
  all_part p a b xs r h e = e ∙ fold_all p _ ∙ ap (all p) (part a b xs h)

  pub any_part : (p : A → Bool) (a b : ℕ) (xs : List A) (r : Bool) → a ≤ b → r ≡ fold (λ some x. some || p x) false (slice_range xs a b)
      → r ≡ any p (drop a (take b xs))
  any_part p a b xs r h e = e ∙ fold_any p _ ∙ ap (any p) (part a b xs h)
