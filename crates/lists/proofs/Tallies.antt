-- A loop that counts how many elements have each number below k: the start, the turn and the end of its invariant; and two functions that
-- give the same on the first numbers.
use Prim.Native.Nat.{ℕ, ◌+◌, ◌≤◌, ◌<◌}
use native.Mathlib.Numerals.{add-one}
use native.Mathlib.Omega.{arith}
use mathlib.Core.Bool.{Bool, cond, not}
use mathlib.Core.List.{List, [], ◌∷◌}
use mathlib.Core.Path.{◌≡◌, refl, sym}
use borrow.Author.Tests.{eqb-true, eqb-false, eq-eqb}
use lib.Dec.{eqb}
use lib.ListN.{length, get_or, set, take, replicate, length-set, length-replicate, get_or-replicate, length-take}
use lib.Seq.{get_or-set_same, get_or-set_other, take-suc, take_all}
use Rattle.lists.specs.Sums.{sum_below}
use Rattle.lists.specs.Tests.{count}
use Rattle.lists.proofs.Cases.{by_test}
use Rattle.lists.proofs.Counts.{count_append}
use Rattle.lists.proofs.Sums.{sum_le}

module _ {ℓ} {A : Type ℓ} where
  pub count_most : (p : A → Bool) (xs : List A) → count p xs ≤ length xs
  count_most p [] = omega arith
  count_most p (x ∷ xs) = let h = count_most p xs in by_test (p x) (λ e. rw e (omega arith)) (λ e. rw e (omega arith))

  -- those that pass and those that do not are all
  pub count_both : (p : A → Bool) (xs : List A) → count (λ (x : A). not (p x)) xs + count p xs ≡ length xs
  count_both p [] = refl
  count_both p (x ∷ xs) = let h = count_both p xs in by_test (p x) (λ e. rw e (omega arith)) (λ e. rw e (omega arith))

module _ {ℓ} {A : Type ℓ} (f : A → ℕ) (xs : List A) where
  -- after i turns: a counter for each number
  pub record Counters (k i : ℕ) (out : List ℕ) : Type ℓ where
    pub size : length out ≡ k
    pub so : (j : ℕ) → j < k → get_or out j 0 ≡ count (λ (x : A). eqb (f x) j) (take i xs)

  pub counters_start : (k : ℕ) → Counters k 0 (replicate k 0)
  counters_start k = let none : ℕ = 0 in record { size = length-replicate k none; so = λ j l. get_or-replicate k j none none l }

  pub counters_most : {k i : ℕ} {out : List ℕ} → Counters k i out → (j : ℕ) → j < k → get_or out j 0 ≤ i
  counters_most {i = i} t j l =
      let part : length (take i xs) ≤ i = simp length-take (omega arith) in
      rw (t.so j l) (omega (arith, count_most (λ (x : A). eqb (f x) j) (take i xs), part))

  next : (m j i : ℕ) (d : A) → i < length xs → f (get_or xs i d) ≡ m
      → count (λ (x : A). eqb (f x) j) (take (i + 1) xs) ≡ count (λ (x : A). eqb (f x) j) (take i xs) + cond (eqb m j) 1 0
  next m j i d l e = rw (add-one, take-suc xs i d l, count_append, e) (by_test (eqb m j) (λ q. rw q) (λ q. rw q))

  pub counters_turn : {k i m : ℕ} {out : List ℕ} (d : A) → Counters k i out → i < length xs → m ≡ f (get_or xs i d) → m < k
      → Counters k (i + 1) (set out m (get_or out m 0 + 1))
  counters_turn {k} {i} {m} {out} d t l e below =
      record {
        size = simp length-set t.size;
        so = λ j b.
            by_test (eqb m j)
            (λ q. let same = eqb-true m j q in
            rw (← same, get_or-set_same out m (get_or out m 0 + 1) 0 (omega (arith, t.size)), next m m i d l (sym e), eq-eqb m m refl, t.so m below))
            (λ q. rw (get_or-set_other out m j (get_or out m 0 + 1) 0 (λ p. eqb-false m j q (sym p)), next m j i d l (sym e), q) (omega (arith, t.so j b)));
      }

  pub counters_end : {k i : ℕ} {out : List ℕ} → Counters k i out → length xs ≤ i → (j : ℕ) → j < k → get_or out j 0 ≡ count (λ (x : A). eqb (f x) j) xs
  counters_end {i = i} t h j l = rw (take_all i xs h) at (t.so j l)

-- two functions that agree below n
pub sum_agree : (n : ℕ) (f g : ℕ → ℕ) → ((i : ℕ) → i < n → f i ≡ g i) → sum_below n f ≡ sum_below n g
sum_agree n f g h =
    omega (arith, sum_le n f g (λ i l. omega (arith, h i l)), sum_le n g f (λ i l. omega (arith, h i l)))
