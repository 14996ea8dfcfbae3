-- Handles counted by their remainders: where no remainder is there twice, no two handles are the same.
use Prim.Native.Nat.{ℕ, suc, ◌+◌, ◌-◌, ◌%◌, ◌≤◌, ◌<◌}
use native.Mathlib.Numerals.{add-one}
use native.Mathlib.Omega.{arith}
use mathlib.Core.Bool.{Bool, true, false, cond, not, ◌||◌}
use mathlib.Core.List.{List, [], ◌∷◌}
use mathlib.Core.Path.{◌≡◌, refl, sym, ◌∙◌}
use borrow.Author.Tests.{eqb-true, eqb-false, eq-eqb}
use lib.Dec.{eqb}
use lib.ListN.{length, get_or, set, take, replicate, length-set, length-replicate, get_or-replicate}
use lib.Seq.{take-suc, length-take-le, take_all, get_or-set_same, get_or-set_other}
use Rattle.lists.specs.Tests.{any, count}
use Rattle.lists.proofs.Cases.{by_test, cond_same}
use Rattle.lists.proofs.Counts.{count_append, length_filter}
use Rattle.lists.proofs.Filters.{count_length}
use Rattle.lists.proofs.Implied.{any_none}
use Rattle.record.specs.WellFormed.{is_distinct}
use Rattle.handles.specs.Handles.{is_of_rest, has_rest, Counted, UsedFlags}

module _ {ℓ} {A : Type ℓ} (p : A → Bool) where
  pub count_most : (xs : List A) → count p xs ≤ length xs
  count_most xs = rw count_length (length_filter p xs)

  pub none_counted : (xs : List A) → count p xs ≡ 0 → any p xs ≡ false
  none_counted [] e = refl
  none_counted (x ∷ xs) e = by_test (p x) (λ t. absurd (omega (arith, rw t at e))) (λ t. rw t (none_counted xs (rw t at e)))

-- the first i handles are counted, those of free blocks too
pub record CountedTo (hs : List ℕ) (i : ℕ) (out : List ℕ) : Type 0 where
  pub size : length out ≡ 256
  pub so : (k : ℕ) → k < 256 → get_or out k 0 ≡ count (is_of_rest k) (take i hs)

pub counted_start : (hs : List ℕ) → CountedTo hs 0 (replicate 256 0)
counted_start hs = record { size = length-replicate {A = ℕ} 256 0; so = λ k l. get_or-replicate 256 k 0 0 (omega arith) }

module _ {hs : List ℕ} {i : ℕ} {out : List ℕ} (m : CountedTo hs i out) (within : i < length hs) {at : ℕ} (a : at ≡ get_or hs i 0 % 256) where
  pub counted_turn : CountedTo hs (i + 1) (set out at (get_or out at 0 + 1))
  counted_turn =
      record {
        size = simp length-set m.size;
        so = λ k l.
            let one_more : count (is_of_rest k) (take (i + 1) hs) ≡ get_or out k 0 + count (is_of_rest k) (get_or hs i 0 ∷ []) =
            rw (add-one, take-suc hs i 0 within, count_append, ← m.so k l) in
            rw (one_more, ← a)
            (by_test (eqb at k)
            (λ t. rw (t, eqb-true at k t) (get_or-set_same out k _ 0 (omega (arith, m.size))))
            (λ t. rw t (get_or-set_other out at k _ 0 (λ f. eqb-false at k t (sym f)) ∙ omega arith)));
      }

  pub counted_fits : get_or out at 0 ≤ i
  counted_fits = omega (arith, m.so at (omega arith), count_most (is_of_rest at) (take i hs), length-take-le i hs (omega arith))

-- at the remainder 0 the free ones count too
free_apart : (k : ℕ) (hs : List ℕ) (used : List Bool) → length used ≡ length hs → ((i : ℕ) → i < length hs → get_or used i false ≡ not (eqb (get_or hs i 0) 0))
    → count (is_of_rest k) hs ≡ count (has_rest k) hs + cond (eqb 0 k) (count not used) 0
free_apart k [] [] n f = rw cond_same
free_apart k [] (u ∷ us) n f = absurd (omega arith)
free_apart k (h ∷ hs) [] n f = absurd (omega arith)
free_apart k (h ∷ hs) (u ∷ us) n f =
    let head : u ≡ not (eqb h 0) = f 0 (omega arith) in
    let rest = free_apart k hs us (omega arith) (λ i l. f (suc i) (omega arith)) in
    by_test (eqb h 0)
    (λ z. rw (head, z, eqb-true h 0 z, rest) (by_test (eqb 0 k) (λ e. rw e (omega arith)) (λ e. rw e)))
    (λ z. rw (head, z, rest) (by_test (eqb (h % 256) k) (λ e. rw e (omega arith)) (λ e. rw e)))

module _ {hs : List ℕ} {used : List Bool} (size : length hs ≡ 96) (u : UsedFlags hs used) {i : ℕ} {out : List ℕ} (m : CountedTo hs i out) (h : 96 ≤ i) where
  pub counted_all : (k : ℕ) → k < 256 → get_or out k 0 ≡ count (has_rest k) hs + cond (eqb 0 k) (count not used) 0
  counted_all k l =
      (rw (take_all i hs (omega arith)) at (m.so k l))
      ∙ free_apart k hs used (u.size ∙ sym size) (λ i l. u.so i (omega arith))

  pub counted_end : {free : ℕ} → free ≡ count not used → Counted hs (set out 0 (get_or out 0 0 - free))
  counted_end {free} e =
      record {
        size = simp length-set m.size;
        so = λ k l.
            by_test (eqb 0 k)
            (λ t. rw (← eqb-true 0 k t) (get_or-set_same out 0 _ 0 (omega (arith, m.size)) ∙ omega (arith, counted_all 0 (omega arith))))
            (λ t. get_or-set_other out 0 k _ 0 (λ f. eqb-false 0 k t (sym f)) ∙ omega (arith, rw t at (counted_all k l)));
      }

-- each remainder is there at most once
pub few_distinct : (hs : List ℕ) → ((k : ℕ) → k < 256 → count (has_rest k) hs < 2) → is_distinct hs ≡ true
few_distinct [] f = refl
few_distinct (h ∷ hs) f =
    let new : (eqb h 0 || not (any (eqb h) hs)) ≡ true =
    by_test (eqb h 0)
    (λ z. rw z)
    (λ z.
    let self : has_rest (h % 256) h ≡ true = rw (z, eq-eqb (h % 256) (h % 256) refl) in
    let few : suc (count (has_rest (h % 256)) hs) < 2 = rw self at (f (h % 256) (omega arith)) in
    let none = none_counted (has_rest (h % 256)) hs (omega arith) in
    rw (z, any_none (eqb h) (has_rest (h % 256)) (λ x t. rw (← eqb-true h x t, z, eq-eqb (h % 256) (h % 256) refl)) hs none)) in
    rw new (few_distinct hs (λ k l. by_test (has_rest k h) (λ t. omega (arith, rw t at (f k l))) (λ t. rw t at (f k l))))
