-- Loops for any element type: a search that goes past a group in which none passes, and a list filled by another.
use Prim.Native.Nat.{ℕ, zero, suc, ◌+◌, ◌-◌, ◌≤◌, ◌<◌}
use native.Mathlib.Nat.{add-zero}
use native.Mathlib.Omega.{arith}
use mathlib.Core.Bool.{Bool, true, false, ◌||◌}
use mathlib.Core.List.{List, [], ◌∷◌, ◌++◌}
use mathlib.Core.Path.{◌≡◌, sym, ap, ◌∙◌}
use lib.Dec.{eqb}
use lib.ListN.{length, take, drop, get_or, length-take, length-drop, take-append-drop}
use lib.Seq.{take-take, drop-append-le}
use Rattle.std.specs.List.{fold, slice_range}
use Rattle.lists.specs.Tests.{any}
use Rattle.lists.specs.Tables.{first_from}
use Rattle.lists.proofs.Blocks.{drop_take}
use Rattle.lists.proofs.Cases.{or_false_parts}
use Rattle.lists.proofs.Folds.{fold_any}
use Rattle.lists.proofs.Loops.{Scanned}

-- this handle
abbrev pub is_of : ℕ → ℕ → Bool
is_of handle h = eqb h handle

-- whether some of a range has it, asked of each
pub some_of : (handle a b : ℕ) (hs : List ℕ) (r : Bool) → a ≤ b → r ≡ fold (λ found h. found || eqb h handle) false (slice_range hs a b) → r ≡ any (is_of handle) (drop a (take b hs))
some_of handle a b hs r h e =
    let end : a + (b - a) ≡ b = omega arith in
    e ∙ fold_any (is_of handle) _ ∙ ap (any (is_of handle)) (sym (drop_take a (b - a) hs) ∙ ap (λ (n : ℕ). drop a (take n hs)) end)

-- the elements from i up to n: those up to j, and those from there
split_at {ℓ} : {A : Type ℓ} (xs : List A) (i j n : ℕ) → i ≤ j → j ≤ n → n ≤ length xs
    → drop i (take n xs) ≡ drop i (take j xs) ++ drop j (take n xs)
split_at xs i j n ij jn h =
    ap (drop i) (sym (take-append-drop j (take n xs)) ∙ ap (λ ys. ys ++ drop j (take n xs)) (take-take j n xs jn))
    ∙ drop-append-le i (take j xs) (drop j (take n xs)) (simp length-take (omega arith))

module _ {ℓ} {A : Type ℓ} (p : A → Bool) where
  -- those in which none passes are passed over
  first_front : (i : ℕ) (xs ys : List A) → any p xs ≡ false → first_from i p (xs ++ ys) ≡ first_from (i + length xs) p ys
  first_front i [] ys e = rw add-zero
  first_front i (x ∷ xs) ys e =
      let (here, rest) = or_false_parts (p x) (any p xs) e in
      rw (here, first_front (suc i) xs ys rest) (ap (λ (k : ℕ). first_from k p ys) (omega arith))

  -- the first that passes is the one before which none does
  pub first_is : (d : A) (j : ℕ) (xs : List A) (i : ℕ) → i < length xs → p (get_or xs i d) ≡ true → ((k : ℕ) → k < i → p (get_or xs k d) ≡ false)
      → j + i ≡ first_from j p xs
  first_is d j [] i h t f = absurd (omega arith)
  first_is d j (x ∷ xs) zero h t f = rw (t, add-zero)
  first_is d j (x ∷ xs) (suc i) h t f =
      let next : j + suc i ≡ suc j + i = omega arith in
      rw (next, f 0 (omega arith)) (first_is d (suc j) xs i (omega arith) t (λ k l. f (suc k) (omega arith)))

  module _ {xs : List A} {n i : ℕ} where
    pub first_past_group : {v : ℕ} (j : ℕ) → Scanned v xs n i (first_from i p) → i ≤ j → j ≤ n → any p (drop i (take j xs)) ≡ false
        → Scanned v xs n j (first_from j p)
    first_past_group j s ij jn e =
        let end : i + length (drop i (take j xs)) ≡ j = simp (length-drop, length-take) (omega (arith, s.size)) in
        record {
          size = s.size;
          within = jn;
          so =
              s.so ∙ ap (first_from i p) (split_at xs i j n ij jn s.size) ∙ first_front i (drop i (take j xs)) (drop j (take n xs)) e
              ∙ ap (λ (k : ℕ). first_from k p (drop j (take n xs))) end;
        }
