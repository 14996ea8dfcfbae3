-- What is found of places, asked as one list.
use Rattle.std.proofs.Common.{◌≡◌, ℕ, suc, ◌+◌, ◌-◌, ◌<◌, ◌≤◌, Bool, false, ◌&&◌, ◌||◌, eqb, List, [], ◌∷◌, length, get_or, drop, slice_range, ap, ◌∙◌, arith, length-drop, length-take}
use Rattle.std.proofs.lemmas.List.{get_or-drop, get_or-take}
use Rattle.std.proofs.lemmas.Slice.Zip.{length-zip, get_or-zip}
use Rattle.std.specs.List.{fold, zip}
use Rattle.expirations.specs.Naming.{is_named_at}
use Rattle.expirations.specs.Places.{SomeBetween}
use Rattle.expirations.specs.Standing.{is_dated_clock}
use Rattle.expirations.proofs.Places.{asked_start, asked_turn, asked_end}

-- more places, whose elements are a list
pub asked_fold : {A : Type 0} (p : A → Bool) (d : A) (q : ℕ → Bool) {a : ℕ} (ys : List A) (b : ℕ) (some : Bool) → SomeBetween q a b some
    → ((k : ℕ) → k < length ys → p (get_or ys k d) ≡ q (b + k)) → SomeBetween q a (b + length ys) (fold (λ some y. some || p y) some ys)
asked_fold p d q [] b some s h = asked_end s (omega arith) (omega arith)
asked_fold p d q (y ∷ ys) b some s h =
    let here : b + 0 ≡ b = omega arith in
    asked_end
    (asked_fold p d q ys (b + 1) (some || p y) (asked_turn s (h 0 (omega arith) ∙ ap q here))
    (λ k l. let next : b + suc k ≡ b + 1 + k = omega arith in h (suc k) (omega (arith, l)) ∙ ap q next))
    (omega arith) (omega arith)

module _ (a n : ℕ) where
  pub range_size : {A : Type 0} (xs : List A) → a + n ≤ length xs → length (slice_range xs a (a + n)) ≡ n
  range_size xs h = omega (arith, h, length-take (a + n - a) (drop a xs), length-drop a xs)

  pub range_at : {A : Type 0} (xs : List A) (d : A) (k : ℕ) → k < n → get_or (slice_range xs a (a + n)) k d ≡ get_or xs (a + k) d
  range_at xs d k l = get_or-take (a + n - a) (drop a xs) k d (omega (arith, l)) ∙ get_or-drop a xs k d

  -- those of a range
  pub asked_range : {A : Type 0} (p : A → Bool) (d : A) (xs : List A) {r : Bool} → a + n ≤ length xs
      → r ≡ fold (λ some x. some || p x) false (slice_range xs a (a + n)) → SomeBetween (λ k. p (get_or xs k d)) a (a + n) r
  asked_range p d xs h e =
      let size = range_size xs h in
      let s = asked_fold p d (λ k. p (get_or xs k d)) (slice_range xs a (a + n)) a false (asked_start _ a) (λ k l. ap p (range_at xs d k (omega (arith, l, size)))) in
      rw e (asked_end s (omega (arith, size)) (omega (arith, size)))

  -- and whether one of those names a block
  pub asked_named : (block : ℕ) (cs ns : List ℕ) {r : Bool} → a + n ≤ length cs → a + n ≤ length ns
      → r ≡ fold (λ some entry. some || (is_dated_clock entry.0 && eqb entry.1 block)) false (zip (slice_range cs a (a + n)) (slice_range ns a (a + n)))
      → SomeBetween (is_named_at cs ns block) a (a + n) r
  asked_named block cs ns h i e =
      let xs = slice_range cs a (a + n) in
      let ys = slice_range ns a (a + n) in
      let p : ℕ × ℕ → Bool = λ entry. is_dated_clock entry.0 && eqb entry.1 block in
      let size : length (zip xs ys) ≡ n = length-zip xs ys ∙ omega (arith, range_size cs h, range_size ns i) in
      let s =
      asked_fold p (0, 0) (is_named_at cs ns block) (zip xs ys) a false (asked_start _ a)
      (λ k l.
      ap p (get_or-zip xs ys k (0, 0) (omega (arith, l, size, range_size cs h)) (omega (arith, l, size, range_size ns i)))
      ∙ rw (range_at cs 0 k (omega (arith, l, size)), range_at ns 0 k (omega (arith, l, size)))) in
      rw e (asked_end s (omega (arith, size)) (omega (arith, size)))
