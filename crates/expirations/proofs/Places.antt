-- Laws of what is asked and changed by places.
use Rattle.std.proofs.Common.{◌≡◌, ℕ, zero, suc, ◌+◌, ◌-◌, ◌<◌, ◌≤◌, Bool, true, false, ◌||◌, ltb, List, length, get_or, take, drop, set, sym, refl, ◌∙◌, true≢false, add-zero, zero-add, add-one, arith, length-set, get_or-set_other, get_or-set_same, ltb-false, ltb-true}
use mathlib.Core.Bool.{false≢true, or-false}
use lib.Seq.{drop-cons}
use Rattle.std.specs.List.{fold, slice_range, zip}
use Rattle.lists.specs.Tests.{any}
use Rattle.lists.specs.Tables.{first_from}
use Rattle.lists.proofs.Cases.{by_test, refuted, or_false_parts}
use Rattle.lists.proofs.First.{none_before}
use Rattle.lists.proofs.Folds.{fold_any}
use Rattle.lists.proofs.Loops.{Scanned, scanned_start, first_turn}
use Rattle.lists.proofs.Searches.{first_least, first_most}
use Rattle.expirations.specs.Places.{SomeBetween, Changed}

-- what holds before a place and from there on holds everywhere
pub split {ℓ} : {C : Type ℓ} (k b : ℕ) → (k < b → C) → (b ≤ k → C) → C
split k b f g = by_test (ltb k b) (λ t. f (ltb-true k b t)) (λ t. g (ltb-false k b t))

module _ (p : ℕ → Bool) where
  -- where none passes
  pub asked_none : {a b : ℕ} → a ≤ b → ((k : ℕ) → a ≤ k → k < b → p k ≡ false) → SomeBetween p a b false
  asked_none h f = record { ordered = h; some = λ e. absurd (false≢true e); none = λ e. f }

  -- where one does
  pub asked_at : {a b : ℕ} (k : ℕ) → a ≤ k → k < b → p k ≡ true → SomeBetween p a b true
  asked_at k l m h = record { ordered = omega arith; some = λ e. (k, l, m, h); none = λ e. absurd (true≢false e) }

  pub asked_start : (a : ℕ) → SomeBetween p a a false
  asked_start a = asked_none (omega arith) (λ k l m. absurd (omega arith))

module _ {p : ℕ → Bool} {a b : ℕ} {r : Bool} (s : SomeBetween p a b r) where
  -- the places after them
  pub asked_join : {c : ℕ} {r' : Bool} → SomeBetween p b c r' → SomeBetween p a c (r || r')
  asked_join {c} {r'} z =
      record {
        ordered = omega (arith, s.ordered, z.ordered);
        some = λ e.
            by_test r
            (λ t. let (k, l, m, h) = s.some t in (k, l, omega (arith, z.ordered), h))
            (λ t. let (k, l, m, h) = z.some (rw t at e) in (k, omega (arith, s.ordered), m, h));
        none = λ e k l m.
            let (f, g) = or_false_parts r r' e in
            split k b (λ h. s.none f k l h) (λ h. z.none g k h m);
      }

  -- one more
  pub asked_turn : {v : Bool} → v ≡ p b → SomeBetween p a (b + 1) (r || v)
  asked_turn {v} e =
      asked_join (record {
        ordered = omega arith;
        some = λ t. (b, omega arith, omega arith, sym e ∙ t);
        none = λ t k l m. let same : k ≡ b = omega arith in rw same (sym e ∙ t);
      })

  pub asked_end : {c : ℕ} → b ≤ c → c ≤ b → SomeBetween p a c r
  asked_end {c} h k = let same : b ≡ c = omega arith in rw same at s

  -- more of which none passes
  pub asked_skip : {c : ℕ} → b ≤ c → ((k : ℕ) → b ≤ k → k < c → p k ≡ false) → SomeBetween p a c r
  asked_skip h f = rw (or-false r) at (asked_join (asked_none p h f))

  module _ {q : ℕ → Bool} where
    -- the same asked in another way
    pub asked_same : ((k : ℕ) → a ≤ k → k < b → p k ≡ q k) → SomeBetween q a b r
    asked_same f =
        record {
          ordered = s.ordered;
          some = λ e. let (k, l, m, h) = s.some e in (k, l, m, sym (f k l m) ∙ h);
          none = λ e k l m. sym (f k l m) ∙ s.none e k l m;
        }

    -- where none passes here, none passes there
    pub asked_unless : r ≡ false → ((k : ℕ) → q k ≡ true → p k ≡ true) → SomeBetween q a b false
    asked_unless e f =
        asked_none q s.ordered (λ k l m. refuted (q k) (λ h. true≢false (sym (f k h) ∙ s.none e k l m)))

-- n elements from a on, asked by their places
asked_part : (p : ℕ → Bool) (n a : ℕ) (xs : List ℕ) → a + n ≤ length xs → SomeBetween (λ k. p (get_or xs k 0)) a (a + n) (any p (take n (drop a xs)))
asked_part p zero a xs h = rw add-zero (asked_start _ a)
asked_part p (suc n) a xs h =
    let same : a + 1 + n ≡ a + suc n = omega arith in
    rw (drop-cons xs a 0 (omega arith)) (rw (same, add-one) at (asked_join (asked_turn (asked_start (λ k. p (get_or xs k 0)) a) refl) (asked_part p n (a + 1) xs (omega arith))))

-- r is what a fold over a part gave
pub asked_fold : (p : ℕ → Bool) (a b : ℕ) (xs : List ℕ) (r : Bool) → a ≤ b → b ≤ length xs → r ≡ fold (λ some x. some || p x) false (slice_range xs a b)
    → SomeBetween (λ k. p (get_or xs k 0)) a b r
asked_fold p a b xs r h l e =
    let end : a + (b - a) ≡ b = omega arith in
    rw (e, fold_any p (slice_range xs a b)) (rw end at (asked_part p (b - a) a xs (omega arith)))

-- the same of two columns
asked_pairs : (p : ℕ → ℕ → Bool) (n a : ℕ) (xs ys : List ℕ) → a + n ≤ length xs → a + n ≤ length ys
    → SomeBetween (λ k. p (get_or xs k 0) (get_or ys k 0)) a (a + n) (any (λ (q : ℕ × ℕ). p q.0 q.1) (zip (take n (drop a xs)) (take n (drop a ys))))
asked_pairs p zero a xs ys h l = rw add-zero (asked_start _ a)
asked_pairs p (suc n) a xs ys h l =
    let same : a + 1 + n ≡ a + suc n = omega arith in
    rw (drop-cons xs a 0 (omega arith), drop-cons ys a 0 (omega arith))
    (rw (same, add-one) at
    (asked_join (asked_turn (asked_start (λ k. p (get_or xs k 0) (get_or ys k 0)) a) refl) (asked_pairs p n (a + 1) xs ys (omega arith) (omega arith))))

pub asked_zip : (p : ℕ → ℕ → Bool) (a b : ℕ) (xs ys : List ℕ) (r : Bool) → a ≤ b → b ≤ length xs → b ≤ length ys
    → r ≡ fold (λ some q. some || p q.0 q.1) false (zip (slice_range xs a b) (slice_range ys a b)) → SomeBetween (λ k. p (get_or xs k 0) (get_or ys k 0)) a b r
asked_zip p a b xs ys r h l m e =
    let end : a + (b - a) ≡ b = omega arith in
    rw (e, fold_any (λ (q : ℕ × ℕ). p q.0 q.1) (zip (slice_range xs a b) (slice_range ys a b))) (rw end at (asked_pairs p (b - a) a xs ys (omega arith) (omega arith)))

-- a search for the first that passes goes on after those that fail
pub first_past {ℓ} : {A : Type ℓ} (p : A → Bool) (d : A) {v n : ℕ} {xs : List A} (m i : ℕ) → Scanned v xs n i (first_from i p) → i + m ≤ n
    → ((k : ℕ) → i ≤ k → k < i + m → p (get_or xs k d) ≡ false) → Scanned v xs n (i + m) (first_from (i + m) p)
first_past p d zero i s h f = rw (add-zero i) s
first_past p d (suc m) i s h f =
    let same : i + 1 + m ≡ i + suc m = omega arith in
    rw same at (first_past p d m (i + 1) (first_turn p d s (omega arith) (f i (omega arith) (omega arith))) (omega arith) (λ k l b. f k (omega arith) (omega arith)))

module _ {ℓ} {A : Type ℓ} (p : A → Bool) where
  -- it may begin at any place up to which none passes
  pub first_from_lem : (d : A) {n i : ℕ} (xs : List A) → length xs ≡ n → i ≤ first_from 0 p xs → Scanned (first_from 0 p xs) xs n i (first_from i p)
  first_from_lem d {n} {i} xs e h =
      rw (zero-add i) at
      (first_past p d i 0 (scanned_start (first_from 0 p) xs n e) (omega (arith, first_most p 0 xs)) (λ k l b. none_before p d xs k (omega arith)))

  -- and none is before the place that it has come to
  pub first_beyond : {v n i : ℕ} {xs : List A} → Scanned v xs n i (first_from i p) → i ≤ v
  first_beyond {n = n} {i} {xs} s = omega (arith, s.so, first_least p i (drop i (take n xs)))

module _ {ℓ} {A : Type ℓ} {d : A} {f : ℕ → A → A} where
  pub changed_none : {a b : ℕ} (xs : List A) → a ≤ b → ((k : ℕ) → a ≤ k → k < b → get_or xs k d ≡ f k (get_or xs k d)) → Changed d f a b xs xs
  changed_none xs h e = record { ordered = h; size = refl; before = λ k l. refl; inside = e; after = λ k l. refl }

  pub changed_start : (a : ℕ) (xs : List A) → Changed d f a a xs xs
  changed_start a xs = changed_none xs (omega arith) (λ k l m. absurd (omega arith))

  module _ {a b : ℕ} {xs ys : List A} (s : Changed d f a b xs ys) where
    pub changed_turn : {v : A} → b < length ys → v ≡ f b (get_or ys b d) → Changed d f a (b + 1) xs (set ys b v)
    changed_turn {v} h e =
        record {
          ordered = omega (arith, s.ordered);
          size = simp length-set s.size;
          before = λ k l. get_or-set_other ys b k v d (omega (arith, s.ordered)) ∙ s.before k l;
          inside = λ k l m.
              split k b
              (λ n. get_or-set_other ys b k v d (omega arith) ∙ s.inside k l n)
              (λ n. let same : k ≡ b = omega arith in rw (same, get_or-set_same ys b v d h, e, s.after b (omega arith)));
          after = λ k l. get_or-set_other ys b k v d (omega arith) ∙ s.after k (omega arith);
        }

    -- the same made in another way
    pub changed_same : {g : ℕ → A → A} → ((k : ℕ) → a ≤ k → k < b → f k (get_or xs k d) ≡ g k (get_or xs k d)) → Changed d g a b xs ys
    changed_same e =
        record {
          ordered = s.ordered;
          size = s.size;
          before = s.before;
          inside = λ k l m. s.inside k l m ∙ e k l m;
          after = s.after;
        }

    pub changed_end : {c : ℕ} → b ≤ c → c ≤ b → Changed d f a c xs ys
    changed_end {c} h k = let same : b ≡ c = omega arith in rw same at s

    pub changed_join : {c : ℕ} {zs : List A} → Changed d f b c ys zs → Changed d f a c xs zs
    changed_join z =
        record {
          ordered = omega (arith, s.ordered, z.ordered);
          size = z.size ∙ s.size;
          before = λ k l. z.before k (omega (arith, s.ordered)) ∙ s.before k l;
          inside = λ k l m.
              split k b
              (λ h. z.before k h ∙ s.inside k l h)
              (λ h. rw (z.inside k h m, s.after k h));
          after = λ k l. z.after k l ∙ s.after k (omega (arith, z.ordered));
        }
