-- Two loops that take out what is over: one counts it down, one moves the rest to the end. Each as the start, the turn and the end of its
-- invariant.
use Prim.Native.Nat.{ℕ, zero, suc, ◌+◌, ◌-◌, ◌≤◌, ◌<◌}
use native.Mathlib.Numerals.{add-one}
use native.Mathlib.Omega.{arith}
use mathlib.Core.Bool.{true, false, cond}
use mathlib.Core.List.{List, [], ◌∷◌}
use mathlib.Core.Logic.{◌≢◌}
use mathlib.Core.Path.{◌≡◌, refl, sym, ap, subst, ◌∙◌}
use borrow.Author.Tests.{eqb-true, eqb-false, eq-eqb, ne_eqb}
use lib.Dec.{eqb}
use lib.ListN.{length, get_or, set, drop, length-set, drop_of_length-le}
use lib.Seq.{drop-cons, drop-set-lt, get_or-set_same, get_or-set_other}
use Rattle.lists.specs.Tests.{any, count, All}
use Rattle.lists.proofs.Cases.{by_test, or_false_parts}
use Rattle.sheet.specs.Kept.{kept, Counts}

-- an element that is set, and those after it
pub drop_set : (xs : List ℕ) (i v : ℕ) → i < length xs → drop i (set xs i v) ≡ v ∷ drop (suc i) xs
drop_set xs i v l =
    drop-cons (set xs i v) i 0 (rw (length-set xs i v) l)
    ∙ (rw (get_or-set_same xs i v 0 l, drop-set-lt (suc i) xs i v (omega arith)))

-- where nothing is over all is kept
pub kept_all : (us xs : List ℕ) → length xs ≡ length us → any (λ (u : ℕ). eqb u 0) us ≡ false → kept us xs ≡ xs
kept_all [] [] n e = refl
kept_all [] (x ∷ xs) n e = absurd (omega (arith, n))
kept_all (u ∷ us) [] n e = refl
kept_all (u ∷ us) (x ∷ xs) n e =
    let (here, rest) = or_false_parts (eqb u 0) (any (λ (v : ℕ). eqb v 0) us) e in rw (here, kept_all us xs (omega (arith, n)) rest)

-- what is not kept
abbrev over : List ℕ → List ℕ → List ℕ
over [] xs = []
over (u ∷ us) [] = []
over (u ∷ us) (x ∷ xs) = cond (eqb u 0) (x ∷ over us xs) (over us xs)

parted : (k : ℕ) (us ps : List ℕ) → length ps ≡ length us
    → count (λ (p : ℕ). eqb p k) ps ≡ count (λ (p : ℕ). eqb p k) (kept us ps) + count (λ (p : ℕ). eqb p k) (over us ps)
parted k [] [] n = refl
parted k [] (p ∷ ps) n = absurd (omega (arith, n))
parted k (u ∷ us) [] n = refl
parted k (u ∷ us) (p ∷ ps) n =
    let rest = parted k us ps (omega (arith, n)) in
    by_test (eqb u 0)
    (λ e. rw e (by_test (eqb p k) (λ d. rw d (omega (arith, rest))) (λ d. rw d (omega (arith, rest)))))
    (λ e. rw e (by_test (eqb p k) (λ d. rw d (omega (arith, rest))) (λ d. rw d (omega (arith, rest)))))

-- after i turns each counter has what is kept, and of the rows that are left what is over still
pub record Uncounted (us ps : List ℕ) (size i : ℕ) (out : List ℕ) : Type 0 where
  pub same : length ps ≡ length us
  pub counters : length out ≡ size
  pub known : All (λ (p : ℕ). p < size) ps
  pub so : (k : ℕ) → k < size → get_or out k 0 ≡ count (λ (p : ℕ). eqb p k) (kept us ps) + count (λ (p : ℕ). eqb p k) (over (drop i us) (drop i ps))

pub uncounted_start : (us ps counts : List ℕ) → length ps ≡ length us → Counts ps counts → Uncounted us ps (length counts) 0 counts
uncounted_start us ps counts n c =
    record { same = n; counters = refl; known = c.known; so = λ k l. c.so k l ∙ parted k us ps n }

module _ {us ps : List ℕ} {size i : ℕ} {out : List ℕ} (t : Uncounted us ps size i out) (l : i < length us) where
  below : i < length ps
  below = omega (arith, l, t.same)

  place_known : get_or ps i 0 < size
  place_known = at ps i t.known below
    where
      at : (qs : List ℕ) (j : ℕ) → All (λ (p : ℕ). p < size) qs → j < length qs → get_or qs j 0 < size
      at [] j h b = absurd (omega (arith, b))
      at (q ∷ qs) zero (h, hs) b = h
      at (q ∷ qs) (suc j) (h, hs) b = at qs j hs (omega (arith, b))

  -- a row of which something is left
  pub uncounted_kept : get_or us i 0 ≢ 0 → Uncounted us ps size (i + 1) out
  uncounted_kept e =
      record {
        same = t.same;
        counters = t.counters;
        known = t.known;
        so = λ k b. rw add-one (rw (drop-cons us i 0 l, drop-cons ps i 0 below, ne_eqb _ _ e) at (t.so k b));
      }

  -- and one that is over: its counter is no 0 yet
  so_far : get_or us i 0 ≡ 0 → (k : ℕ) → k < size
      → get_or out k 0 ≡ count (λ (p : ℕ). eqb p k) (kept us ps) + count (λ (p : ℕ). eqb p k) (get_or ps i 0 ∷ over (drop (suc i) us) (drop (suc i) ps))
  so_far e k b = rw (drop-cons us i 0 l, drop-cons ps i 0 below, eq-eqb _ _ e) at (t.so k b)

  one_counted : get_or us i 0 ≡ 0 → 1 ≤ get_or out (get_or ps i 0) 0
  one_counted e =
      let so = so_far e (get_or ps i 0) place_known in
      let here = rw (eq-eqb (get_or ps i 0) (get_or ps i 0) refl) at so in
      omega (arith, here)

  uncounted_over : get_or us i 0 ≡ 0 → Uncounted us ps size (i + 1) (set out (get_or ps i 0) (get_or out (get_or ps i 0) 0 - 1))
  uncounted_over e =
      record {
        same = t.same;
        counters = length-set out (get_or ps i 0) _ ∙ t.counters;
        known = t.known;
        so = λ k b. rw add-one (by_test (eqb (get_or ps i 0) k) (here k b) (there k b));
      }
    where
      less : ℕ
      less = get_or out (get_or ps i 0) 0 - 1

      rest : ℕ → ℕ
      rest k = count (λ (p : ℕ). eqb p k) (kept us ps) + count (λ (p : ℕ). eqb p k) (over (drop (suc i) us) (drop (suc i) ps))

      here : (k : ℕ) → k < size → eqb (get_or ps i 0) k ≡ true → get_or (set out (get_or ps i 0) less) k 0 ≡ rest k
      here k b q =
          let same = eqb-true (get_or ps i 0) k q in
          let so = rw q at (so_far e k b) in
          rw (same, get_or-set_same out k (get_or out k 0 - 1) 0 (omega (arith, b, t.counters))) (omega (arith, so))

      there : (k : ℕ) → k < size → eqb (get_or ps i 0) k ≡ false → get_or (set out (get_or ps i 0) less) k 0 ≡ rest k
      there k b q = rw (get_or-set_other out (get_or ps i 0) k less 0 (λ f. eqb-false (get_or ps i 0) k q (sym f))) (rw q at (so_far e k b))

-- the same by the place that the turn has read
module _ {us ps : List ℕ} {size i p : ℕ} {out : List ℕ} (t : Uncounted us ps size i out) (l : i < length us) (q : p ≡ get_or ps i 0) where
  pub counted_in : p < length out
  counted_in = rw q (omega (arith, place_known t l, t.counters))

  module _ (e : get_or us i 0 ≡ 0) where
    pub counted_some : 1 ≤ get_or out p 0
    counted_some = rw q (one_counted t l e)

    pub uncounted_less : Uncounted us ps size (i + 1) (set out p (get_or out p 0 - 1))
    uncounted_less = rw q (uncounted_over t l e)

pub uncounted_end : {us ps : List ℕ} {size i : ℕ} {out : List ℕ} → Uncounted us ps size i out → length us ≤ i → Counts (kept us ps) out
uncounted_end {us} {ps} {size} {i} {out} t h =
    record {
      known = subst (λ (n : ℕ). All (λ (p : ℕ). p < n) (kept us ps)) (sym t.counters) (kept_known us ps t.known);
      so = λ k b.
          let so = t.so k (omega (arith, b, t.counters)) in
          let none : drop i us ≡ [] = drop_of_length-le us {i = i} h in
          omega (arith, rw none at so);
    }
  where
    kept_known : (vs qs : List ℕ) → All (λ (p : ℕ). p < size) qs → All (λ (p : ℕ). p < size) (kept vs qs)
    kept_known [] qs a = tt
    kept_known (v ∷ vs) [] a = tt
    kept_known (v ∷ vs) (q ∷ qs) (a, rest) = by_test (eqb v 0) (λ e. rw e (kept_known vs qs rest)) (λ e. rw e (a, kept_known vs qs rest))

-- One column, from its end down to m: what is kept of it stands from w on, and before m it is as it was.
pub record Shifted (us xs : List ℕ) (m w : ℕ) (out : List ℕ) : Type 0 where
  pub same : length xs ≡ length us
  pub size : length out ≡ length us
  pub above : m ≤ w
  pub within : w ≤ length us
  pub so : drop w out ≡ kept (drop m us) (drop m xs)
  pub still : (j : ℕ) → j < m → get_or out j 0 ≡ get_or xs j 0

pub shifted_start : (us xs : List ℕ) → length xs ≡ length us → Shifted us xs (length us) (length us) xs
shifted_start us xs n =
    record {
      same = n;
      size = n;
      above = omega arith;
      within = omega arith;
      so = drop_of_length-le xs {i = length us} (omega (arith, n)) ∙ sym (ap (λ (vs : List ℕ). kept vs (drop (length us) xs)) (drop_of_length-le us {i = length us} (omega arith)));
      still = λ j l. refl;
    }

module _ {us xs : List ℕ} {m next w : ℕ} {out : List ℕ} (t : Shifted us xs next w out) (one : next ≡ suc m) where
  in_us : m < length us
  in_us = omega (arith, t.above, t.within, one)

  in_xs : m < length xs
  in_xs = omega (arith, in_us, t.same)

  -- a row that is over
  pub shifted_over : get_or us m 0 ≡ 0 → Shifted us xs m w out
  shifted_over e =
      record {
        same = t.same;
        size = t.size;
        above = omega (arith, t.above, one);
        within = t.within;
        so = rw (drop-cons us m 0 in_us, drop-cons xs m 0 in_xs, eq-eqb _ _ e) (rw one at t.so);
        still = λ j l. t.still j (omega (arith, l, one));
      }

  -- and one that is moved
  pub shifted_kept : get_or us m 0 ≢ 0 → (v : ℕ) → v ≡ get_or xs m 0 → Shifted us xs m (w - 1) (set out (w - 1) v)
  shifted_kept e v q =
      record {
        same = t.same;
        size = length-set out (w - 1) v ∙ t.size;
        above = omega (arith, t.above, one);
        within = omega (arith, t.within);
        so = rw (drop-cons us m 0 in_us, drop-cons xs m 0 in_xs, ne_eqb _ _ e, q) moved;
        still = λ j l. get_or-set_other out (w - 1) j v 0 (λ f. absurd (omega (arith, l, t.above, f, one))) ∙ t.still j (omega (arith, l, one));
      }
    where
      below : w - 1 < length out
      below = omega (arith, t.above, t.within, t.size, one)

      moved : drop (w - 1) (set out (w - 1) (get_or xs m 0)) ≡ get_or xs m 0 ∷ kept (drop (suc m) us) (drop (suc m) xs)
      moved =
          let again : suc (w - 1) ≡ w = omega (arith, t.above, one) in
          drop_set out (w - 1) (get_or xs m 0) below
          ∙ ap (λ (ys : List ℕ). get_or xs m 0 ∷ ys) (ap (λ (n : ℕ). drop n out) again ∙ (rw one at t.so))

pub shifted_end : {us xs : List ℕ} {w : ℕ} {out : List ℕ} → Shifted us xs 0 w out → drop w out ≡ kept us xs
shifted_end t = t.so
