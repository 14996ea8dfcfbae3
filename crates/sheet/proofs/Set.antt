-- A row that is set before a table makes a table, and what is counted there stands.
use Prim.Native.Nat.{ℕ, suc, ◌+◌, ◌-◌, ◌≤◌, ◌<◌}
use native.Mathlib.Numerals.{add-one}
use native.Mathlib.Omega.{arith}
use mathlib.Core.Bool.{Bool, true, false, not, ◌&&◌, ◌||◌, and-false}
use mathlib.Core.List.{List, [], ◌∷◌, map}
use mathlib.Core.Path.{◌≡◌, refl, sym, ap, subst, ◌∙◌}
use borrow.Author.Tests.{eqb-true, eqb-false, eq-eqb, ne_eqb, leb-true, leb-false, ltb-true, ltb-false}
use lib.Dec.{eqb, leb, ltb}
use lib.ListN.{length, get_or, set, take, drop, length-set, length-drop, length-map, get_or-map}
use mir.Syntax.{w32}
use mir.Val.{Fits, bool_byte}
use lib.Seq.{get_or-set_same, get_or-set_other, drop-cons}
use Rattle.lists.specs.Columns.{◌⊛◌}
use Rattle.lists.specs.Tests.{any, filter, count, All}
use Rattle.lists.proofs.All.{all_imp, All→none}
use Rattle.lists.proofs.Cases.{by_test, same_test}
use Rattle.lists.proofs.Columns.{length-⊛, at-⊛}
use Rattle.lists.proofs.Loops.{Scanned, scanned_start, count_turn, count_end}
use Rattle.lists.proofs.Tallies.{count_most}
use Rattle.ledger.specs.Compared.{Shown}
use Rattle.sheet.specs.Rows.{rows, shown_row}
use Rattle.sheet.specs.Kept.{Counts}
use Rattle.sheet.specs.Aged.{Table, lefts_in}
use Rattle.sheet.specs.Setting.{object_count, Settable, Sets, is_counted, all_of}
use Rattle.sheet.specs.Sheet.{Known, numbered, stands_in}
use Rattle.sheet.proofs.Kept.{drop_set}

-- one row more is counted
counts_more : (place : ℕ) (ps counts : List ℕ) → place < length counts → Counts ps counts → Counts (place ∷ ps) (set counts place (get_or counts place 0 + 1))
counts_more place ps counts l c =
    record {
      known = (rw (length-set counts place _) l, subst (λ (n : ℕ). All (λ (p : ℕ). p < n) ps) (sym (length-set counts place _)) c.known);
      so = λ k b.
          let below : k < length counts = rw (length-set counts place _) at b in
          by_test (eqb place k)
          (λ e.
          let same = eqb-true place k e in
          rw (e, same, get_or-set_same counts k (get_or counts k 0 + 1) 0 below) (omega (arith, c.so k below)))
          (λ e. rw (e, get_or-set_other counts place k (get_or counts place 0 + 1) 0 (λ q. eqb-false place k e (sym q))) (c.so k below));
    }

module _ {cs ps us counts : List ℕ} {at place left : ℕ} (s : Settable cs ps us counts at place left) where
  -- there is room in the counter
  pub counter_room : get_or counts place 0 + 1 < 65536
  counter_room =
      omega (
        arith,
        s.few,
        s.placed,
        s.table.counted.so place s.known,
        count_most (λ (p : ℕ). eqb p place) (drop (at + 1) ps),
        length-drop (at + 1) ps,
      )

  after : (xs : List ℕ) (x : ℕ) → length xs ≡ length us → drop at (set xs at x) ≡ x ∷ drop (at + 1) xs
  after xs x n = rw add-one (drop_set xs at x (omega (arith, s.within, n)))

  pub sets : (clock : ℕ) → Sets cs ps us at place clock left (set cs at clock) (set ps at place) (set us at left) (set counts place (get_or counts place 0 + 1))
  unfolding rows
  sets clock =
      let t = s.table in
      record {
        table =
            rw (after cs clock s.clocked, after ps place s.placed, after us left refl)
            (record {
              clocked = omega (arith, t.clocked);
              placed = omega (arith, t.placed);
              fit = (record { some = s.some; most = s.most }, t.fit);
              counted = counts_more place (drop (at + 1) ps) counts s.known t.counted;
            });
        lefts = rw (after cs clock s.clocked, after ps place s.placed, after us left refl);
      }

-- What is counted stands.
counted_some : {A : Type 0} (p : A → Bool) (xs : List A) → not (eqb (count p xs) 0) ≡ any p xs
counted_some p [] = refl
counted_some p (x ∷ xs) = by_test (p x) (λ e. rw (e, ne_eqb (suc (count p xs)) 0 (λ q. omega (arith, q)))) (λ e. rw e (counted_some p xs))

any_rows : (f : ℕ → Bool) (cs ps us : List ℕ) → length cs ≡ length us → length ps ≡ length us → any (λ (x : Shown). f x.handle) (lefts_in cs ps us) ≡ any (λ (p : ℕ). f (p + 1)) ps
unfolding rows shown_row
any_rows f [] [] [] n m = refl
any_rows f [] [] (u ∷ us) n m = absurd (omega (arith, n))
any_rows f [] (p ∷ ps) us n m = absurd (omega (arith, n, m))
any_rows f (c ∷ cs) ps [] n m = absurd (omega (arith, n))
any_rows f (c ∷ cs) [] (u ∷ us) n m = absurd (omega (arith, m))
any_rows f (c ∷ cs) (p ∷ ps) (u ∷ us) n m = ap (λ (b : Bool). f (p + 1) || b) (any_rows f cs ps us (omega (arith, n)) (omega (arith, m)))

any_same : (p q : ℕ → Bool) → ((x : ℕ) → p x ≡ q x) → (xs : List ℕ) → any p xs ≡ any q xs
any_same p q e [] = refl
any_same p q e (x ∷ xs) = rw (e x, any_same p q e xs)

module _ {cs ps us counts : List ℕ} (t : Table cs ps us counts) where
  pub place_stands : (k : ℕ) → k < length counts → not (eqb (get_or counts k 0) 0) ≡ stands_in (lefts_in cs ps us) (k + 1)
  place_stands k l =
      ap (λ (n : ℕ). not (eqb n 0)) (t.counted.so k l) ∙ counted_some (λ (p : ℕ). eqb p k) ps
      ∙ any_same (λ (p : ℕ). eqb p k) (λ (p : ℕ). eqb (p + 1) (k + 1)) (λ p. shifted p k) ps
      ∙ sym (any_rows (λ (h : ℕ). eqb h (k + 1)) cs ps us t.clocked t.placed)
    where
      shifted : (p k : ℕ) → eqb p k ≡ eqb (p + 1) (k + 1)
      shifted p k =
          same_test (eqb p k) (eqb (p + 1) (k + 1))
          (λ e. let q = eqb-true p k e in eq-eqb (p + 1) (k + 1) (omega (arith, q)))
          (λ e. let q = eqb-true (p + 1) (k + 1) e in eq-eqb p k (omega (arith, q)))

  none_stands : (handle : ℕ) → ((p : ℕ) → p < length counts → eqb (p + 1) handle ≡ false) → stands_in (lefts_in cs ps us) handle ≡ false
  none_stands handle f =
      any_rows (λ (h : ℕ). eqb h handle) cs ps us t.clocked t.placed ∙ All→none _ ps (all_imp f ps t.counted.known)

  pub counted_stands : (handle : ℕ) → is_counted counts handle ≡ stands_in (lefts_in cs ps us) handle
  counted_stands handle =
      by_test (leb 1 handle)
      (λ e.
      by_test (ltb (handle - 1) (length counts))
      (λ d.
      let same : handle - 1 + 1 ≡ handle = omega (arith, leb-true 1 handle e) in
      rw (e, d) (place_stands (handle - 1) (ltb-true (handle - 1) (length counts) d) ∙ ap (stands_in (lefts_in cs ps us)) same))
      (λ d. rw (e, d) (sym (none_stands handle (λ p l. ne_eqb (p + 1) handle (λ q. omega (arith, q, l, ltb-false (handle - 1) (length counts) d)))))))
      (λ e. rw e (sym (none_stands handle (λ p l. ne_eqb (p + 1) handle (λ q. omega (arith, q, leb-false 1 handle e))))))

  -- and so the objects of either store are counted
  module _ (keeps : Bool → Bool) where
    pub objects_counted : (bs : List Bool) (i : ℕ) → i + length bs ≤ length counts
        → count (λ (b : Bool). b) (map (λ (small : Bool) (n : ℕ). keeps small && not (eqb n 0)) bs ⊛ take (length bs) (drop i counts))
        ≡ count (λ (k : Known). keeps k.small) (filter (λ (k : Known). stands_in (lefts_in cs ps us) k.handle) (numbered (i + 1) bs))
    unfolding numbered
    objects_counted [] i h = refl
    objects_counted (b ∷ bs) i h =
        let l : i < length counts = omega (arith, h) in
        let next : suc (i + 1) ≡ suc i + 1 = omega arith in
        let stand = place_stands i l in
        rw (drop-cons counts i 0 l, stand, next)
        (by_test (stands_in (lefts_in cs ps us) (i + 1))
        (λ e. rw e (by_test (keeps b) (λ d. rw d (ap suc (objects_counted bs (suc i) (omega (arith, h))))) (λ d. rw d (objects_counted bs (suc i) (omega (arith, h))))))
        (λ e. rw (e, and-false) (objects_counted bs (suc i) (omega (arith, h)))))

-- A loop that counts flags, so far m.
pub record Tally (flags : List Bool) (n i m : ℕ) : Type 0 where
  pub few : m ≤ i
  pub so : Scanned (0 + all_of flags) flags n i (λ ys. m + all_of ys)

pub tally_start : (flags : List Bool) (n : ℕ) → length flags ≡ n → Tally flags n 0 0
tally_start flags n e = record { few = omega arith; so = scanned_start (λ ys. 0 + all_of ys) flags n e }

byte_le : (b : Bool) → bool_byte b ≤ 1
byte_le true = omega arith
byte_le false = omega arith

pub tally_turn : {flags : List Bool} {n i m : ℕ} {r : Bool} → Tally flags n i m → i < n → r ≡ get_or flags i false → Tally flags n (i + 1) (m + bool_byte r)
tally_turn {m = m} {r} t l e =
    record { few = omega (arith, t.few, byte_le r); so = count_turn (λ (b : Bool). b) false m t.so l e }

pub tally_end : {flags : List Bool} {n i m : ℕ} → Tally flags n i m → n ≤ i → m ≡ all_of flags
tally_end {m = m} t h = omega (arith, count_end (λ (b : Bool). b) m t.so h)

pub tally_fits : {flags : List Bool} {n i m : ℕ} (r : Bool) → Tally flags n i m → i < n → n ≤ object_count → Fits w32 (m + bool_byte r)
tally_fits r t l h = omega (arith, t.few, byte_le r, l, h)

-- the flag of an object
pub flag_at : (keeps : Bool → Bool) (smalls : List Bool) (counts : List ℕ) (i : ℕ) → length smalls ≡ length counts → i < length counts
    → keeps (get_or smalls i false) && not (eqb (get_or counts i 0) 0) ≡ get_or (map (λ (small : Bool) (n : ℕ). keeps small && not (eqb n 0)) smalls ⊛ counts) i false
flag_at keeps smalls counts i e l =
    let f : Bool → ℕ → Bool = λ small n. keeps small && not (eqb n 0) in
    sym (at-⊛ (map f smalls) counts i (f false) 0 false (length-map smalls f ∙ e) l ∙ ap (λ (g : ℕ → Bool). g (get_or counts i 0)) (get_or-map f smalls i false))

pub flags_size : (keeps : Bool → Bool) (smalls : List Bool) (counts : List ℕ) → length smalls ≡ length counts
    → length (map (λ (small : Bool) (n : ℕ). keeps small && not (eqb n 0)) smalls ⊛ counts) ≡ length counts
flags_size keeps smalls counts e =
    let f : Bool → ℕ → Bool = λ small n. keeps small && not (eqb n 0) in length-⊛ (map f smalls) counts (length-map smalls f ∙ e)
