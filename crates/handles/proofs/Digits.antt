-- Blocks parted by the digits of their handles: what a digit does to the parts, and what the parts tell in the end.
use Prim.Native.Nat.{ℕ, ◌+◌, ◌/◌, ◌^◌, ◌≤◌, ◌<◌}
use native.Mathlib.Nat.{zero-add, div-div-eq-div-mul}
use native.Mathlib.Omega.{arith}
use mathlib.Core.Bool.{Bool, true}
use mathlib.Core.List.{List}
use mathlib.Core.Logic.{◌≢◌}
use mathlib.Core.Path.{◌≡◌, refl, sym, ap, ◌∙◌}
use borrow.Author.Tests.{eqb-true, eqb-false, eq-eqb, ne_eqb}
use lib.Dec.{eqb}
use lib.ListN.{length, get_or, set, replicate, length-set, length-replicate}
use lib.Pow.{pow-add}
use lib.Seq.{get_or-set_same, get_or-set_other}
use Rattle.lists.specs.Tables.{all_from}
use Rattle.lists.proofs.Cases.{by_test, same_test}
use Rattle.lists.proofs.Tables.{all_from_each, all_from_within}
use Rattle.record.specs.WellFormed.{is_distinct}
use Rattle.handles.specs.Handles.{is_alone_in, UsedFlags, first_bits, digit_bits, digit_count, radix, bits_below, FirstParts, Partable, Keys, key_count, Below, Lasts, Places, Refined}
use Rattle.handles.proofs.Apart.{distinct_by, distinct_places}

-- the first i blocks stand at their keys, or later ones of that key
pub record LastsTo (keys : List ℕ) (i : ℕ) (out : List ℕ) : Type 0 where
  pub size : length out ≡ key_count
  pub below : (k : ℕ) → k < i → get_or out (get_or keys k 0) 0 < 96
  pub so : (k : ℕ) → k < i → get_or keys (get_or out (get_or keys k 0) 0) 0 ≡ get_or keys k 0

pub lasts_start : (keys : List ℕ) → LastsTo keys 0 (replicate key_count 0)
lasts_start keys = record { size = length-replicate {A = ℕ} key_count 0; below = λ k l. absurd (omega arith); so = λ k l. absurd (omega arith) }

-- what holds of the block at i holds of all of its key, and what held of the others holds still
module _ (keys : List ℕ) (i : ℕ) (out : List ℕ) (P : ℕ → ℕ → Type 0) (inside : get_or keys i 0 < length out) (here : P (get_or keys i 0) i)
    (there : (k : ℕ) → k < i → P (get_or keys k 0) (get_or out (get_or keys k 0) 0)) where
  at_keys : (k : ℕ) → k < i + 1 → P (get_or keys k 0) (get_or (set out (get_or keys i 0) i) (get_or keys k 0) 0)
  at_keys k l =
      by_test (eqb (get_or keys k 0) (get_or keys i 0))
      (λ t. rw (eqb-true (get_or keys k 0) (get_or keys i 0) t, get_or-set_same out (get_or keys i 0) i 0 inside) here)
      (λ t.
      let other = eqb-false (get_or keys k 0) (get_or keys i 0) t in
      rw (get_or-set_other out (get_or keys i 0) (get_or keys k 0) i 0 other)
      (by_test (eqb k i) (λ e. absurd (other (ap (λ n. get_or keys n 0) (eqb-true k i e)))) (λ e. there k (omega (arith, eqb-false k i e)))))

pub lasts_turn : {keys : List ℕ} {i : ℕ} {out : List ℕ} {key : ℕ} → LastsTo keys i out → i < 96 → key ≡ get_or keys i 0 → get_or keys i 0 < key_count
    → LastsTo keys (i + 1) (set out key i)
lasts_turn {keys} {i} {out} m h e inside =
    rw e
    (record {
      size = simp length-set m.size;
      below = at_keys keys i out (λ key j. j < 96) (omega (arith, m.size)) h m.below;
      so = at_keys keys i out (λ key j. get_or keys j 0 ≡ key) (omega (arith, m.size)) refl m.so;
    })

pub lasts_end : {keys : List ℕ} {i : ℕ} {out : List ℕ} → LastsTo keys i out → 96 ≤ i → Lasts keys out
lasts_end m h = record { size = m.size; below = λ k l. m.below k (omega arith); so = λ k l. m.so k (omega arith) }

pub keys_below : {bits : ℕ} {parts : List ℕ} (hs : List ℕ) {keys : List ℕ} → Partable bits parts → Keys bits parts hs keys → Below keys
keys_below hs p k = record { below = λ i l. omega (arith, k.so i l, p.below i l) }

-- one digit
pub refine : {bits : ℕ} {parts hs keys lasts r : List ℕ} → Keys bits parts hs keys → Lasts keys lasts → Places keys lasts r → Refined bits parts hs r
refine {keys = keys} {lasts} {r} k t m =
    let below : (i : ℕ) → i < 96 → get_or r i 0 < 96 = λ i l. rw (m.so i l) (t.below i l) in
    let key : (i : ℕ) → i < 96 → get_or keys (get_or r i 0) 0 ≡ get_or keys i 0 = λ i l. rw (m.so i l) (t.so i l) in
    record {
      size = m.size;
      below = below;
      own = λ i l. m.so (get_or r i 0) (below i l) ∙ ap (λ n. get_or lasts n 0) (key i l) ∙ sym (m.so i l);
      same = λ i j a b p q. rw (m.so i a, m.so j b, k.so i a, k.so j b, p, q);
      finer = λ i j a b e.
          let keyed : get_or keys i 0 ≡ get_or keys j 0 = sym (key i a) ∙ ap (λ n. get_or keys n 0) e ∙ key j b in
          (omega (arith, k.so i a, k.so j b, keyed), omega (arith, k.so i a, k.so j b, keyed));
    }

-- parted by their last bits: handles that are the same are in one part, and those in one part are the same if the bits above are
pub record Parted (hs : List ℕ) (bits : ℕ) (parts : List ℕ) : Type 0 where
  pub size : length parts ≡ 96
  pub below : (k : ℕ) → k < 96 → get_or parts k 0 < 96
  pub small : (k : ℕ) → k < 96 → get_or hs k 0 < 2 ^ 32
  pub own : first_bits < bits → (k : ℕ) → k < 96 → get_or parts (get_or parts k 0) 0 ≡ get_or parts k 0
  pub same : (i j : ℕ) → i < 96 → j < 96 → get_or hs i 0 ≡ get_or hs j 0 → get_or parts i 0 ≡ get_or parts j 0
  pub told : (i j : ℕ) → i < 96 → j < 96 → get_or parts i 0 ≡ get_or parts j 0 → get_or hs i 0 / 2 ^ bits ≡ get_or hs j 0 / 2 ^ bits
      → get_or hs i 0 ≡ get_or hs j 0

pub parted_start : {hs parts : List ℕ} → FirstParts hs parts → Parted hs first_bits parts
parted_start p =
    record {
      size = p.size;
      below = λ k l. rw (p.so k l).so (omega arith);
      small = λ k l. (p.so k l).small;
      own = λ z. absurd (omega arith);
      same = λ i j a b e. rw ((p.so i a).so, (p.so j b).so, e);
      told = λ i j a b e f. omega (arith, (p.so i a).so, (p.so j b).so);
    }

-- the bits above a digit are those above what is below it, without the digit
above : (n bits : ℕ) → n / 2 ^ (bits + digit_bits) ≡ n / 2 ^ bits / radix
above n bits = ap (λ p. n / p) (pow-add 2 bits digit_bits) ∙ sym (div-div-eq-div-mul n (2 ^ bits) radix)

pub parted_turn : {hs parts finer : List ℕ} {bits : ℕ} → Parted hs bits parts → Refined bits parts hs finer → Parted hs (bits + digit_bits) finer
parted_turn {hs} {bits = bits} m r =
    record {
      size = r.size;
      below = r.below;
      small = m.small;
      own = λ z. r.own;
      same = λ i j a b e. r.same i j a b (m.same i j a b e) (rw e);
      told = λ i j a b e f.
          let (p, q) = r.finer i j a b e in m.told i j a b p (omega (arith, above (get_or hs i 0) bits, above (get_or hs j 0) bits));
    }

module _ (hs parts : List ℕ) {used : List Bool} (size : length hs ≡ 96) (sized : length parts ≡ 96) (u : UsedFlags hs used) where
  -- a block in use that is alone
  alone_at : all_from 0 (is_alone_in used) parts ≡ true → (i : ℕ) → i < 96 → get_or hs i 0 ≢ 0 → get_or parts i 0 ≡ i
  alone_at e i l n =
      let here : is_alone_in used i (get_or parts i 0) ≡ true = rw (zero-add i) at (all_from_within (is_alone_in used) 0 0 parts e i (omega arith)) in
      eqb-true (get_or parts i 0) i (rw (u.so i l, ne_eqb (get_or hs i 0) 0 n) at here)

  pub alone_distinct : ((i j : ℕ) → i < 96 → j < 96 → get_or hs i 0 ≡ get_or hs j 0 → get_or parts i 0 ≡ get_or parts j 0)
      → all_from 0 (is_alone_in used) parts ≡ true → is_distinct hs ≡ true
  alone_distinct same e =
      distinct_by hs
      (λ i j a b n q.
      sym (alone_at e i (omega arith) n) ∙ same i j (omega arith) (omega arith) q ∙ alone_at e j (omega arith) (λ z. n (q ∙ z)))

  -- in the end nothing is left of the handles
  pub parted_end : Parted hs (bits_below digit_count) parts → all_from 0 (is_alone_in used) parts ≡ is_distinct hs
  parted_end m =
      same_test _ _
      (alone_distinct m.same)
      (λ d.
      all_from_each (is_alone_in used) 0 0 parts
      (λ k l.
      let within : k < 96 = omega arith in
      let j = get_or parts k 0 in
      rw (zero-add k, u.so k within)
      (by_test (eqb (get_or hs k 0) 0)
      (λ z. rw z)
      (λ z.
      let inside : j < 96 = m.below k within in
      let alike = m.told j k inside within (m.own (omega arith) k within) (omega (arith, m.small k within, m.small j inside)) in
      rw (z, ← distinct_places hs d k j (omega arith) (omega arith) (eqb-false (get_or hs k 0) 0 z) (sym alike), eq-eqb k k refl)))))
