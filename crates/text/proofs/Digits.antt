-- Laws of hexadecimal: what a line spells byte by byte, bytes as a line digit by digit, and the one after the other.
use Prim.Native.Nat.{ℕ, zero, suc, ◌+◌, ◌-◌, ◌*◌, ◌/◌, ◌%◌, ◌≤◌, ◌<◌}
use native.Mathlib.Nat.{suc-add}
use native.Mathlib.Omega.{arith}
use mathlib.Core.Bool.{Bool, true, false, ◌&&◌, ◌||◌, and-eq-true_iff, and-false, and-true, and_assoc}
use mathlib.Core.List.{List, [], ◌∷◌, ◌++◌}
use mathlib.Core.Path.{◌≡◌, refl, sym, ap, ◌∙◌}
use borrow.Author.Tests.{eqb-true, eq-eqb, leb-true, ltb-true, ltb-false, lt-ltb, le-leb, lt-leb}
use lib.Dec.{eqb, leb, ltb}
use lib.ListN.{length, get_or}
use Rattle.std.specs.Prelude.{fold}
use Rattle.lists.specs.Tests.{all, All}
use Rattle.lists.proofs.Cases.{by_test}
use Rattle.lists.proofs.Searches.{passes_within}
use Rattle.text.specs.Fields.{field_at}
use Rattle.text.proofs.Fields.{field_one}
use Rattle.ledger.specs.Limits.{is_within}
use Rattle.text.specs.Hex.{digit_of, is_digit, is_hex, bytes_of, digit_for, hex_of, Spells}

within : (low high n : ℕ) → low ≤ n → n < high + 1 → is_within low high n ≡ true
within low high n h k = rw (le-leb low n h, le-leb n high (omega arith))

over : (low high n : ℕ) → high + 1 ≤ n → is_within low high n ≡ false
over low high n h = rw (lt-leb n high (omega arith), and-false)

-- the bounds of a range that a number is in
bounds : (low high n : ℕ) → is_within low high n ≡ true → (low ≤ n) × (n ≤ high)
bounds low high n e =
    let (l, h) = (and-eq-true_iff (leb low n) (leb n high)).0 e in
    (leb-true low n l, leb-true n high h)

-- a test of digits one after the other
pub tested_digits : (ok : Bool) (line : List ℕ) → fold (λ ok c. ok && is_digit c) ok line ≡ (ok && all is_digit line)
tested_digits ok [] = sym (and-true ok)
tested_digits ok (c ∷ line) = tested_digits (ok && is_digit c) line ∙ and_assoc ok (is_digit c) (all is_digit line)

-- a digit is in one of the two ranges
pub digit_test : (c : ℕ) → (is_within 48 57 c || is_within 65 70 c) ≡ is_digit c
unfolding digit_of
digit_test c =
    by_test (is_within 48 57 c)
    (λ e. rw (e, lt-ltb (c - 48) 16 (omega (arith, (bounds 48 57 c e).1))))
    (λ e. by_test (is_within 65 70 c)
    (λ f. rw (e, f, lt-ltb (c - 65 + 10) 16 (omega (arith, (bounds 65 70 c f).1))))
    (λ f. rw (e, f)))

-- digits are low characters
pub digit_most : (c : ℕ) → digit_of c < 16 → c ≤ 70
unfolding digit_of
digit_most c h =
    by_test (is_within 48 57 c) (λ e. omega (arith, (bounds 48 57 c e).1))
    (λ e. by_test (is_within 65 70 c) (λ f. (bounds 65 70 c f).1) (λ f. let k : 16 < 16 = rw (e, f) at h in absurd (omega arith)))

-- the value of a digit, by its low four bits and the seventh
pub digit_bits_lem : (c : ℕ) → digit_of c < 16 → c % 16 + 9 * (c / 64) ≡ digit_of c
unfolding digit_of
digit_bits_lem c h =
    by_test (is_within 48 57 c)
    (λ e. rw e (omega (arith, (bounds 48 57 c e).0, (bounds 48 57 c e).1)))
    (λ e. by_test (is_within 65 70 c)
    (λ f. rw (e, f) (omega (arith, (bounds 65 70 c f).0, (bounds 65 70 c f).1)))
    (λ f. let k : 16 < 16 = rw (e, f) at h in absurd (omega arith)))

double : (n : ℕ) → 2 * suc n ≡ suc (suc (2 * n))
double n = omega arith

pub next_pair : (i : ℕ) → 2 * (i + 1) ≡ 2 * i + 1 + 1
next_pair i = omega arith

pub length_bytes : (line : List ℕ) → length (bytes_of line) ≡ length line / 2
length_bytes [] = refl
length_bytes (h ∷ []) = refl
length_bytes (h ∷ l ∷ line) = rw (length_bytes line) (omega arith)

pub length_hex : (bytes : List ℕ) → length (hex_of bytes) ≡ 2 * length bytes
length_hex [] = refl
length_hex (b ∷ bytes) = rw (length_hex bytes) (omega arith)

pub hex_append : (xs ys : List ℕ) → hex_of (xs ++ ys) ≡ hex_of xs ++ hex_of ys
hex_append [] ys = refl
hex_append (x ∷ xs) ys = rw (hex_append xs ys)

-- a line that is not empty spells a byte
pub spells_one : (line : List ℕ) → is_hex line ≡ true → (length line ≡ 0 → ⊥) → Spells line 1
spells_one line e ne =
    record { hex = e; enough = omega (arith, eqb-true (length line % 2) 0 ((and-eq-true_iff (eqb (length line % 2) 0) _).0 e).0) }

-- a byte is its two digits
byte_digits : (line : List ℕ) (at : ℕ) → 2 * at + 1 < length line
    → get_or (bytes_of line) at 0 ≡ 16 * digit_of (get_or line (2 * at) 0) + digit_of (get_or line (2 * at + 1) 0)
byte_digits [] at h = absurd (omega arith)
byte_digits (d ∷ []) at h = absurd (omega arith)
byte_digits (d ∷ e ∷ line) zero h = refl
byte_digits (d ∷ e ∷ line) (suc at) h = rw (double, suc-add, suc-add) (byte_digits line at (omega arith))

module _ (line : List ℕ) (at : ℕ) (s : Spells line (at + 1)) where
  pub byte_spelled : field_at at 1 (bytes_of line) ≡ 16 * digit_of (get_or line (2 * at) 0) + digit_of (get_or line (2 * at + 1) 0)
  byte_spelled = rw (field_one at (bytes_of line)) (byte_digits line at (omega (arith, s.enough)))

  digit_below : (i : ℕ) → i < length line → digit_of (get_or line i 0) < 16
  digit_below i h = ltb-true _ 16 (passes_within is_digit line i 0 ((and-eq-true_iff (eqb (length line % 2) 0) _).0 s.hex).1 h)

  pub high_below : digit_of (get_or line (2 * at) 0) < 16
  high_below = digit_below (2 * at) (omega (arith, s.enough))

  pub low_below : digit_of (get_or line (2 * at + 1) 0) < 16
  low_below = digit_below (2 * at + 1) (omega (arith, s.enough))

-- the two digits of a byte
pub high_digit : (bytes : List ℕ) (i : ℕ) → i < length bytes → get_or (hex_of bytes) (2 * i) 0 ≡ digit_for (get_or bytes i 0 / 16)
high_digit [] i h = absurd (omega arith)
high_digit (b ∷ bytes) zero h = refl
high_digit (b ∷ bytes) (suc i) h = rw double (high_digit bytes i (omega arith))

pub low_digit : (bytes : List ℕ) (i : ℕ) → i < length bytes → get_or (hex_of bytes) (2 * i + 1) 0 ≡ digit_for (get_or bytes i 0 % 16)
low_digit [] i h = absurd (omega arith)
low_digit (b ∷ bytes) zero h = refl
low_digit (b ∷ bytes) (suc i) h = rw (double, suc-add, suc-add) (low_digit bytes i (omega arith))

-- a digit's value is the value whose digit it is
digit_value : (v : ℕ) → v < 16 → digit_of (digit_for v) ≡ v
unfolding digit_of digit_for
digit_value v h =
    by_test (ltb v 10)
    (λ e. rw (e, within 48 57 (48 + v) (omega arith) (omega (arith, ltb-true v 10 e))) (omega arith))
    (λ e. let k = ltb-false v 10 e in
    rw (e, over 48 57 (65 + (v - 10)) (omega arith), within 65 70 (65 + (v - 10)) (omega arith) (omega arith)) (omega arith))

digits_hex : (bytes : List ℕ) → All (λ (b : ℕ). b < 256) bytes → all is_digit (hex_of bytes) ≡ true
digits_hex [] h = refl
digits_hex (b ∷ bytes) (h, hs) =
    rw (digit_value (b / 16) (omega arith), digit_value (b % 16) (omega arith), lt-ltb (b / 16) 16 (omega arith), lt-ltb (b % 16) 16 (omega arith))
    (digits_hex bytes hs)

-- bytes as a line are hexadecimal, and spell those bytes
pub hex_hex : (bytes : List ℕ) → All (λ (b : ℕ). b < 256) bytes → is_hex (hex_of bytes) ≡ true
hex_hex bytes h = rw (length_hex bytes, eq-eqb (2 * length bytes % 2) 0 (omega arith)) (digits_hex bytes h)

pub bytes_hex : (bytes : List ℕ) → All (λ (b : ℕ). b < 256) bytes → bytes_of (hex_of bytes) ≡ bytes
bytes_hex [] h = refl
bytes_hex (b ∷ bytes) (h, hs) =
    rw (digit_value (b / 16) (omega arith), digit_value (b % 16) (omega arith), bytes_hex bytes hs) (ap (λ (n : ℕ). n ∷ bytes) (omega arith))
