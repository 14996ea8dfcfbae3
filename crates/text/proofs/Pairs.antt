-- Laws of pairs: those of a line are of digits, and spell its bytes.
use Prim.Native.Nat.{ℕ, ◌+◌, ◌-◌, ◌*◌, ◌/◌, ◌%◌, ◌≤◌, ◌<◌}
use native.Mathlib.Omega.{arith}
use mathlib.Core.List.{List}
use mathlib.Core.Path.{◌≡◌, ◌∙◌}
use lib.ListN.{length, take, drop, get_or, length-drop}
use lib.Seq.{take_all, get_or-drop, ext_get_or}
use Rattle.ledger.specs.Limits.{large_size}
use Rattle.text.specs.Fields.{field_at}
use Rattle.text.specs.Hex.{digit_of, bytes_of, Spells}
use Rattle.text.specs.Pairs.{pair_of, pair_at, values_by, spelled_by, DigitPair, Pairs, DigitPairs, Spelled}
use Rattle.text.proofs.Digits.{digit_most, digit_bits_lem, length_bytes, byte_spelled, high_below, low_below}
use Rattle.text.proofs.Fields.{field_one}

module _ (first second : ℕ) (d : digit_of first < 16) where
  pair_first : pair_of first second % 256 ≡ first
  pair_first = omega (arith, digit_most first d)

  pair_second : pair_of first second / 256 ≡ second
  pair_second = omega (arith, digit_most first d)

module _ (line : List ℕ) (at : ℕ) (s : Spells line (at + 1)) where
  pub pair_digits : DigitPair (pair_at line at)
  pair_digits =
      let high = high_below line at s in
      record { first = rw (pair_first _ _ high) high; second = rw (pair_second _ _ high) (low_below line at s) }

  pub pair_spelled : spelled_by (pair_at line at) ≡ field_at at 1 (bytes_of line)
  pair_spelled =
      let high = high_below line at s in
      rw (pair_first _ _ high, pair_second _ _ high, byte_spelled line at s)

-- the pairs from the place of a byte on
pub pair_drop : (line : List ℕ) (first at : ℕ) → pair_at (drop (2 * first) line) at ≡ pair_at line (first + at)
pair_drop line first at =
    let high : 2 * first + 2 * at ≡ 2 * (first + at) = omega arith in
    let low : 2 * first + (2 * at + 1) ≡ 2 * (first + at) + 1 = omega arith in
    rw (get_or-drop (2 * first) line (2 * at), get_or-drop (2 * first) line (2 * at + 1), high, low)

-- what is lent from a place up to the end
whole : (n : ℕ) (xs : List ℕ) → take (length xs - n) (drop n xs) ≡ drop n xs
whole n xs = take_all (length xs - n) (drop n xs) (simp length-drop (omega arith))

-- where the last so many of a line's bytes start
abbrev from : List ℕ → ℕ → ℕ
from line count = length line / 2 - count

-- the pairs from there on are of digits, and spell those bytes
module _ {line pairs : List ℕ} {count : ℕ} (s : Spells line count)
    (p : Pairs (take (length line - 2 * from line count) (drop (2 * from line count) line)) pairs) where
  pair_on : (k : ℕ) → k < count → get_or pairs k 0 ≡ pair_at line (from line count + k)
  pair_on k l =
      let rest = rw (whole (2 * from line count) line) at p in
      rest.so k (simp length-drop (omega (arith, s.enough))) ∙ pair_drop line (from line count) k

  spells_on : (k : ℕ) → k < count → Spells line (from line count + k + 1)
  spells_on k l = record { hex = s.hex; enough = omega (arith, s.enough) }

  pub last_pairs : count ≤ large_size → DigitPairs count pairs
  last_pairs room =
      record { room = room; digits = record { size = p.size; so = λ k l. rw (pair_on k l) (pair_digits line _ (spells_on k l)) } }

  pub last_spelled : {bytes : List ℕ} → Spelled pairs count bytes → bytes ≡ drop (from line count) (bytes_of line)
  last_spelled {bytes} b =
      ext_get_or 0 bytes _ (b.size ∙ simp (length-drop, length_bytes) (omega (arith, s.enough)))
      (λ k l. let below : k < count = omega (arith, b.size) in
      rw (b.so k below, pair_on k below, pair_spelled line _ (spells_on k below), field_one, get_or-drop))

-- where none are spelled
pub last_none : (line part : List ℕ) → length part ≡ 0 → part ≡ drop (from line (length part)) (bytes_of line)
last_none line part e = ext_get_or 0 part _ (simp (length-drop, length_bytes) (omega arith)) (λ k l. absurd (omega arith))

-- the low and the high bits of either character of a pair
module _ (pair : ℕ) where
  low_bits : pair % 16 ≡ pair % 256 % 16
  low_bits = omega arith

  first_bits_lem : pair / 64 % 4 ≡ pair % 256 / 64
  first_bits_lem = omega arith

  second_bits : pair / 16384 ≡ pair / 256 / 64
  second_bits = omega arith

both : (a b c d : ℕ) → a + 256 * b + 9 * (c + 256 * d) ≡ a + 9 * c + 256 * (b + 9 * d)
both a b c d = omega arith

-- the values of both at once
pub pair_bits : (pair : ℕ) → DigitPair pair → pair % 16 + 256 * (pair / 256 % 16) + 9 * (pair / 64 % 4 + 256 * (pair / 16384)) ≡ values_by pair
pair_bits pair digits =
    rw (low_bits pair, first_bits_lem pair, second_bits pair, both (pair % 256 % 16) (pair / 256 % 16) (pair % 256 / 64) (pair / 256 / 64), digit_bits_lem (pair % 256) digits.first, digit_bits_lem (pair / 256) digits.second)
