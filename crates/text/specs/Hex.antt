-- F22: bytes as hexadecimal digits.
use Rattle.std.specs.Prelude.{ℕ, ◌+◌, ◌-◌, ◌*◌, ◌/◌, ◌%◌, ◌≤◌, Bool, true, cond, ◌&&◌, List, [], ◌∷◌, ◌≡◌, eqb, ltb, length}
use Rattle.lists.specs.Blocks.{overwritten}
use Rattle.lists.specs.Tests.{all}
use Rattle.ledger.specs.Limits.{is_within}

-- the value of a digit, a character from 48 to 57 or from 65 to 70; 16 for another character
unfoldable pub digit_of : ℕ → ℕ
digit_of c = cond (is_within 48 57 c) (c - 48) (cond (is_within 65 70 c) (c - 65 + 10) 16)

abbrev pub is_digit : ℕ → Bool
is_digit c = ltb (digit_of c) 16

-- R16 where this fails
abbrev pub is_hex : List ℕ → Bool
is_hex line = eqb (length line % 2) 0 && all is_digit line

-- the bytes that a line spells, the high digit of each first
abbrev pub bytes_of : List ℕ → List ℕ
bytes_of [] = []
bytes_of (h ∷ []) = []
bytes_of (h ∷ l ∷ line) = (16 * digit_of h + digit_of l) ∷ bytes_of line

-- the digit of a value below 16
unfoldable pub digit_for : ℕ → ℕ
digit_for v = cond (ltb v 10) (48 + v) (65 + (v - 10))

-- bytes as a line
abbrev pub hex_of : List ℕ → List ℕ
hex_of [] = []
hex_of (b ∷ bytes) = digit_for (b / 16) ∷ digit_for (b % 16) ∷ hex_of bytes

-- A line is hexadecimal and spells so many bytes at least.
pub record Spells (line : List ℕ) (count : ℕ) : Type 0 where
  pub hex : is_hex line ≡ true
  pub enough : 2 * count ≤ length line

-- Bytes from a place of a buffer on, of which nothing else changes, and the place after them.
pub record Puts (at : ℕ) (new old after : List ℕ) (end : ℕ) : Type 0 where
  pub bytes : after ≡ overwritten at new old
  pub next : end ≡ at + length new
