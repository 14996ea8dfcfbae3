-- F22: the two digits of a byte as one number, the first in its low byte, so that many bytes are spelled at once.
use Rattle.std.specs.Prelude.{ℕ, ◌+◌, ◌*◌, ◌/◌, ◌%◌, ◌≤◌, ◌<◌, List, ◌≡◌, length, get_or}
use Rattle.lists.specs.Filled.{Filled}
use Rattle.ledger.specs.Limits.{large_size}
use Rattle.text.specs.Hex.{digit_of}

abbrev pub pair_of : ℕ → ℕ → ℕ
pair_of first second = first + 256 * second

-- the pair at the place of a byte
abbrev pub pair_at : List ℕ → ℕ → ℕ
pair_at digits at = pair_of (get_or digits (2 * at) 0) (get_or digits (2 * at + 1) 0)

-- the values of both digits of a pair, each where its character stands
abbrev pub values_by : ℕ → ℕ
values_by pair = pair_of (digit_of (pair % 256)) (digit_of (pair / 256))

-- the byte that a pair of digits spells
abbrev pub spelled_by : ℕ → ℕ
spelled_by pair = 16 * digit_of (pair % 256) + digit_of (pair / 256)

-- Both characters of a pair are digits.
pub record DigitPair (pair : ℕ) : Type 0 where
  pub first : digit_of (pair % 256) < 16
  pub second : digit_of (pair / 256) < 16

-- the pairs of a list of digits, at the start of an array
abbrev pub Pairs : List ℕ → List ℕ → Type 0
Pairs digits pairs = Filled 0 (λ k pair. pair ≡ pair_at digits k) large_size (length digits / 2) pairs

-- So many of an array are pairs of digits.
pub record DigitPairs (count : ℕ) (pairs : List ℕ) : Type 0 where
  pub room : count ≤ large_size
  pub digits : Filled 0 (λ k pair. DigitPair pair) large_size count pairs

-- so many bytes, each that of its pair
abbrev pub Spelled : List ℕ → ℕ → List ℕ → Type 0
Spelled pairs count bytes = Filled 0 (λ k byte. byte ≡ spelled_by (get_or pairs k 0)) count count bytes
