-- How handles are told apart: by remainders, and by parts that one digit after another makes finer.
use Rattle.std.specs.Prelude.{ℕ, ◌+◌, ◌*◌, ◌/◌, ◌%◌, ◌^◌, ◌<◌, Bool, false, not, ◌&&◌, ◌||◌, List, ◌≡◌, eqb, ltb, length, get_or}
use Rattle.lists.specs.Tests.{count}
use Rattle.lists.specs.Filled.{Filled}
use Rattle.record.specs.Tables.{block_entries}

-- a handle that has this remainder
abbrev pub is_of_rest : ℕ → ℕ → Bool
is_of_rest k handle = eqb (handle % 256) k

-- and is no free block's 0
abbrev pub has_rest : ℕ → ℕ → Bool
has_rest k handle = not (eqb handle 0) && is_of_rest k handle

pub record Counted (handles r : List ℕ) : Type 0 where
  pub size : length r ≡ 256
  pub so : (k : ℕ) → k < 256 → get_or r k 0 ≡ count (has_rest k) handles

abbrev pub is_few : ℕ → Bool
is_few count = ltb count 2

-- the block at a place is free, or its part is known by it
abbrev pub is_alone_in : List Bool → ℕ → ℕ → Bool
is_alone_in used i part = not (get_or used i false) || eqb part i

abbrev pub UsedFlags : List ℕ → List Bool → Type 0
UsedFlags handles r = Filled false (λ k x. x ≡ not (eqb (get_or handles k 0) 0)) block_entries block_entries r

-- the handles of all blocks, and which are in use
pub record UsedIn (handles : List ℕ) (used : List Bool) : Type 0 where
  pub size : length handles ≡ block_entries
  pub so : UsedFlags handles used

-- the bits of a handle that the first parts go by
abbrev pub first_bits : ℕ
first_bits = 6

-- those of a digit
abbrev pub digit_bits : ℕ
digit_bits = 3

-- so many digits stand above the first bits
abbrev pub digit_count : ℕ
digit_count = 9

-- the numbers that a digit can be
abbrev pub radix : ℕ
radix = 2 ^ digit_bits

-- the bits below a digit
abbrev pub bits_below : ℕ → ℕ
bits_below digit = first_bits + digit_bits * digit

-- the digit above so many bits
abbrev pub digit_above : ℕ → ℕ → ℕ
digit_above bits handle = handle / 2 ^ bits % radix

-- the first part of a handle, which has 32 bits
pub record FirstPart (handle r : ℕ) : Type 0 where
  pub so : r ≡ handle % 2 ^ first_bits
  pub small : handle < 2 ^ 32

abbrev pub FirstParts : List ℕ → List ℕ → Type 0
FirstParts handles r = Filled 0 (λ k x. FirstPart (get_or handles k 0) x) block_entries block_entries r

-- parts that the digits above so many bits can make finer
pub record Partable (bits : ℕ) (parts : List ℕ) : Type 0 where
  pub within : bits < 32
  pub below : (k : ℕ) → k < block_entries → get_or parts k 0 < block_entries

-- a part with a digit
abbrev pub key_of : ℕ → ℕ → ℕ → ℕ
key_of bits part handle = part * radix + digit_above bits handle

abbrev pub Keys : ℕ → List ℕ → List ℕ → List ℕ → Type 0
Keys bits parts handles r = Filled 0 (λ k x. x ≡ key_of bits (get_or parts k 0) (get_or handles k 0)) block_entries block_entries r

-- parts and digits that are possible
abbrev pub key_count : ℕ
key_count = block_entries * radix

pub record Below (keys : List ℕ) : Type 0 where
  pub below : (k : ℕ) → k < block_entries → get_or keys k 0 < key_count

-- at the key of each block stands a block of that key
pub record Lasts (keys r : List ℕ) : Type 0 where
  pub size : length r ≡ key_count
  pub below : (k : ℕ) → k < block_entries → get_or r (get_or keys k 0) 0 < block_entries
  pub so : (k : ℕ) → k < block_entries → get_or keys (get_or r (get_or keys k 0) 0) 0 ≡ get_or keys k 0

abbrev pub Places : List ℕ → List ℕ → List ℕ → Type 0
Places keys lasts r = Filled 0 (λ k x. x ≡ get_or lasts (get_or keys k 0) 0) block_entries block_entries r

-- blocks are in one part after a digit exactly if they were before and have that digit; each part is known by one of its blocks
pub record Refined (bits : ℕ) (parts handles r : List ℕ) : Type 0 where
  pub size : length r ≡ block_entries
  pub below : (k : ℕ) → k < block_entries → get_or r k 0 < block_entries
  pub own : (k : ℕ) → k < block_entries → get_or r (get_or r k 0) 0 ≡ get_or r k 0
  pub same : (i j : ℕ) → i < block_entries → j < block_entries → get_or parts i 0 ≡ get_or parts j 0 → digit_above bits (get_or handles i 0) ≡ digit_above bits (get_or handles j 0) → get_or r i 0 ≡ get_or r j 0
  pub finer : (i j : ℕ) → i < block_entries → j < block_entries → get_or r i 0 ≡ get_or r j 0
      → (get_or parts i 0 ≡ get_or parts j 0) × (digit_above bits (get_or handles i 0) ≡ digit_above bits (get_or handles j 0))
