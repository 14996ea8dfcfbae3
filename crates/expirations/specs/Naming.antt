-- Which blocks are named.
use Rattle.std.specs.Prelude.{◌≡◌, ℕ, ◌<◌, Bool, false, cond, ◌&&◌, List, length, ◌==◌, slice_index, slice_index_or}
use Rattle.lists.specs.Filled.{Filled}
use Rattle.record.specs.Tables.{block_entries, expiration_entries, byte_values}
use Rattle.expirations.specs.Places.{SomeBetween}
use Rattle.expirations.specs.Standing.{is_dated_clock, is_byte_at, is_dated_at}

-- the flag of each block says whether one of the first n places passes with it
pub record BlockMarks (p : ℕ → ℕ → Bool) (n : ℕ) (flags : List Bool) : Type 0 where
  pub size : length flags ≡ byte_values
  pub so : (block : ℕ) → block < block_entries → SomeBetween (p block) 0 n (slice_index_or flags block false)

-- the entry at a place names the block
abbrev pub is_named_at : List ℕ → List ℕ → ℕ → ℕ → Bool
is_named_at clocks named block k = is_dated_at clocks k && slice_index named k == block

abbrev pub NamedFlags : List ℕ → List ℕ → ℕ → List Bool → Type 0
NamedFlags clocks named n flags = BlockMarks (is_named_at clocks named) n flags

-- the flag that an entry sets: its block's, or the last, which is no block's, where it has no expiration
abbrev pub named_slot : ℕ → ℕ → ℕ
named_slot clock block = cond (is_dated_clock clock) block 255

abbrev pub NamedSlots : List ℕ → List ℕ → List ℕ → Type 0
NamedSlots clocks named r = Filled 0 (λ k x. x ≡ named_slot (slice_index clocks k) (slice_index named k)) expiration_entries expiration_entries r

abbrev pub is_slot_at : List ℕ → ℕ → ℕ → Bool
is_slot_at slots block k = is_byte_at block slots k
