-- Whether no two pinned expirations name one block, by a flag for each block.
use Rattle.std.specs.Prelude.{◌≡◌, ℕ, ◌<◌, Bool, false, not, List, length, take, ◌==◌, slice_index_or}
use Rattle.lists.specs.Tests.{any}
use Rattle.record.specs.Codes.{pinned_code}
use Rattle.record.specs.Tables.{entries_of, expiration_entries, byte_values}
use Rattle.record.specs.WellFormed.{is_pin_on, is_pinned_once}

abbrev pub is_unpinned : ℕ → Bool
is_unpinned clock = not (clock == pinned_code)

-- after i entries, whatever their due numbers: which blocks the pinned ones name, and whether none twice
pub record PinsTo (clocks named : List ℕ) (i : ℕ) (flags : List Bool) (fit : Bool) : Type 0 where
  pub size : length flags ≡ byte_values
  pub names : (dues : List ℕ) → length dues ≡ expiration_entries → (k : ℕ) → k < byte_values
      → slice_index_or flags k false ≡ any (is_pin_on k) (take i (entries_of clocks named dues))
  pub once : (dues : List ℕ) → length dues ≡ expiration_entries → fit ≡ is_pinned_once (take i (entries_of clocks named dues))

-- after all
pub record PinnedOnce (clocks named : List ℕ) (r : Bool) : Type 0 where
  pub so : (dues : List ℕ) → length dues ≡ expiration_entries → r ≡ is_pinned_once (entries_of clocks named dues)
