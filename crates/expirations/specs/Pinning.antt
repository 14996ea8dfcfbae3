-- The pinned expiration of a block (02: kept).
use Rattle.std.specs.Prelude.{◌≡◌, ℕ, Bool, ◌&&◌, List, length, ◌==◌, slice_index}
use Rattle.lists.specs.Tests.{any}
use Rattle.record.specs.Codes.{pinned_code}
use Rattle.record.specs.Tables.{entries_of, expiration_entries}
use Rattle.record.specs.WellFormed.{is_pin_on}

-- an entry is pinned and names the block, by its numbers; and the one at a place
abbrev pub is_pin_by : ℕ → ℕ → ℕ → Bool
is_pin_by block clock named = clock == pinned_code && named == block

abbrev pub is_pin_at : ℕ → List ℕ → List ℕ → ℕ → Bool
is_pin_at block clocks named k = is_pin_by block (slice_index clocks k) (slice_index named k)

-- r says whether the object in the block has its pinned expiration, whatever the due numbers are
pub record Pins (block : ℕ) (clocks named : List ℕ) (r : Bool) : Type 0 where
  pub so : (dues : List ℕ) → length dues ≡ expiration_entries → r ≡ any (is_pin_on block) (entries_of clocks named dues)
