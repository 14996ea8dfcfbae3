-- Which entries are in use, and how many, by their clocks.
use Rattle.std.specs.Prelude.{ℕ, ◌/◌, Bool, not, ◌&&◌, List, ◌==◌, nat_eq, nat_le, slice_index}
use Rattle.lists.specs.Tests.{count}
use Rattle.lists.specs.Tables.{first_from}
use Rattle.record.specs.Tables.{expiration_entries}
use Rattle.record.specs.Codes.{local_code, pinned_code, is_global_clock}

-- the entries of a half, whose count a byte can hold
abbrev pub half_size : ℕ
half_size = expiration_entries / 2

-- the clock of an entry in use
abbrev pub is_used_clock : ℕ → Bool
is_used_clock clock = not (clock == 0)

-- how many expirations stand
abbrev pub standing_of : List ℕ → ℕ
standing_of clocks = count is_used_clock clocks

-- the first free entry, or their count
abbrev pub free_in : List ℕ → ℕ
free_in clocks = first_from 0 (λ (clock : ℕ). nat_eq clock 0) clocks

-- the clock of an expiration: of a task, the global time, or none where it is pinned
abbrev pub is_dated_clock : ℕ → Bool
is_dated_clock clock = nat_le local_code clock && nat_le clock pinned_code

-- what the entry at a place has
abbrev pub is_byte_at : ℕ → List ℕ → ℕ → Bool
is_byte_at byte column k = slice_index column k == byte

abbrev pub is_dated_at : List ℕ → ℕ → Bool
is_dated_at clocks k = is_dated_clock (slice_index clocks k)

abbrev pub is_global_clock_at : List ℕ → ℕ → Bool
is_global_clock_at clocks k = is_global_clock (slice_index clocks k)
