-- The end of a pinned expiration by a release.
use Rattle.std.specs.Prelude.{◌≡◌, ℕ, ◌<◌, true, cond, ◌≢◌, List, map, length, slice_index}
use Rattle.lists.specs.Tables.{map_from}
use Rattle.record.specs.Tables.{blocks_of, entries_of, block_entries, expiration_entries}
use Rattle.steps.specs.Events.{kept_block}
use Rattle.steps.specs.Objects.{unpinned_entry}
use Rattle.expirations.specs.Naming.{is_named_at}
use Rattle.expirations.specs.Pinning.{is_pin_by}
use Rattle.expirations.specs.Places.{SomeBetween}

-- a clock after the release of the object in the block; and the one at a place, with the blocks that all name
abbrev pub unpinned_clock : ℕ → ℕ → ℕ → ℕ
unpinned_clock block clock named = cond (is_pin_by block clock named) 0 clock

abbrev pub unpinned_at : ℕ → List ℕ → ℕ → ℕ → ℕ
unpinned_at block named k clock = unpinned_clock block clock (slice_index named k)

-- W2: each block in use is named
pub record AllNamed (handles clocks named : List ℕ) : Type 0 where
  pub so : (block : ℕ) → block < block_entries → slice_index handles block ≢ 0 → SomeBetween (is_named_at clocks named block) 0 expiration_entries true

-- Both tables after a release: the pinned expiration of the block is ended, and blocks that none names any more are free.
pub record Releases (block : ℕ) (named handles clocks handles' clocks' : List ℕ) : Type 0 where
  pub handles_size : length handles' ≡ block_entries
  pub clocks_size : length clocks' ≡ expiration_entries
  pub entries : (dues : List ℕ) → length dues ≡ expiration_entries → entries_of clocks' named dues ≡ map (unpinned_entry block) (entries_of clocks named dues)
  pub blocks : (extents dues : List ℕ) → length extents ≡ block_entries → length dues ≡ expiration_entries
      → blocks_of handles' extents ≡ map_from 0 (kept_block (entries_of clocks' named dues)) (blocks_of handles extents)
