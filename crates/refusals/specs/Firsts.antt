-- A table of the blocks by the last byte of their handles.
use Rattle.std.specs.Prelude.{ℕ, ◌%◌, ◌≤◌, ◌<◌, List, ◌≢◌, get_or}
use Rattle.lists.specs.Filled.{Filled}
use Rattle.record.specs.Tables.{block_entries, byte_values}

-- A block, before which none from a place on has a handle with this last byte.
pub record FirstFor (from : ℕ) (handles : List ℕ) (byte block : ℕ) : Type 0 where
  pub within : block < block_entries
  pub before : (k : ℕ) → from ≤ k → k < block → get_or handles k 0 % byte_values ≢ byte

-- such a block for every byte
abbrev pub FirstBlocks : ℕ → List ℕ → List ℕ → Type 0
FirstBlocks from handles table = Filled 0 (FirstFor from handles) byte_values byte_values table
