-- Where the blocks lie in the two stores.
use Rattle.std.specs.Prelude.{ℕ, ◌+◌, ◌-◌, ◌*◌, ◌≤◌, ◌<◌, cond, List, ◌≡◌, length}
use Rattle.lists.specs.Blocks.{overwritten}
use Rattle.lists.specs.Sums.{total}
use Rattle.ledger.specs.Limits.{capacity}
use Rattle.record.specs.Reading.{is_small_block, size_of, block_bytes}
use Rattle.record.specs.Tables.{block_entries}

-- the store that has the block, and the block's place among the blocks of that store
abbrev pub store_of : List ℕ → List ℕ → ℕ → List ℕ
store_of small large block = cond (is_small_block block) small large

unfoldable pub index_of : ℕ → ℕ
index_of block = cond (is_small_block block) block (block - capacity.small)

-- where the block starts in its store
unfoldable pub start_of : ℕ → ℕ
start_of block = index_of block * size_of block

-- The first bytes of a block lie in its store: the store has so many whole blocks, this one is among them, and it is long enough.
pub record InBlock (small large : List ℕ) (block count : ℕ) : Type 0 where
  pub known : block < block_entries
  pub blocks : ℕ
  pub whole : length (store_of small large block) ≡ blocks * size_of block
  pub few : blocks ≤ capacity.small
  pub among : index_of block < blocks
  pub within : count ≤ size_of block

-- Either store after new bytes at an offset in a block: the store that has the block changes there, and the other one stays.
unfoldable pub small_after : ℕ → ℕ → List ℕ → List ℕ → List ℕ
small_after block offset new small = cond (is_small_block block) (overwritten (start_of block + offset) new small) small

unfoldable pub large_after : ℕ → ℕ → List ℕ → List ℕ → List ℕ
large_after block offset new large = cond (is_small_block block) large (overwritten (start_of block + offset) new large)

-- O33: the most that the bytes of a block add up to
abbrev pub most_sum : ℕ
most_sum = 65280

-- O34: the sum of the bytes that a block has
abbrev pub sum_at : List ℕ → List ℕ → ℕ → ℕ
sum_at small large block = total (block_bytes small large block (size_of block))

-- O35: and the sum of those that it has after new ones from an offset on
abbrev pub sum_after : List ℕ → List ℕ → ℕ → ℕ → List ℕ → ℕ
sum_after small large block offset new = total (overwritten offset new (block_bytes small large block (size_of block)))
