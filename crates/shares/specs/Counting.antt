-- Blocks and makers counted, from one place of the table to another. All is said of prefixes: with those before the first place, there are
-- as many as before the last.
use Rattle.std.specs.Prelude.{ℕ, ◌+◌, ◌*◌, ◌%◌, ◌≤◌, ◌<◌, Bool, true, false, cond, ◌&&◌, List, ◌≡◌, eqb, length, get_or, take}
use Rattle.lists.specs.Filled.{Filled}
use Rattle.lists.specs.Sums.{sum_below}
use Rattle.lists.specs.Tests.{count}
use Rattle.ledger.specs.Limits.{capacity, task_count}
use Rattle.record.specs.Codes.{free_block}
use Rattle.record.specs.Tables.{BlockEntry, block_entries, byte_values, maker_in}
use Rattle.record.specs.WellFormed.{is_used}
use Rattle.shares.specs.declared.makers.Tallies.{Tallies}

-- the places of a store's blocks: from the first, to the one past the last
abbrev pub first_block : Bool → ℕ
first_block store = cond store 0 capacity.small

abbrev pub end_block : Bool → ℕ
end_block store = cond store capacity.small block_entries

-- places of the table, in groups of four
pub record Span (from to : ℕ) : Type 0 where
  pub ordered : from ≤ to
  pub within : to ≤ block_entries
  pub from_whole : from % 4 ≡ 0
  pub to_whole : to % 4 ≡ 0

-- blocks of which these columns tell whether they are in use, and who made them
pub record InColumns (used : List Bool) (extents : List ℕ) (blocks : List BlockEntry) : Type 0 where
  pub size : length blocks ≡ block_entries
  pub use_at : (k : ℕ) → k < block_entries → get_or used k false ≡ is_used (get_or blocks k free_block)
  pub maker_at : (k : ℕ) → k < block_entries → maker_in (get_or extents k 0) ≡ (get_or blocks k free_block).maker

abbrev pub is_used_by : ℕ → BlockEntry → Bool
is_used_by maker b = is_used b && eqb b.maker maker

-- a table of counters, none above so many
pub record Few (most : ℕ) (table : List ℕ) : Type 0 where
  pub size : length table ≡ byte_values
  pub so : (k : ℕ) → k < byte_values → get_or table k 0 ≤ most

-- the blocks from i up to j are counted, each for its maker
pub record Added (used : List Bool) (extents : List ℕ) (i j : ℕ) (before after : List ℕ) : Type 0 where
  pub few : Few j after
  pub so : (blocks : List BlockEntry) → InColumns used extents blocks → (k : ℕ) → k < byte_values
      → get_or after k 0 + count (is_used_by k) (take i blocks) ≡ get_or before k 0 + count (is_used_by k) (take j blocks)

-- those alone
pub record Tallied (used : List Bool) (extents : List ℕ) (from to : ℕ) (table : List ℕ) : Type 0 where
  pub few : Few to table
  pub so : (blocks : List BlockEntry) → InColumns used extents blocks → (k : ℕ) → k < byte_values
      → get_or table k 0 + count (is_used_by k) (take from blocks) ≡ count (is_used_by k) (take to blocks)

pub record TalliedBoth (used : List Bool) (extents : List ℕ) (tallies : Tallies) : Type 0 where
  pub small : Tallied used extents (first_block true) (end_block true) tallies.small
  pub large : Tallied used extents (first_block false) (end_block false) tallies.large

-- how many are in use
pub record CountedIn (used : List Bool) (from to n : ℕ) : Type 0 where
  pub most : n ≤ to
  pub so : (extents : List ℕ) (blocks : List BlockEntry) → InColumns used extents blocks → n + count is_used (take from blocks) ≡ count is_used (take to blocks)

abbrev pub First : List ℕ → List ℕ → Type 0
First table r = Filled 0 (λ k x. x ≡ get_or table k 0) task_count task_count r

-- the sum of the numbers of all tasks
abbrev pub of_all : List ℕ → ℕ
of_all numbers = sum_below task_count (λ (k : ℕ). get_or numbers k 0)

pub record Totals (numbers : List ℕ) (r : ℕ) : Type 0 where
  pub so : r ≡ of_all numbers
  pub most : r ≤ task_count * 255
