-- The record's tables as lists of entries: what stands at one place of all arrays of a table.
use Rattle.std.specs.Prelude.{◌≡◌, ℕ, ◌+◌, ◌*◌, ◌/◌, ◌%◌, List, map, length}
use Rattle.lists.specs.Columns.{◌⊛◌}
use Rattle.ledger.specs.Limits.{capacity}
use Rattle.ledger.specs.declared.Answer.{Answer}
use Rattle.ledger.specs.declared.Limits.{Limits}
use Rattle.ledger.specs.declared.Share.{Share}
use Rattle.record.specs.declared.TaskEntry.{TaskEntry}
use Rattle.record.specs.declared.GlobalTime.{GlobalTime}
use Rattle.record.specs.declared.BlockTable.{BlockTable}
use Rattle.record.specs.declared.ExpirationTable.{ExpirationTable}
use Rattle.record.specs.declared.Head.{Head}
use Rattle.record.specs.declared.Pool.{Pool}

-- the entries of the record's two tables: those of the small store's blocks, then those of the large one's; and those of expirations
abbrev pub block_entries : ℕ
block_entries = capacity.small + capacity.large

abbrev pub expiration_entries : ℕ
expiration_entries = capacity.expirations

-- those that are asked at once, and the groups of them
abbrev pub group_size : ℕ
group_size = 32

abbrev pub group_count : ℕ
group_count = expiration_entries / group_size

-- the numbers that a byte can be: a table by clocks or blocks as they come has a place for each
abbrev pub byte_values : ℕ
byte_values = 256

-- the values that a length has, a prefix too, and a maker; those of all that stands below the prefix, and below the sum
abbrev pub length_range : ℕ
length_range = 65536

abbrev pub maker_range : ℕ
maker_range = 256

abbrev pub prefix_unit : ℕ
prefix_unit = 4294967296

abbrev pub sum_unit : ℕ
sum_unit = 281474976710656

-- O33, Q3, V4: an extent has, from its low end, the length of an object, its maker, eight bits that are left for later, its prefix (02:
-- head length) and, at the top, the sum of the block's bytes
abbrev pub length_in : ℕ → ℕ
length_in extent = extent % length_range

abbrev pub maker_in : ℕ → ℕ
maker_in extent = extent / length_range % maker_range

abbrev pub prefix_in : ℕ → ℕ
prefix_in extent = extent / prefix_unit % length_range

abbrev pub sum_in : ℕ → ℕ
sum_in extent = extent / sum_unit

abbrev pub extent_of : ℕ → ℕ → ℕ → ℕ → ℕ
extent_of size sum maker prefix = sum * sum_unit + (prefix * prefix_unit + (maker * length_range + size))

-- with another sum, and with another maker, all else as it was
abbrev pub with_sum : ℕ → ℕ → ℕ
with_sum extent sum = sum * sum_unit + extent % sum_unit

abbrev pub with_maker : ℕ → ℕ → ℕ
with_maker extent maker = extent / (length_range * maker_range) * (length_range * maker_range) + (maker * length_range + extent % length_range)

-- a block of a store and the object in it; handle (01: number) 0 is a free block
pub record BlockEntry : Type 0 where
  pub handle : ℕ
  pub length : ℕ
  pub sum : ℕ
  pub maker : ℕ
  pub prefix : ℕ

-- an expiration (01: date)
pub record ExpirationEntry : Type 0 where
  pub clock : ℕ
  pub block : ℕ
  pub due : ℕ

abbrev pub block_entry : ℕ → ℕ → BlockEntry
block_entry handle extent =
    record { handle = handle; length = length_in extent; sum = sum_in extent; maker = maker_in extent; prefix = prefix_in extent }

abbrev pub expiration_entry : ℕ → ℕ → ℕ → ExpirationEntry
expiration_entry clock block due = record { clock = clock; block = block; due = due }

unfoldable pub blocks_of : List ℕ → List ℕ → List BlockEntry
blocks_of handles extents = map block_entry handles ⊛ extents

unfoldable pub entries_of : List ℕ → List ℕ → List ℕ → List ExpirationEntry
entries_of clocks named dues = map expiration_entry clocks ⊛ named ⊛ dues

-- those of a table
abbrev pub block_list : BlockTable → List BlockEntry
block_list blocks = blocks_of blocks.handles blocks.extents

abbrev pub expiration_list : ExpirationTable → List ExpirationEntry
expiration_list expirations = entries_of expirations.clocks expirations.named expirations.dues

-- a record by its entries
pub record Tables : Type 0 where
  pub limits : Limits
  pub tasks : List TaskEntry
  pub global : GlobalTime
  pub given : ℕ
  pub shares : List Share
  pub blocks : List BlockEntry
  pub expirations : List ExpirationEntry

unfoldable pub tables_by : Head → List BlockEntry → List ExpirationEntry → Tables
tables_by h blocks xs = record { limits = h.limits; tasks = h.tasks; global = h.global; given = h.given; shares = h.shares; blocks = blocks; expirations = xs }

-- of what is lent
abbrev pub lent : Head → BlockTable → ExpirationTable → Tables
lent h blocks expirations = tables_by h (block_list blocks) (expiration_list expirations)

-- and of a record by value
unfoldable pub tables_of : Pool → Tables
tables_of p = lent p.head p.blocks p.expirations

-- Columns of as many entries as the record's tables have: of a table that is lent on this is not known by itself.
pub record SizedBlocks (handles extents : List ℕ) : Type 0 where
  pub of_handles : length handles ≡ block_entries
  pub of_extents : length extents ≡ block_entries

pub record SizedEntries (clocks named dues : List ℕ) : Type 0 where
  pub of_clocks : length clocks ≡ expiration_entries
  pub of_named : length named ≡ expiration_entries
  pub of_dues : length dues ≡ expiration_entries

abbrev pub BlocksSized : BlockTable → Type 0
BlocksSized blocks = SizedBlocks blocks.handles blocks.extents

abbrev pub EntriesSized : ExpirationTable → Type 0
EntriesSized expirations = SizedEntries expirations.clocks expirations.named expirations.dues

pub record Sized (of_blocks : BlockTable) (of_expirations : ExpirationTable) : Type 0 where
  pub blocks : BlocksSized of_blocks
  pub entries : EntriesSized of_expirations

-- what a call comes to: its answer, and the record that it leaves
pub record Outcome : Type 0 where
  pub answer : Answer
  pub pool : Tables

-- the record that has this head and these tables
abbrev pub pooled : Head → BlockTable → ExpirationTable → Pool
pooled h blocks expirations = record { head = h; blocks = blocks; expirations = expirations }
