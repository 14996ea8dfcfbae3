-- Document 01's figures and the ranges of those that a site chooses, each written once.
use Rattle.std.specs.Prelude.{ℕ, Bool, cond, ◌&&◌, leb}
use Rattle.ledger.specs.declared.Limits.{Limits}

-- C1: the four that a site chooses
abbrev pub chosen : (small large expirations extension : ℕ) → Limits
chosen small large expirations extension = record { small = small; large = large; expirations = expirations; extension = extension }

-- C3: the largest of each; the record's tables have room for as many
abbrev pub capacity : Limits
capacity = chosen 64 32 256 30

-- C4: 01's, which the programs and the worked cases have: the largest of each
unfoldable pub standard : Limits
standard = capacity

-- C3: a figure from least to most, and the four that a site may choose
abbrev pub is_within : ℕ → ℕ → ℕ → Bool
is_within least most figure = leb least figure && leb figure most

unfoldable pub is_allowed : Limits → Bool
is_allowed limits =
    is_within 1 capacity.small limits.small && is_within 1 capacity.large limits.large
    && is_within 1 capacity.expirations limits.expirations && leb limits.extension capacity.extension

-- T1: how many tasks there are
abbrev pub task_count : ℕ
task_count = 16

-- O5, O6: the bytes of a small and of a large block
abbrev pub small_size : ℕ
small_size = 32

abbrev pub large_size : ℕ
large_size = 256

-- R20: the most objects of a batch
abbrev pub largest_batch : ℕ
largest_batch = 32

-- O15: the largest handle
unfoldable pub last_handle : ℕ
last_handle = 4294967295

-- T8: how many values a counter of the record has
unfoldable pub counter_range : ℕ
counter_range = 4294967296

-- O7: the lengths that go to the small store; all others go to the large one
abbrev pub is_small : ℕ → Bool
is_small length = leb length small_size

-- O5, O6: the bytes of the block that a length gets
abbrev pub block_size : ℕ → ℕ
block_size length = cond (is_small length) small_size large_size
