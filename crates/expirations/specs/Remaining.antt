-- The units left on the expirations of a block, by either time, as bytes hold them: a number of units below byte_values as it is, of any
-- other the last byte.
use Rattle.std.specs.Prelude.{◌≡◌, ℕ, ◌+◌, ◌%◌, max, List, slice_index}
use Rattle.lists.specs.Filled.{Filled}
use Rattle.lists.specs.Most.{most}
use Rattle.record.specs.Codes.{units_left}
use Rattle.record.specs.Tables.{ExpirationEntry, byte_values, group_size}
use Rattle.steps.specs.Remaining.{left_local, left_global, units_on}
use Rattle.expirations.specs.declared.remaining.Query.{Query}
use Rattle.expirations.specs.declared.remaining.Units.{Units}

-- on an entry, where it names the block, for the task that asks
abbrev pub local_on : Query → ExpirationEntry → ℕ
local_on q e = units_on (left_local q.task q.local) q.block e % byte_values

abbrev pub global_on : Query → ExpirationEntry → ℕ
global_on q e = units_on (left_global q.global) q.block e % byte_values

-- the most of either
abbrev pub longest : Units → Units → Units
longest a b = record { local = max a.local b.local; global = max a.global b.global }

abbrev pub units_in : Query → List ExpirationEntry → Units
units_in q xs = record { local = most (local_on q) xs; global = most (global_on q) xs }

-- of the first i due numbers of a group, by a clock that shows `now`
abbrev pub Lefts : ℕ → List ℕ → ℕ → ℕ → List ℕ → Type 0
Lefts now dues from i r = Filled 0 (λ k x. x ≡ units_left (slice_index dues (from + k)) now % byte_values) group_size i r
