-- What the parts of the test of well-formedness test of tasks, expirations and blocks, and hand to one another.
use Rattle.std.specs.Prelude.{◌≡◌, ℕ, ◌+◌, ◌%◌, ◌<◌, ◌≤◌, Bool, true, false, cond, not, ◌&&◌, ◌||◌, List, length, get_or, ◌==◌, nat_le, nat_lt, slice_index, slice_index_or}
use Rattle.std.specs.Bool.{beq}
use Rattle.lists.specs.Tests.{any, all}
use Rattle.lists.specs.Filled.{Filled}
use Rattle.ledger.specs.Limits.{counter_range, task_count}
use Rattle.ledger.specs.Tasks.{is_absent}
use Rattle.ledger.specs.declared.Limits.{Limits}
use Rattle.record.specs.Codes.{state_of, due_of, setter_of, units_left, absent_entry, local_code, global_code, departed_code, pinned_code}
use Rattle.record.specs.WellFormed.{is_used, is_fit_due, is_naming, is_sized_for, is_prefixed, is_bounded}
use Rattle.record.specs.Tables.{BlockEntry, ExpirationEntry, blocks_of, entries_of, block_entries, expiration_entries, byte_values}
use Rattle.record.specs.declared.GlobalTime.{GlobalTime}
use Rattle.record.specs.declared.Head.{Head}
use Rattle.record.specs.declared.LocalTime.{LocalTime}
use Rattle.record.specs.declared.TaskEntry.{TaskEntry}
use Rattle.fitness.specs.declared.times.Time.{Time}
use Rattle.fitness.specs.declared.times.Time.TheVariants.{None, Local, Global}

-- a free entry, or one that has a code that there is and names a block that there is
abbrev pub is_coded_by : ℕ → ℕ → Bool
is_coded_by clock block = clock == 0 || (nat_le local_code clock && nat_le clock pinned_code && nat_lt block block_entries)

abbrev pub is_coded : ExpirationEntry → Bool
is_coded e = is_coded_by e.clock e.block

-- two columns of as many entries as the record's
pub record SizedCodes (clocks named : List ℕ) : Type 0 where
  pub of_clocks : length clocks ≡ expiration_entries
  pub of_named : length named ≡ expiration_entries

-- the flag that an entry sets: its block's, or the last where it is free
abbrev pub slot_by : ℕ → ℕ → ℕ
slot_by clock block = cond (clock == 0) 255 block

abbrev pub Slots : List ℕ → List ℕ → List ℕ → Type 0
Slots clocks named r = Filled 0 (λ k x. x ≡ slot_by (slice_index clocks k) (slice_index named k)) expiration_entries expiration_entries r

-- all entries that have these codes, whenever they are due
pub record AllCoded (clocks named : List ℕ) (r : Bool) : Type 0 where
  pub so : (dues : List ℕ) → length dues ≡ expiration_entries → r ≡ all is_coded (entries_of clocks named dues)

-- which bytes there are
abbrev pub is_byte : ℕ → ℕ → Bool
is_byte k byte = byte == k

pub record Marks (bytes : List ℕ) (flags : List Bool) : Type 0 where
  pub so : (k : ℕ) → k < byte_values → slice_index_or flags k false ≡ any (is_byte k) bytes

-- which flags the entries set
pub record Flags (clocks named : List ℕ) (flags : List Bool) : Type 0 where
  pub bytes : List ℕ
  pub slots : Slots clocks named bytes
  pub marks : Marks bytes flags

-- the flags say which blocks there are among the entries
pub record Names (named : List Bool) (xs : List ExpirationEntry) : Type 0 where
  pub so : (k : ℕ) → k < block_entries → slice_index_or named k false ≡ any (is_naming k) xs

-- the codes as indices: that of a pinned expiration is the last that there is
abbrev pub code_count : ℕ
code_count = pinned_code + 1

-- clocks whose codes there are
pub record Codes (clocks : List ℕ) : Type 0 where
  pub size : length clocks ≡ expiration_entries
  pub below : (k : ℕ) → k < expiration_entries → slice_index clocks k < code_count

pub record CodeAt (clocks : List ℕ) (i r : ℕ) : Type 0 where
  pub so : r ≡ slice_index clocks i
  pub below : r < code_count

-- with as many due numbers
pub record CodedTimes (clocks dues : List ℕ) : Type 0 where
  pub codes : Codes clocks
  pub of_dues : length dues ≡ expiration_entries

-- units from a first time on, by the clock of that time
abbrev pub left_from : ℕ → Time → ℕ
left_from due (None number) = units_left due number
left_from due (Local at) = units_left due at.0
left_from due (Global at) = units_left due at.0

abbrev pub is_in_units_by : ℕ → Time → ℕ → Bool
is_in_units_by units first due = nat_lt (left_from due first) units

-- of a due number that the counters can have
pub record WithinBy (units : ℕ) (first : Time) (due : ℕ) (r : Bool) : Type 0 where
  pub so : r ≡ is_in_units_by units first due
  pub below : due < counter_range

-- the first times that lie ahead
abbrev pub next_local : LocalTime → Time
next_local now = Local (record { 0 = (now.0 + 1) % counter_range })

abbrev pub next_global : GlobalTime → Time
next_global now = Global (record { 0 = (now.0 + 1) % counter_range })

abbrev pub no_time : Time
no_time = None 0

-- By each clock the first time that lies ahead, and 0 for a pinned expiration, which has none,
pub record Firsts (tasks : List TaskEntry) (global : GlobalTime) (r : List Time) : Type 0 where
  pub by_task : (t : ℕ) → t < task_count → slice_index_or r (t + local_code) no_time ≡ next_local (get_or tasks t absent_entry).clock
  pub by_global : (k : ℕ) → global_code ≤ k → k ≤ departed_code → slice_index_or r k no_time ≡ next_global global
  pub by_pinned : get_or r pinned_code no_time ≡ no_time

-- and the units in which its expirations may be due: all of a free entry, none of an absent task nor by a code that there is not.
abbrev pub units_of : ℕ → ℕ → ℕ
units_of most state = cond (is_absent (state_of state)) 0 most

pub record Units (limits : Limits) (tasks : List TaskEntry) (r : List ℕ) : Type 0 where
  pub size : length r ≡ code_count
  pub free : get_or r 0 0 ≡ counter_range
  pub unknown : (k : ℕ) → 0 < k → k < local_code → slice_index r k ≡ 0
  pub by_task : (t : ℕ) → t < task_count → slice_index r (t + local_code) ≡ units_of (limits.extension + 1) (get_or tasks t absent_entry).state
  pub by_global : (t : ℕ) → t < task_count → slice_index r (t + global_code) ≡ units_of (limits.extension + 2) (get_or tasks t absent_entry).state
  pub by_departed : get_or r departed_code 0 ≡ limits.extension + 2
  pub by_pinned : get_or r pinned_code 0 ≡ 1

-- an entry by such tables
abbrev pub is_in_units : List Time → List ℕ → ExpirationEntry → Bool
is_in_units firsts units e = is_in_units_by (slice_index units e.clock) (slice_index_or firsts e.clock no_time) e.due

-- whatever blocks the entries name; the due numbers are such as the counters can have
pub record AllWithin (firsts : List Time) (units clocks dues : List ℕ) (r : Bool) : Type 0 where
  pub so : (named : List ℕ) → length named ≡ expiration_entries → r ≡ all (is_in_units firsts units) (entries_of clocks named dues)
  pub below : (k : ℕ) → k < expiration_entries → slice_index dues k < counter_range

-- an entry by W6 to W8 and W14, which say when it is due and who set it, apart from the block that it names
abbrev pub is_timely : Limits → List TaskEntry → GlobalTime → ExpirationEntry → Bool
is_timely limits tasks global e = is_fit_due limits (slice_index_or tasks (setter_of (due_of e)) absent_entry) global true (due_of e)

pub record AllTimely (h : Head) (clocks dues : List ℕ) (r : Bool) : Type 0 where
  pub so : (named : List ℕ) → length named ≡ expiration_entries → r ≡ all (is_timely h.limits h.tasks h.global) (entries_of clocks named dues)

-- W3, W25: a length of the store's range, and a prefix that is not longer
abbrev pub is_shaped_for : ℕ → ℕ → ℕ → Bool
is_shaped_for block size prefix = is_sized_for block size && nat_le prefix size

-- of the first i blocks, whether their lengths and prefixes are such
abbrev pub ShapedTo : List ℕ → List ℕ → ℕ → List Bool → Type 0
ShapedTo lengths prefixes i r = Filled false (λ k x. x ≡ is_shaped_for k (slice_index lengths k) (slice_index prefixes k)) block_entries i r

abbrev pub is_given_by : ℕ → ℕ → Bool
is_given_by given handle = nat_le handle given

-- a block, by whether it is in use, is named and has a length and a prefix that fit: if used it is named and fits, and if not it is not named
abbrev pub is_named_by : Bool → Bool → Bool → Bool
is_named_by used named shaped = beq used named && (not used || shaped)

abbrev pub is_named_row : (Bool × Bool) × Bool → Bool
is_named_row row = is_named_by row.0.0 row.0.1 row.1

-- a block, by whether it is named: if so it is in use, and if not it is free
abbrev pub is_fit_block_in : ℕ → List Bool → ℕ → BlockEntry → Bool
is_fit_block_in given named block b =
    beq (is_used b) (slice_index_or named block false)
    && (not (is_used b) || (is_sized_for block b.length && is_prefixed b && nat_le b.handle given))

-- a handle of no object, and the clock of no expiration
abbrev pub is_none : ℕ → Bool
is_none number = number == 0

-- W18 and W19, of what the columns of handles and clocks have: whatever else is in the entries
pub record Bounds (limits : Limits) (handles clocks : List ℕ) (r : Bool) : Type 0 where
  pub so : (extents named dues : List ℕ) → length extents ≡ block_entries → length named ≡ expiration_entries → length dues ≡ expiration_entries
      → r ≡ is_bounded limits (blocks_of handles extents) (entries_of clocks named dues)
