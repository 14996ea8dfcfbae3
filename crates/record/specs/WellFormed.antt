-- The rules W: when a record is well-formed (01: fit), clause by clause.
use Rattle.std.specs.Prelude.{ℕ, ◌+◌, Bool, true, false, cond, not, ◌&&◌, ◌||◌, List, [], ◌∷◌, map, ◌==◌, nat_eq, nat_le, nat_lt, slice_index_or}
use Rattle.lists.specs.Tests.{any, all}
use Rattle.lists.specs.Tables.{all_from}
use Rattle.ledger.specs.Limits.{capacity, is_allowed, task_count, small_size, large_size}
use Rattle.ledger.specs.Tasks.{is_absent, is_running, all_ticked}
use Rattle.ledger.specs.Expirations.{departed}
use Rattle.ledger.specs.declared.Limits.{Limits}
use Rattle.record.specs.Codes.{state_of, task_of, due_of, is_dated, is_pinned_due, setter_of, units_left, absent_entry, free_block}
use Rattle.record.specs.Reading.{is_small_block}
use Rattle.record.specs.Shares.{is_shared}
use Rattle.record.specs.declared.TaskEntry.{TaskEntry}
use Rattle.record.specs.Tables.{BlockEntry, ExpirationEntry, Tables}
use Rattle.record.specs.declared.GlobalTime.{GlobalTime}
use Rattle.record.specs.declared.Due.{Due}
use Rattle.record.specs.declared.Due.TheVariants.{Free, Local, Global, Pinned, Unknown}

-- the block has an object
abbrev pub is_used : BlockEntry → Bool
is_used b = not (b.handle == 0)

-- W12: known codes; W9: who is ticked runs; W11: an absent task has local time 0
unfoldable pub is_fit_task : TaskEntry → Bool
is_fit_task e =
    nat_lt e.state 4 && nat_lt e.ticked 2 && (not (e.ticked == 1) || is_running (state_of e.state))
    && (not (is_absent (state_of e.state)) || e.clock.0 == 0)

-- units left, from 1 to the most that an expiration can have
abbrev pub is_ahead : ℕ → ℕ → Bool
is_ahead most left = nat_le 1 left && nat_le left most

-- An expiration, with the entry of its setter and whether it names a block in use, as it must (W1). W6, W8: something remains, and no more
-- than the largest extension gives; W7, W14: the setter is there, or has departed where it is a global one; W12: a code that means nothing
-- is not fit; W15: a pinned one has no time.
unfoldable pub is_fit_due : Limits → TaskEntry → GlobalTime → Bool → Due → Bool
is_fit_due limits setter global used Free = true
is_fit_due limits setter global used (Local task at) =
    used && nat_lt task task_count && not (is_absent (state_of setter.state))
    && is_ahead (limits.extension + 1) (units_left at.0 setter.clock.0)
is_fit_due limits setter global used (Global task at) =
    used && (task == departed || not (is_absent (state_of setter.state))) && is_ahead (limits.extension + 2) (units_left at.0 global.0)
is_fit_due limits setter global used (Pinned due) = used && due == 0
is_fit_due limits setter global used Unknown = false

abbrev pub is_fit_entry : Limits → List TaskEntry → GlobalTime → List BlockEntry → ExpirationEntry → Bool
is_fit_entry limits tasks global blocks e =
    is_fit_due limits (slice_index_or tasks (setter_of (due_of e)) absent_entry) global (is_used (slice_index_or blocks e.block free_block)) (due_of e)

-- W2: some expiration names the block
abbrev pub is_naming : ℕ → ExpirationEntry → Bool
is_naming block e = is_dated (due_of e) && e.block == block

-- W3: a length that goes to the block's store
abbrev pub is_sized_for : ℕ → ℕ → Bool
is_sized_for block size =
    cond (is_small_block block) (nat_le 1 size && nat_le size small_size) (nat_le (small_size + 1) size && nat_le size large_size)

-- W25: a prefix that is not longer than the object
abbrev pub is_prefixed : BlockEntry → Bool
is_prefixed b = nat_le b.prefix b.length

-- W2 to W4, W25: a block in use is named, and has a length of its store, such a prefix, and a handle that was given
unfoldable pub is_fit_block : ℕ → List ExpirationEntry → ℕ → BlockEntry → Bool
is_fit_block given xs block b =
    not (is_used b) || (any (is_naming block) xs && is_sized_for block b.length && is_prefixed b && nat_le b.handle given)

-- W5: no handle stands twice; 0 is none
abbrev pub is_distinct : List ℕ → Bool
is_distinct [] = true
is_distinct (h ∷ hs) = (h == 0 || not (any (nat_eq h) hs)) && is_distinct hs

-- W16: no two pinned expirations name one block
abbrev pub is_pin_on : ℕ → ExpirationEntry → Bool
is_pin_on block e = is_pinned_due (due_of e) && e.block == block

abbrev pub is_pinned_once : List ExpirationEntry → Bool
is_pinned_once [] = true
is_pinned_once (e ∷ es) = (not (is_pinned_due (due_of e)) || not (any (is_pin_on e.block) es)) && is_pinned_once es

abbrev pub handle_of : BlockEntry → ℕ
handle_of b = b.handle

-- W18: a block of the figures, and none beyond them is in use (so that by W1 none is named)
abbrev pub is_block : Limits → ℕ → Bool
is_block limits block = cond (is_small_block block) (nat_lt block limits.small) (nat_lt block (capacity.small + limits.large))

abbrev pub is_block_at : Limits → ℕ → BlockEntry → Bool
is_block_at limits block b = b.handle == 0 || is_block limits block

-- W19: no entry beyond as many expirations as the figures allow is in use
abbrev pub is_entry_at : Limits → ℕ → ExpirationEntry → Bool
is_entry_at limits place e = e.clock == 0 || nat_lt place limits.expirations

unfoldable pub is_bounded : Limits → List BlockEntry → List ExpirationEntry → Bool
is_bounded limits blocks xs = all_from 0 (is_block_at limits) blocks && all_from 0 (is_entry_at limits) xs

-- what 01 asks of a fit record, W10 among it: not all that run are ticked
unfoldable pub is_consistent : Tables → Bool
is_consistent p =
    all is_fit_task p.tasks && not (all_ticked (map task_of p.tasks))
    && all (is_fit_entry p.limits p.tasks p.global p.blocks) p.expirations
    && all_from 0 (is_fit_block p.given p.expirations) p.blocks && is_distinct (map handle_of p.blocks)
    && is_pinned_once p.expirations

-- and what 02 asks of its figures: W17, that a site may choose them, W18 and W19; and of its shares: W20 to W24
unfoldable pub is_well_formed : Tables → Bool
is_well_formed p =
    is_consistent p && is_allowed p.limits && is_bounded p.limits p.blocks p.expirations && is_shared p.limits p.tasks p.shares p.blocks
