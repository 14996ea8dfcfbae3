-- Where make, refresh, read, write, batch and release find what they look for in a record, and what they change of it.
use Rattle.std.specs.Prelude.{ℕ, ◌+◌, ◌%◌, Bool, cond, not, List, [], ◌∷◌, map, eqb, get_or, set, take, drop}
use Rattle.lists.specs.Tests.{count}
use Rattle.lists.specs.Tables.{first_from, map_from}
use Rattle.ledger.specs.Limits.{capacity, counter_range, is_small}
use Rattle.ledger.specs.Tasks.{is_viewing}
use Rattle.ledger.specs.declared.Limits.{Limits}
use Rattle.ledger.specs.declared.Kind.{Kind}
use Rattle.ledger.specs.declared.Kind.TheVariants.{Local, Global, Pinned}
use Rattle.ledger.specs.declared.State.{State}
use Rattle.stores.specs.Places.{sum_after}
use Rattle.record.specs.Codes.{state_of, absent_entry, free_block, local_code, global_code, pinned_code, freed_entry}
use Rattle.record.specs.WellFormed.{is_pin_on}
use Rattle.record.specs.declared.TaskEntry.{TaskEntry}
use Rattle.record.specs.Tables.{BlockEntry, ExpirationEntry, Tables}
use Rattle.record.specs.declared.GlobalTime.{GlobalTime}
use Rattle.steps.specs.Events.{kept_block}

abbrev pub is_block_of : ℕ → BlockEntry → Bool
is_block_of handle b = eqb b.handle handle

-- the block of the object with this handle, or as many as there are entries
abbrev pub place_of : ℕ → List BlockEntry → ℕ
place_of handle blocks = first_from 0 (is_block_of handle) blocks

-- the same by the handles alone
abbrev pub place_in : ℕ → List ℕ → ℕ
place_in handle handles = first_from 0 (λ (h : ℕ). eqb h handle) handles

abbrev pub is_free_block : BlockEntry → Bool
is_free_block b = eqb b.handle 0

-- where the blocks of a size's store end
abbrev pub end_for : Limits → ℕ → ℕ
end_for limits size = cond (is_small size) limits.small (capacity.small + limits.large)

-- the first free block of a size's store, or its end
unfoldable pub free_place : Limits → ℕ → List BlockEntry → ℕ
free_place limits size blocks =
    cond (is_small size) (first_from 0 is_free_block (take limits.small blocks))
    (first_from capacity.small is_free_block (drop capacity.small (take (capacity.small + limits.large) blocks)))

-- the same by the handles alone
abbrev pub is_no_handle : ℕ → Bool
is_no_handle handle = eqb handle 0

unfoldable pub free_place_in : Limits → ℕ → List ℕ → ℕ
free_place_in limits size handles =
    cond (is_small size) (first_from 0 is_no_handle (take limits.small handles))
    (first_from capacity.small is_no_handle (drop capacity.small (take (capacity.small + limits.large) handles)))

-- an entry that is not in use, and how many are
abbrev pub is_free_entry : ExpirationEntry → Bool
is_free_entry e = eqb e.clock 0

abbrev pub standing_in : List ExpirationEntry → ℕ
standing_in xs = count (λ (e : ExpirationEntry). not (is_free_entry e)) xs

-- the first free expiration entry, or their count
abbrev pub free_slot : List ExpirationEntry → ℕ
free_slot xs = first_from 0 is_free_entry xs

abbrev pub state_in : List TaskEntry → ℕ → State
state_in tasks task = state_of (get_or tasks task absent_entry).state

-- V5: how many of an object's bytes a task reads, by its state: a viewer the prefix
abbrev pub shown_length : State → BlockEntry → ℕ
shown_length state b = cond (is_viewing state) b.prefix b.length

-- the entry of the object with this handle
abbrev pub block_of : ℕ → List BlockEntry → BlockEntry
block_of handle blocks = get_or blocks (place_of handle blocks) free_block

-- the entry of an expiration that a task sets on a block: due by E4 and E5, by counters that wrap (T8); E22: a pinned one is never due
abbrev pub entry_by : Kind → ℕ → ℕ → ℕ → List TaskEntry → GlobalTime → ExpirationEntry
entry_by Local task extension block tasks global =
    record { clock = local_code + task; block = block; due = ((get_or tasks task absent_entry).clock.0 + (extension + 1)) % counter_range }
entry_by Global task extension block tasks global =
    record { clock = global_code + task; block = block; due = (global.0 + (extension + 2)) % counter_range }
entry_by Pinned task extension block tasks global = record { clock = pinned_code; block = block; due = 0 }

unfoldable pub entry_for : Kind → ℕ → ℕ → ℕ → Tables → ExpirationEntry
entry_for kind task extension block p = entry_by kind task extension block p.tasks p.global

-- one expiration more, in an entry that was free
abbrev pub with_entry : ℕ → ExpirationEntry → Tables → Tables
with_entry slot e p =
    record { limits = p.limits; tasks = p.tasks; global = p.global; given = p.given; shares = p.shares; blocks = p.blocks; expirations = set p.expirations slot e }

-- the next handle, in a block that was free
abbrev pub with_object : ℕ → ℕ → ℕ → ℕ → Tables → Tables
with_object maker place size prefix p =
    record {
      limits = p.limits;
      tasks = p.tasks;
      global = p.global;
      given = p.given + 1;
      shares = p.shares;
      blocks = set p.blocks place (record { handle = p.given + 1; length = size; sum = 0; maker = maker; prefix = prefix });
      expirations = p.expirations;
    }

-- the record after a make that is accepted, in the first free block and the first free entry
unfoldable pub made_pool : ℕ → Kind → ℕ → ℕ → ℕ → Tables → Tables
made_pool task kind extension size prefix p =
    let place = free_place p.limits size p.blocks in
    with_entry (free_slot p.expirations) (entry_for kind task extension place p) (with_object task place size prefix p)

-- and after a refresh
unfoldable pub refreshed_pool : ℕ → Kind → ℕ → ℕ → Tables → Tables
refreshed_pool task kind extension handle p =
    with_entry (free_slot p.expirations) (entry_for kind task extension (place_of handle p.blocks) p) p

-- and after a batch, object by object
unfoldable pub batched_pool : ℕ → Kind → ℕ → List ℕ → Tables → Tables
batched_pool task kind extension [] p = p
batched_pool task kind extension (handle ∷ handles) p =
    batched_pool task kind extension handles (refreshed_pool task kind extension handle p)

-- O35: and after a write: the sum in its block's entry is that of the bytes which are there then
abbrev pub summed_block : ℕ → BlockEntry → BlockEntry
summed_block sum b = record { handle = b.handle; length = b.length; sum = sum; maker = b.maker; prefix = b.prefix }

abbrev pub with_block_sum : ℕ → ℕ → Tables → Tables
with_block_sum place sum p =
    record {
      limits = p.limits;
      tasks = p.tasks;
      global = p.global;
      given = p.given;
      shares = p.shares;
      blocks = set p.blocks place (summed_block sum (get_or p.blocks place free_block));
      expirations = p.expirations;
    }

unfoldable pub written_pool : ℕ → ℕ → List ℕ → List ℕ → List ℕ → Tables → Tables
written_pool handle offset new small large p =
    let place = place_of handle p.blocks in
    with_block_sum place (sum_after small large place offset new) p

-- E24: an entry after the release of the object in a block
abbrev pub unpinned_entry : ℕ → ExpirationEntry → ExpirationEntry
unpinned_entry block e = cond (is_pin_on block e) (freed_entry e) e

-- and the record: its pinned expiration is ended, and its block free where no other names it
unfoldable pub released_pool : ℕ → Tables → Tables
released_pool handle p =
    let xs = map (unpinned_entry (place_of handle p.blocks)) p.expirations in
    record { limits = p.limits; tasks = p.tasks; global = p.global; given = p.given; shares = p.shares; blocks = map_from 0 (kept_block xs) p.blocks; expirations = xs }
