-- How a record with two stores reads as a ledger.
use Rattle.std.specs.Prelude.{◌≡◌, ℕ, ◌-◌, ◌*◌, ◌<◌, Bool, cond, List, [], ◌∷◌, map, length, take, drop, replicate, ◌==◌, nat_lt, slice_index_or}
use Rattle.lists.specs.Tests.{All}
use Rattle.lists.specs.Tables.{read_by, read_from}
use Rattle.ledger.specs.Limits.{capacity, task_count, counter_range, small_size, large_size, is_small}
use Rattle.ledger.specs.Objects.{Object, no_share}
use Rattle.ledger.specs.Compared.{Shown, local_left, global_left, pinned_left, shown_object, View, view_of, Alike}
use Rattle.ledger.specs.Kept.{Ascending, PinsKept}
use Rattle.ledger.specs.Ledger.{Ledger}
use Rattle.ledger.specs.declared.Limits.{Limits}
use Rattle.record.specs.Codes.{task_of, due_of, units_left, absent_entry, free_block}
use Rattle.record.specs.declared.TaskEntry.{TaskEntry}
use Rattle.record.specs.Tables.{block_entries, expiration_entries, BlockEntry, ExpirationEntry, Tables}
use Rattle.record.specs.declared.GlobalTime.{GlobalTime}
use Rattle.record.specs.declared.Head.{Head}
use Rattle.record.specs.declared.Pool.{Pool}
use Rattle.record.specs.declared.Due.{Due}
use Rattle.record.specs.declared.Due.TheVariants.{Free, Local, Global, Pinned, Unknown}

-- the entries of the small store's blocks come first, then those of the large one's, as many of either as there can be
abbrev pub is_small_block : ℕ → Bool
is_small_block block = nat_lt block capacity.small

-- what an entry shows: the handle of the block that it names, and the units left by its own clock
unfoldable pub shown_due : List TaskEntry → GlobalTime → ℕ → Due → List Shown
shown_due tasks global handle Free = []
shown_due tasks global handle (Local setter at) =
    record { handle = handle; left = local_left setter (units_left at.0 (slice_index_or tasks setter absent_entry).clock.0) } ∷ []
shown_due tasks global handle (Global setter at) = record { handle = handle; left = global_left setter (units_left at.0 global.0) } ∷ []
shown_due tasks global handle (Pinned due) = record { handle = handle; left = pinned_left } ∷ []
shown_due tasks global handle Unknown = []

abbrev pub shown_entry : List TaskEntry → GlobalTime → List BlockEntry → ExpirationEntry → List Shown
shown_entry tasks global blocks e = shown_due tasks global (slice_index_or blocks e.block free_block).handle (due_of e)

-- the bytes of either store: as many as its blocks need
abbrev pub whole_small : Limits → ℕ
whole_small limits = limits.small * small_size

abbrev pub whole_large : Limits → ℕ
whole_large limits = limits.large * large_size

-- L7: whether a store has the length that its blocks need
abbrev pub is_whole_small : Limits → List ℕ → Bool
is_whole_small limits small = length small == whole_small limits

abbrev pub is_whole_large : Limits → List ℕ → Bool
is_whole_large limits large = length large == whole_large limits

abbrev pub is_whole : Limits → List ℕ → List ℕ → ℕ → Bool
is_whole limits small large size = cond (is_small size) (is_whole_small limits small) (is_whole_large limits large)

-- the first bytes of a block
unfoldable pub block_bytes : List ℕ → List ℕ → ℕ → ℕ → List ℕ
block_bytes small large block size =
    cond (is_small_block block) (take size (drop (block * small_size) small)) (take size (drop ((block - capacity.small) * large_size) large))

-- how many bytes a block has
unfoldable pub size_of : ℕ → ℕ
size_of block = cond (is_small_block block) small_size large_size

-- the object in a block, with all the block's bytes
unfoldable pub object_in : List ℕ → List ℕ → ℕ → BlockEntry → List Object
object_in small large block b =
    cond (b.handle == 0) []
    (record { handle = b.handle; size = b.length; bytes = block_bytes small large block (size_of block); sum = b.sum; maker = b.maker; prefix = b.prefix } ∷ [])

unfoldable pub record_view : Tables → List ℕ → List ℕ → View
record_view p small large =
    record {
      limits = p.limits;
      tasks = map task_of p.tasks;
      global = p.global.0;
      given = p.given;
      shares = p.shares;
      objects = map (shown_object (is_whole p.limits small large)) (read_from 0 (object_in small large) p.blocks);
      expirations = read_by (shown_entry p.tasks p.global p.blocks) p.expirations;
    }

-- What the record's type gives of every value: so many entries of each table, and counters of 32 bits (T8).
pub record Typed (p : Tables) : Type 0 where
  pub tasks : length p.tasks ≡ task_count
  pub shares : length p.shares ≡ task_count
  pub blocks : length p.blocks ≡ block_entries
  pub expirations : length p.expirations ≡ expiration_entries
  pub clocks : All (λ (e : TaskEntry). e.clock.0 < counter_range) p.tasks
  pub global : p.global.0 < counter_range
  pub given : p.given < counter_range

-- the same of what goes by value
pub record HeadTyped (h : Head) : Type 0 where
  pub tasks : length h.tasks ≡ task_count
  pub shares : length h.shares ≡ task_count
  pub clocks : All (λ (e : TaskEntry). e.clock.0 < counter_range) h.tasks
  pub global : h.global.0 < counter_range
  pub given : h.given < counter_range

-- The record with these stores reads as this ledger.
pub record Reads (p : Tables) (small large : List ℕ) (L : Ledger) : Type 0 where
  pub alike : Alike (record_view p small large) (view_of (is_whole p.limits small large) L)
  -- L2: in the order of their handles
  pub ascending : Ascending L.memory.objects
  -- E23: and what is pinned has a pinned expiration
  pub pins : PinsKept L.memory.pinned L.expirations

-- T5, O9: a fresh pool
unfoldable pub fresh_pool : Limits → Pool
fresh_pool limits =
    record {
      head =
          record {
            tasks = replicate task_count absent_entry;
            global = record { 0 = 0 };
            given = 0;
            limits = limits;
            shares = replicate task_count no_share;
          };
      blocks = record { handles = replicate block_entries 0; extents = replicate block_entries 0 };
      expirations =
          record {
            clocks = replicate expiration_entries 0;
            named = replicate expiration_entries 0;
            dues = replicate expiration_entries 0;
          };
    }
