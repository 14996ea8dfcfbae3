-- What the types of the record's fields give of every value: the lengths of its tables and the range of its counters.
use Rattle.std.proofs.Common.{◌≡◌, List, [], ◌∷◌, length, arith}
use base.Fml.{Fml}
use denote.Array.{each}
use denote.Laws.{Is}
use denote.Shadow.{shadow}
use mir.Val.{Val}
use Rattle.lists.specs.Tests.{All}
use Rattle.ledger.specs.Limits.{counter_range}
use Rattle.record.specs.Reading.{HeadTyped, Typed}
use Rattle.record.specs.Tables.{block_entries, expiration_entries, BlockEntry, ExpirationEntry, tables_by, BlocksSized, EntriesSized, Sized}
use Rattle.record.specs.declared.BlockTable.{BlockTable}
use Rattle.record.specs.declared.ExpirationTable.{ExpirationTable}
use Rattle.record.specs.declared.Head.{Head}
use Rattle.record.specs.declared.Pool.{Pool}
use Rattle.record.specs.contracts.BlockTable.{the_row as the_blocks}
use Rattle.record.specs.contracts.ExpirationTable.{the_row as the_expirations}
use Rattle.record.specs.contracts.Head.{the_row as the_head}
use Rattle.record.specs.contracts.Pool.{the_row}
use Rattle.record.specs.contracts.TaskEntry.{the_row as the_entry}

-- what each element's own type gives
pub each_all : {A : Type 0} (f : A → List Val → Fml) (P : A → Type 0) → ((x : A) (us : List Val) → shadow (f x us) → P x) → (xs : List A) (us : List Val)
    → shadow (each A f xs us) → All P xs
each_all f P h [] us s = tt
each_all f P h (x ∷ xs) [] s = absurd s
each_all f P h (x ∷ xs) (u ∷ us) s = (h x (u ∷ []) s.0, each_all f P h xs us s.1)

pub head_typed : (h : Head) (vs : List Val) → Is the_head h vs → HeadTyped h
unfolding counter_range
head_typed h vs t =
    let (tasks, (global, (given, (limits, (shares, end))))) = t.1.1 in
    record {
      tasks = tasks.1.0.1;
      shares = shares.1.0.1;
      clocks = each_all the_entry.own_val _ (λ x us s. omega arith) h.tasks _ tasks.1.1;
      global = omega arith;
      given = omega arith;
    }

-- the tables' own: the lengths of their columns
pub blocks_sized : (blocks : BlockTable) (vs : List Val) → Is the_blocks blocks vs → BlocksSized blocks
blocks_sized blocks vs t = let (handles, (extents, end)) = t.1.1 in record { of_handles = handles.1.0.1; of_extents = extents.1.0.1 }

pub entries_sized : (expirations : ExpirationTable) (vs : List Val) → Is the_expirations expirations vs → EntriesSized expirations
entries_sized expirations vs t =
    let (clocks, (named, (dues, end))) = t.1.1 in
    record { of_clocks = clocks.1.0.1; of_named = named.1.0.1; of_dues = dues.1.0.1 }

-- and all of a record by value
pub pool_typed : (p : Pool) (vs : List Val) → Is the_row p vs → HeadTyped p.head × Sized p.blocks p.expirations
pool_typed p vs t =
    let (head, (blocks, (expirations, end))) = t.1.1 in
    (head_typed p.head _ head, record { blocks = blocks_sized p.blocks _ blocks; entries = entries_sized p.expirations _ expirations })

-- with tables of as many entries as the record's
pub typed_by : {h : Head} (blocks : List BlockEntry) (xs : List ExpirationEntry) → HeadTyped h → length blocks ≡ block_entries → length xs ≡ expiration_entries
    → Typed (tables_by h blocks xs)
unfolding tables_by
typed_by blocks xs t b x =
    record { tasks = t.tasks; shares = t.shares; blocks = b; expirations = x; clocks = t.clocks; global = t.global; given = t.given }
