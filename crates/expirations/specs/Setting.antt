-- Expirations that a task sets.
use Rattle.record.specs.declared.ExpirationTable.{ExpirationTable}
use Rattle.std.specs.Prelude.{◌≡◌, ℕ, List, [], ◌∷◌, slice_set}
use Rattle.ledger.specs.declared.Kind.{Kind}
use Rattle.record.specs.Tables.{ExpirationEntry, expiration_list, EntriesSized}
use Rattle.record.specs.declared.GlobalTime.{GlobalTime}
use Rattle.record.specs.declared.TaskEntry.{TaskEntry}
use Rattle.steps.specs.Objects.{free_slot, entry_by}
use Rattle.expirations.specs.declared.Entry.{Entry}

-- an entry that a task sets on a block now
abbrev pub entry_now : List TaskEntry → GlobalTime → Kind → ℕ → ℕ → ℕ → Entry
entry_now tasks global kind task extension block =
    let e = entry_by kind task extension block tasks global in record { clock = e.clock; block = e.block; due = e.due }

-- an entry as the table has it
abbrev pub entry_of : Entry → ExpirationEntry
entry_of e = record { clock = e.clock; block = e.block; due = e.due }

-- The table after an entry is set: the first free one has it, and all others are as they were.
pub record Sets (e : Entry) (expirations expirations' : ExpirationTable) : Type 0 where
  pub sized : EntriesSized expirations'
  pub entries : expiration_list expirations' ≡ slice_set (expiration_list expirations) (free_slot (expiration_list expirations)) (entry_of e)

-- the table after a batch: an entry on each block, one after the other, each in the first free one
unfoldable pub set_each : (ℕ → Entry) → List ℕ → List ExpirationEntry → List ExpirationEntry
set_each f [] xs = xs
set_each f (block ∷ blocks) xs = set_each f blocks (slice_set xs (free_slot xs) (entry_of (f block)))

-- The table after the entries of a batch that a task makes now.
pub record SetsEach (tasks : List TaskEntry) (global : GlobalTime) (kind : Kind) (task extension : ℕ) (blocks : List ℕ) (expirations expirations' : ExpirationTable) : Type 0 where
  pub sized : EntriesSized expirations'
  pub entries : expiration_list expirations' ≡ set_each (entry_now tasks global kind task extension) blocks (expiration_list expirations)
