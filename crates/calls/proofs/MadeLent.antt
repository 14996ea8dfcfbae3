-- The record that make and refresh leave on lent tables.
use Rattle.record.specs.declared.ExpirationTable.{ExpirationTable}
use Rattle.record.specs.declared.BlockTable.{BlockTable}
use Prim.Native.Nat.{ℕ, ◌+◌, ◌<◌}
use mathlib.Core.Path.{◌≡◌}
use lib.ListN.{set}
use Rattle.ledger.specs.declared.Kind.{Kind}
use Rattle.record.specs.Tables.{length_range, maker_range, extent_of, tables_by, tables_of, pooled, block_list}
use Rattle.record.specs.declared.Head.{Head}
use Rattle.record.proofs.Columns.{blocks_set, entry_of}
use Rattle.steps.specs.Objects.{place_of, free_place, entry_for, made_pool, refreshed_pool}
use Rattle.expirations.specs.Setting.{Sets}
use Rattle.expirations.specs.Setting.{entry_now}
use Rattle.calls.specs.Engine.{with_given}

module _ (h : Head) (blocks : BlockTable) (expirations : ExpirationTable) {expirations' : ExpirationTable} (kind : Kind) (task extension place : ℕ)
    (sets : Sets (entry_now h.tasks h.global kind task extension place) expirations expirations') where
  pub made_left : (size prefix : ℕ) → size < length_range → task < maker_range → prefix < length_range → place ≡ free_place h.limits size (block_list blocks)
      → tables_of (pooled (with_given h (h.given + 1)) (record { handles = set blocks.handles place (h.given + 1); extents = set blocks.extents place (extent_of size 0 task prefix) }) expirations')
      ≡ made_pool task kind extension size prefix (tables_of (pooled h blocks expirations))
  unfolding tables_of tables_by made_pool entry_for
  made_left size prefix small few short at = rw (blocks_set blocks.handles blocks.extents place (h.given + 1) (extent_of size 0 task prefix), entry_of (h.given + 1) size 0 task prefix small few short, sets.entries, at)

  pub refreshed_left : (handle : ℕ) → place ≡ place_of handle (block_list blocks)
      → tables_of (pooled h blocks expirations') ≡ refreshed_pool task kind extension handle (tables_of (pooled h blocks expirations))
  unfolding tables_of tables_by refreshed_pool entry_for
  refreshed_left handle at = rw (sets.entries, at)
