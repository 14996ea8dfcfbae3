-- The record that has a head and lent columns, by its entries.
use Rattle.record.specs.declared.ExpirationTable.{ExpirationTable}
use Rattle.record.specs.declared.BlockTable.{BlockTable}
use mathlib.Core.Bool.{true}
use mathlib.Core.Path.{◌≡◌, refl}
use Rattle.record.specs.Pools.{is_well_formed}
use Rattle.record.specs.Reading.{HeadTyped, Typed}
use Rattle.record.specs.Tables.{SizedBlocks, tables_by, tables_of, lent, pooled, block_list, expiration_list, EntriesSized}
use Rattle.record.specs.WellFormed as WellFormed
use Rattle.record.specs.declared.Head.{Head}
use Rattle.record.proofs.Columns.{length_blocks, length_entries}
use Rattle.record.proofs.Facts.{fit_parts}
use Rattle.record.proofs.Types.{typed_by}
use Rattle.ledger.specs.Limits.{is_allowed}

module _ (h : Head) (blocks : BlockTable) (expirations : ExpirationTable) where
  pub tables_of_lem : tables_of (pooled h blocks expirations) ≡ tables_by h (block_list blocks) (expiration_list expirations)
  unfolding tables_of
  tables_of_lem = refl

  -- its well-formedness is that of the tables
  pub lent_fits : is_well_formed (pooled h blocks expirations) ≡ true
      → WellFormed.is_well_formed (lent h blocks expirations) ≡ true
  unfolding tables_of
  lent_fits w = w

  -- and its figures are then such as a site may choose
  pub lent_allowed : is_well_formed (pooled h blocks expirations) ≡ true → is_allowed h.limits ≡ true
  unfolding tables_of tables_by
  lent_allowed w = (fit_parts (lent h blocks expirations) w).allowed

  pub lent_typed : HeadTyped h → SizedBlocks blocks.handles blocks.extents → EntriesSized expirations → Typed (tables_of (pooled h blocks expirations))
  lent_typed t b e =
      rw tables_of_lem
      (typed_by (block_list blocks) (expiration_list expirations) t
      (length_blocks blocks.handles blocks.extents b.of_handles b.of_extents)
      (length_entries expirations.clocks expirations.named expirations.dues e.of_clocks e.of_named e.of_dues))
