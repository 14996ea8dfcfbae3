-- The tables of a record by value, lent where they are, are the record's.
use Rattle.std.proofs.Common.{◌≡◌, Bool}
use Rattle.record.specs.Tables.{lent, tables_of}
use Rattle.record.specs.WellFormed as WellFormed
use Rattle.record.specs.Pools.{is_well_formed}
use Rattle.record.specs.declared.Pool.{Pool}

pub fits_by_value : (p : Pool) {r : Bool} → r ≡ WellFormed.is_well_formed (lent p.head p.blocks p.expirations) → r ≡ is_well_formed p
unfolding tables_of
fits_by_value p f = f
