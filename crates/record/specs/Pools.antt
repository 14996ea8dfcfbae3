-- A record, by its entries: whether it is well-formed, and what it reads as with two stores.
use Rattle.std.specs.Prelude.{◌≡◌, ℕ, Bool, true, List}
use Rattle.ledger.specs.Ledger.{Ledger}
use Rattle.record.specs.Tables.{tables_of}
use Rattle.record.specs.Reading as Reading
use Rattle.record.specs.WellFormed as WellFormed
use Rattle.record.specs.declared.Pool.{Pool}

-- the rules W
abbrev pub is_well_formed : Pool → Bool
is_well_formed p = WellFormed.is_well_formed (tables_of p)

-- the record with these stores reads as this ledger
abbrev pub Reads : Pool → List ℕ → List ℕ → Ledger → Type 0
Reads p small large L = Reading.Reads (tables_of p) small large L

-- A fit record of the record's type reads as some ledger, whatever the stores: no promise about every ledger that it reads as is empty.
abbrev pub EveryFitRecordReads : Type 0
EveryFitRecordReads =
    (p : Pool) → Reading.Typed (tables_of p) → is_well_formed p ≡ true → (small large : List ℕ) → (L : Ledger) × Reads p small large L
