-- A call that meets its contract, on a record that is fit, with whole stores.
use Prim.Native.Nat.{ℕ}
use mathlib.Core.Bool.{true}
use mathlib.Core.List.{List}
use mathlib.Core.Path.{◌≡◌, refl}
use borrow.Author.Tests.{eq-eqb}
use lib.ListN.{length}
use Rattle.ledger.specs.Limits.{standard}
use Rattle.ledger.specs.Ledger.{fresh}
use Rattle.ledger.specs.declared.Call.{Call}
use Rattle.ledger.specs.declared.Limits.{Limits}
use Rattle.ledger.specs.declared.Request.TheVariants.{Use}
use Rattle.ledger.proofs.Figures.{standard_allowed}
use Rattle.record.specs.Pools.{is_well_formed, Reads}
use Rattle.record.specs.Reading.{fresh_pool}
use Rattle.record.specs.Tables.{tables_by, tables_of, block_list, Sized}
use Rattle.record.specs.declared.Pool.{Pool}
use Rattle.record.proofs.Facts.{fit_parts}
use Rattle.record.proofs.FreshReads.{fresh_reads, fresh_well_formed}
use Rattle.shares.specs.Holdings.{LengthsFit}
use Rattle.shares.proofs.Placing.{placed_fit}
use Rattle.stores.specs.Lengths.{are_whole}
use Rattle.calls.specs.Contract.{Ready}

-- what is in use has a length of its block's store
pub placed : (p : Pool) → is_well_formed p ≡ true → LengthsFit (block_list p.blocks)
unfolding tables_of tables_by
placed p fit = placed_fit (fit_parts (tables_of p) fit)

-- stores of 01's lengths
pub whole : {limits : Limits} → limits ≡ standard → (small large : List ℕ) → length small ≡ 2048 → length large ≡ 8192
    → are_whole limits small large ≡ true
unfolding standard
whole e small large s l = rw e (rw (eq-eqb _ _ s, eq-eqb _ _ l))

pub ready : {p : Pool} {small large : List ℕ} (call : Call) → is_well_formed p ≡ true → are_whole p.head.limits small large ≡ true
    → Ready (Use call) p small large
ready call fit whole = record { fit = fit; whole = λ e. whole }

-- a fresh record, with stores of 01's lengths
module _ {p : Pool} (fresh_is : p ≡ fresh_pool standard) where
  pub fresh_fit : is_well_formed p ≡ true
  fresh_fit = rw fresh_is (fresh_well_formed standard standard_allowed)

  pub fresh_sized : Sized p.blocks p.expirations
  unfolding fresh_pool
  fresh_sized =
      rw fresh_is (record {
        blocks = record { of_handles = refl; of_extents = refl };
        entries = record { of_clocks = refl; of_named = refl; of_dues = refl };
      })

  pub fresh_figures : p.head.limits ≡ standard
  unfolding fresh_pool
  fresh_figures = rw fresh_is refl

  pub fresh_read : (small large : List ℕ) → Reads p small large (fresh standard)
  fresh_read small large = rw fresh_is (fresh_reads standard small large)
