-- A sweep in which nothing ends leaves the tables of a well-formed record as they are.
use Prim.Native.Nat.{ℕ}
use mathlib.Core.Bool.{Bool, true}
use mathlib.Core.List.{List, map}
use mathlib.Core.Path.{◌≡◌}
use borrow.Author.Tests.{eqb-true}
use lib.Dec.{eqb}
use Rattle.lists.specs.Tests.{any}
use Rattle.lists.specs.Tables.{map_from, all_from}
use Rattle.lists.proofs.Cases.{by_test}
use Rattle.lists.proofs.Tables.{map_from_kept}
use Rattle.record.specs.Tables.{BlockEntry, ExpirationEntry, Tables}
use Rattle.record.specs.WellFormed.{is_naming, is_fit_block, is_well_formed}
use Rattle.record.specs.declared.TaskEntry.{TaskEntry}
use Rattle.record.specs.declared.GlobalTime.{GlobalTime}
use Rattle.record.proofs.Facts.{fit_parts}
use Rattle.steps.proofs.Taken.{fit_block}
use Rattle.steps.specs.Events.{passed_entry, kept_block, swept, with_times}

-- a fit block stays: it is named, or free
fit_stays : (given : ℕ) (xs : List ExpirationEntry) (i : ℕ) (b : BlockEntry) → is_fit_block given xs i b ≡ true → kept_block xs i b ≡ b
unfolding is_fit_block
fit_stays given xs i b fit =
    by_test (any (is_naming i) xs)
    (λ n. rw n)
    (λ n.
    by_test (eqb b.handle 0)
    (λ z. rw (n, ← eqb-true b.handle 0 z))
    (λ z. rw (fit_block given xs i b fit z).0))

-- so no block of a well-formed record is freed
pub none_freed : (given : ℕ) (xs : List ExpirationEntry) (blocks : List BlockEntry) → all_from 0 (is_fit_block given xs) blocks ≡ true
    → map_from 0 (kept_block xs) blocks ≡ blocks
none_freed given xs blocks fit = map_from_kept (kept_block xs) (is_fit_block given xs) (fit_stays given xs) 0 blocks fit

pub swept_none : (leaver : ℕ) (advanced : Bool) (tasks : List TaskEntry) (global : GlobalTime) (p : Tables) → is_well_formed p ≡ true
    → map (passed_entry leaver advanced tasks global) p.expirations ≡ p.expirations → swept leaver advanced tasks global p ≡ with_times tasks global p
unfolding swept
swept_none leaver advanced tasks global p w stay = rw (stay, none_freed p.given p.expirations p.blocks (fit_parts p w).blocks)
