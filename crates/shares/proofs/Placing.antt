-- How blocks are known to be placed, each in a block of its store: by any test of all blocks that asks it.
use Prim.Native.Nat.{ℕ}
use mathlib.Core.Bool.{Bool, true, false, false≢true, not, ◌&&◌, and-eq-true_iff}
use mathlib.Core.List.{List, map}
use mathlib.Core.Path.{◌≡◌, refl}
use lib.ListN.{get_or}
use Rattle.lists.specs.Tables.{all_from}
use Rattle.lists.specs.Tests.{any, all}
use Rattle.lists.proofs.Cases.{and₃}
use Rattle.lists.proofs.Tables.{all_from_at}
use Rattle.ledger.specs.Tasks.{all_ticked}
use Rattle.record.specs.Codes.{free_block, task_of}
use Rattle.record.specs.Tables.{BlockEntry, ExpirationEntry, Tables}
use Rattle.record.specs.WellFormed.{is_used, is_fit_task, is_fit_entry, is_naming, is_sized_for, is_fit_block, is_distinct, is_pinned_once, handle_of, is_consistent}
use Rattle.record.proofs.Facts.{Fit}
use Rattle.shares.specs.Holdings.{LengthsFit}

pub placed_by : (test : ℕ → BlockEntry → Bool) → ((k : ℕ) → test k free_block ≡ true)
    → ((k : ℕ) (b : BlockEntry) → test k b ≡ true → is_used b ≡ true → is_sized_for k b.length ≡ true)
    → (blocks : List BlockEntry) → all_from 0 test blocks ≡ true → LengthsFit blocks
placed_by test free shows blocks e =
    record { so = λ k u. shows k (get_or blocks k free_block) (all_from_at test free_block free blocks e k) u }

fit_block : (given : ℕ) (xs : List ExpirationEntry) (k : ℕ) (b : BlockEntry) → is_fit_block given xs k b ≡ true → is_used b ≡ true → is_sized_for k b.length ≡ true
unfolding is_fit_block
fit_block given xs k b t u = (and₃ (any (is_naming k) xs) _ _ ((and-eq-true_iff _ _).0 (rw u at t)).0).1

placed_all : (given : ℕ) (xs : List ExpirationEntry) (blocks : List BlockEntry) → all_from 0 (is_fit_block given xs) blocks ≡ true → LengthsFit blocks
unfolding is_fit_block
placed_all given xs blocks e = placed_by (is_fit_block given xs) (λ k. refl) (fit_block given xs) blocks e

pub placed_fit : {p : Tables} → Fit p → LengthsFit p.blocks
placed_fit {p} fit = placed_all p.given p.expirations p.blocks fit.blocks

second : (a b c d : Bool) → (a && b && c && d) ≡ true → b ≡ true
second true true c d e = refl
second true false c d e = e
second false b c d e = absurd (false≢true e)

pub placed_consistent : (p : Tables) → is_consistent p ≡ true → LengthsFit p.blocks
unfolding is_consistent
placed_consistent p e =
    placed_all p.given p.expirations p.blocks
    (second (all is_fit_task p.tasks && not (all_ticked (map task_of p.tasks)) && all (is_fit_entry p.limits p.tasks p.global p.blocks) p.expirations)
    (all_from 0 (is_fit_block p.given p.expirations) p.blocks) (is_distinct (map handle_of p.blocks)) (is_pinned_once p.expirations) e)
