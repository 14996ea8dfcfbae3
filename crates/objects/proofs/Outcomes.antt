-- Laws of the one finding: what a test after it makes of it, its tests in parts, and what the columns give.
use Rattle.record.specs.declared.ExpirationTable.{ExpirationTable}
use Rattle.record.specs.declared.BlockTable.{BlockTable}
use Prim.Native.Nat.{ℕ}
use native.Mathlib.Nat.{zero-add}
use native.Mathlib.Omega.{arith}
use mathlib.Core.Bool.{Bool, true, false, not-not}
use mathlib.Core.List.{List, [], ◌++◌}
use mathlib.Core.Path.{◌≡◌, refl, sym, ap, ◌∙◌}
use borrow.Author.Tests.{eqb-true}
use lib.Dec.{eqb}
use lib.ListN.{length, get_or}
use Rattle.lists.proofs.First.{first_at}
use Rattle.ledger.specs.Refusals.{Test, verdict, Verdict}
use Rattle.ledger.specs.Rules.{tests_of}
use Rattle.ledger.specs.declared.Call.TheVariants.{Refresh}
use Rattle.ledger.specs.declared.Kind.{Kind}
use Rattle.ledger.specs.declared.Refusal.{Refusal}
use Rattle.record.specs.Codes.{free_block}
use Rattle.record.specs.Tables.{Tables, Sized, block_entry, tables_by, lent, block_entries, expiration_list, EntriesSized}
use Rattle.record.specs.WellFormed.{is_well_formed}
use Rattle.record.specs.Reading.{is_whole_small, is_whole_large, size_of}
use Rattle.record.specs.declared.Head.{Head}
use Rattle.record.proofs.Columns.{block_at, length_blocks}
use Rattle.record.proofs.Facts.{fit_parts, fit_used}
use Rattle.stores.specs.Places.{InBlock}
use Rattle.stores.proofs.Places.{in_block}
use Rattle.steps.specs.Facts.{is_here, facts_with, task_tests, handle_tests, verdict_with, verdict_by}
use Rattle.steps.specs.Objects.{is_block_of, place_of, place_in, block_of, standing_in}
use Rattle.steps.specs.Remaining.{life_in, LifeWithin}
use Rattle.steps.proofs.Chosen.{here_found}
use Rattle.steps.proofs.Remaining.{life_within}
use Rattle.expirations.specs.Standing.{standing_of}
use Rattle.expirations.proofs.Counting.{standing_of_lem}
use Rattle.refusals.specs.Verdicts.{and_then, task_verdict, set_verdict, found_verdict, room_verdict}
use Rattle.refusals.proofs.Verdicts.{then_assoc, then_accepted, test_then, no_test, tests_then, task_tests_lem, next_refused, next_found}
use Rattle.objects.specs.Outcomes.{found_by, found_in, found_if, life_if, bytes_by}
use Rattle.objects.specs.declared.Found.{Found}
use Rattle.objects.specs.declared.Part.{Part}
use Rattle.objects.proofs.Laws.{place_of_lem}
use Rattle.std.specs.Prelude.{Ok, Err}

module _ (asks : Bool) (task handle : ℕ) (p : Tables) where
  -- a test after it
  pub tested_after_lem : (v w : Verdict) → found_if (found_by asks v task handle p) w ≡ found_by asks (and_then v w) task handle p
  tested_after_lem (Ok _) w = refl
  tested_after_lem (Err r) w = refl

  -- what the finding tells of the verdict
  pub found_refused : (v : Verdict) {why : Refusal} → found_by asks v task handle p ≡ Err why → v ≡ Err why
  found_refused v = next_refused v _

  pub found_accepted : (v : Verdict) {found : Found} → found_by asks v task handle p ≡ Ok found
      → (v ≡ Ok tt) × (place_of handle p.blocks ≡ found.block)
  found_accepted v e = let (accepted, same) = next_found v _ e in (accepted, ap (λ (found : Found). found.block) same)

-- the same of a read or a write
module _ (handle : ℕ) (p : Tables) where
  pub bytes_refused : (v : Verdict) {why : Refusal} → bytes_by v handle p ≡ Err why → v ≡ Err why
  bytes_refused (Ok _) e = cc
  bytes_refused (Err r) e = cc

  pub bytes_accepted : (v : Verdict) {part : Part} → bytes_by v handle p ≡ Ok part
      → (v ≡ Ok tt) × (place_of handle p.blocks ≡ part.block)
      × ((get_or p.blocks (place_of handle p.blocks) free_block).length ≡ part.length)
      × ((get_or p.blocks (place_of handle p.blocks) free_block).sum ≡ part.sum)
  bytes_accepted (Ok _) e = (refl, cc, cc, cc)
  bytes_accepted (Err r) e = (cc, cc, cc, cc)

-- the block of an object that has one is in use
pub here_used : (handle : ℕ) (p : Tables) → length p.blocks ≡ block_entries → is_here p.blocks handle ≡ true
    → eqb (block_of handle p.blocks).handle 0 ≡ false
here_used handle p size h =
    let (nonzero, place) = here_found handle p.blocks h in
    let (k, listed, at, its) = first_at (is_block_of handle) free_block 0 p.blocks (rw (zero-add, size) place) in
    let here : place_of handle p.blocks ≡ k = omega (arith, at) in
    rw (here, eqb-true _ handle its) nonzero

-- so its bytes lie in stores that are as long as the figures need
pub here_block : (h : Head) {blocks : BlockTable} {expirations : ExpirationTable} {small large : List ℕ} → Sized blocks expirations → (handle : ℕ)
    → (let p = lent h blocks expirations in is_well_formed p ≡ true → is_whole_small h.limits small ≡ true → is_whole_large h.limits large ≡ true
    → is_here p.blocks handle ≡ true → InBlock small large (place_of handle p.blocks) (size_of (place_of handle p.blocks)))
unfolding tables_by
here_block h {blocks} {expirations} sized handle w s l here =
    let p = lent h blocks expirations in
    let fit = fit_parts p w in
    let size = length_blocks blocks.handles blocks.extents sized.blocks.of_handles sized.blocks.of_extents in
    in_block h.limits fit.allowed s l (fit_used fit _ (here_used handle p size here)).listed (omega arith)

-- tests that look at no bytes are the same with whatever stores
pub using_blind : (small large : List ℕ) (acts : Bool) (task handle : ℕ) (p : Tables)
    → verdict_with small large (task_tests acts task (handle_tests handle)) p ≡ verdict_by (task_tests acts task (handle_tests handle)) p
unfolding verdict_with verdict
using_blind small large true task handle p = refl
using_blind small large false task handle p = refl

-- the tests of a use are its task's, and then those of its object
pub using_tests : (acts : Bool) (task handle : ℕ) (p : Tables)
    → and_then (task_verdict acts task p.tasks) (verdict_by (handle_tests handle) p) ≡ verdict_by (task_tests acts task (handle_tests handle)) p
unfolding verdict_with
using_tests acts task handle p = sym (task_tests_lem (facts_with [] [] p) acts task (handle_tests handle))

-- one test more
pub with_test : (small large : List ℕ) (ts us : List Test) (p : Tables)
    → verdict_with small large (ts ++ us) p ≡ and_then (verdict_with small large ts p) (verdict_with small large us p)
unfolding verdict_with
with_test small large ts us p = tests_then (facts_with small large p) ts us

-- the tests of a refresh: those before the finding, its own, and the one after it
module _ (task : ℕ) (kind : Kind) (extension handle : ℕ) (h : Head) (blocks : BlockTable) (expirations : ExpirationTable) where
  refresh_tests : verdict_by (tests_of (Refresh task kind extension handle) []) (lent h blocks expirations)
      ≡ and_then (and_then (task_verdict true task h.tasks) (set_verdict h.limits kind extension))
      (and_then (verdict_by (handle_tests handle) (lent h blocks expirations)) (room_verdict h.limits (standing_in (expiration_list expirations))))
  unfolding verdict_with tests_of tables_by
  refresh_tests =
      task_tests_lem (facts_with [] [] (lent h blocks expirations)) true task _ ∙ simp (test_then, no_test, then_accepted, then_assoc)

  -- by which it finds its object
  pub refresh_found : EntriesSized expirations
      → found_in false (tests_of (Refresh task kind extension handle) []) task handle (lent h blocks expirations)
      ≡ and_then (task_verdict true task h.tasks)
      (and_then (set_verdict h.limits kind extension)
      (found_if (found_in false (handle_tests handle) task handle (lent h blocks expirations))
      (room_verdict h.limits (standing_of expirations.clocks))))
  refresh_found sized =
      let p = lent h blocks expirations in
      rw (standing_of_lem sized, tested_after_lem false task handle p (verdict_by (handle_tests handle) p), refresh_tests) (simp then_assoc)

module _ (h : Head) {blocks : BlockTable} {expirations : ExpirationTable} (sized : Sized blocks expirations) (asks : Bool) (task handle : ℕ) where
  -- 11 and 12 by the handles
  pub verdict_at_lem : found_verdict handle h.given (place_in handle blocks.handles) ≡ verdict_by (handle_tests handle) (lent h blocks expirations)
  unfolding verdict_with tables_by
  verdict_at_lem =
      rw (place_of_lem blocks.handles blocks.extents sized.blocks.of_handles sized.blocks.of_extents handle)
      (simp (test_then, no_test, then_accepted, not-not))

  -- what stands is at the handle's place
  pub found_at : (let block = place_in handle blocks.handles in
      and_then {A = Found} (found_verdict handle h.given block)
      (Ok (record { block = block; life = life_if asks (life_in task block h.tasks h.global (expiration_list expirations)) }))
      ≡ found_in asks (handle_tests handle) task handle (lent h blocks expirations))
  unfolding tables_by
  found_at = rw (verdict_at_lem, place_of_lem blocks.handles blocks.extents sized.blocks.of_handles sized.blocks.of_extents handle)

-- the length and the sum at a place
pub entry_at : (h : Head) {blocks : BlockTable} {expirations : ExpirationTable} → Sized blocks expirations → (i : ℕ)
    → get_or (lent h blocks expirations).blocks i free_block ≡ block_entry (get_or blocks.handles i 0) (get_or blocks.extents i 0)
unfolding tables_by
entry_at h {blocks} sized i = block_at blocks.handles blocks.extents sized.blocks.of_handles sized.blocks.of_extents i

-- the figures fit
pub life_fits : (h : Head) (blocks : BlockTable) (expirations : ExpirationTable) → is_well_formed (lent h blocks expirations) ≡ true → (task block : ℕ)
    → LifeWithin (life_in task block h.tasks h.global (expiration_list expirations))
unfolding tables_by
life_fits h blocks expirations w task block = life_within (fit_parts (lent h blocks expirations) w) task block
