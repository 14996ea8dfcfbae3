-- What stands, by the test of its block's sum.
use Prim.Native.Nat.{ℕ, ◌<◌}
use mathlib.Core.Bool.{Bool, true, false, cond}
use mathlib.Core.List.{List, [], ◌∷◌, ◌++◌}
use mathlib.Core.Path.{◌≡◌, refl, sym, ◌∙◌}
use borrow.Author.Rules.{rules}
use borrow.Author.Tests.{eq-eqb, ne_eqb}
use lib.Dec.{eqb}
use lib.ListN.{get_or}
use Rattle.std.specs.Prelude.{Result, Ok, Err}
use Rattle.lists.proofs.Cases.{by_test}
use Rattle.ledger.specs.Refusals.{sum_differs, verdict, Verdict}
use Rattle.ledger.specs.declared.Refusal.{Refusal}
use Rattle.ledger.specs.declared.Refusal.TheVariants.{SumDiffers}
use Rattle.record.specs.Codes.{free_block}
use Rattle.record.specs.Tables.{BlockEntry, Tables, lent, block_entries}
use Rattle.stores.specs.Places.{sum_at}
use Rattle.steps.specs.Facts.{is_here, task_tests, handle_tests, verdict_with, verdict_by}
use Rattle.steps.specs.Objects.{place_of, block_of}
use Rattle.steps.proofs.Chosen.{using_known, here_listed}
use Rattle.refusals.specs.Verdicts.{and_then}
use Rattle.objects.specs.Outcomes.{found_by, found_in, bytes_by, bytes_in}
use Rattle.objects.specs.declared.Found.{Found}
use Rattle.objects.specs.declared.Part.{Part}
use Rattle.objects.proofs.Outcomes.{found_accepted, here_block, using_blind, with_test, entry_at}
use Rattle.objects.proofs.finding.find_bytes.Goals as goal

-- what is found in a block whose sum agrees
abbrev agreeing : List ℕ → List ℕ → List BlockEntry → Result Found Refusal → Result Part Refusal
agreeing small large blocks (Ok found) =
    let b = get_or blocks found.block free_block in
    cond (eqb (sum_at small large found.block) b.sum) (Ok (record { block = found.block; length = b.length; sum = b.sum })) (Err SumDiffers)
agreeing small large blocks (Err r) = Err r

by_standing : (small large : List ℕ) (v : Verdict) (task handle : ℕ) (p : Tables) → (v ≡ Ok tt → is_here p.blocks handle ≡ true)
    → bytes_by (and_then v (verdict_with small large (sum_differs handle ∷ []) p)) handle p
    ≡ agreeing small large p.blocks (found_by false v task handle p)
unfolding verdict_with verdict
by_standing small large (Ok _) task handle p here =
    by_test (eqb (sum_at small large (place_of handle p.blocks)) (block_of handle p.blocks).sum) (λ e. rw (here refl, e))
    (λ e. rw (here refl, e))
by_standing small large (Err r) task handle p here = refl

module _ (acts : Bool) (task handle : ℕ) where
  -- the verdict's outcome, by what stands
  found : (small large : List ℕ) (p : Tables)
      → bytes_in small large (task_tests acts task (handle_tests handle) ++ (sum_differs handle ∷ [])) handle p
      ≡ agreeing small large p.blocks (found_in false (task_tests acts task (handle_tests handle)) task handle p)
  found small large p =
      rw (with_test small large (task_tests acts task (handle_tests handle)), using_blind)
      (by_standing small large (verdict_by (task_tests acts task (handle_tests handle)) p) task handle p
      (λ e. (using_known acts task handle p e).here))

  module _ (p : Tables) {found : Found} (e : found_in false (task_tests acts task (handle_tests handle)) task handle p ≡ Ok found) where
    -- what stands has a block
    here : (is_here p.blocks handle ≡ true) × (place_of handle p.blocks ≡ found.block)
    here =
        let (v, place) = found_accepted false task handle p (verdict_by (task_tests acts task (handle_tests handle)) p) e in
        ((using_known acts task handle p v).here, place)

    -- its block is one of the blocks'
    listed : found.block < block_entries
    listed = rw (← here.1) (here_listed handle p.blocks here.0)

pub offset_bounds-blocks-block : goal.offset_bounds-blocks-block
offset_bounds-blocks-block c =
    let a = c.args in
    let p = lent a.h a.blocks.now a.expirations.now in
    let h : c.in_ok-found.found.block < block_entries = listed a.acts a.task a.handle p (sym c.find_standing.ensures ∙ c.in_ok-found.was) in
    search rules

pub bounds-blocks-block : goal.bounds-blocks-block
bounds-blocks-block c =
    let a = c.args in
    let p = lent a.h a.blocks.now a.expirations.now in
    let h : c.in_ok-found.found.block < block_entries = listed a.acts a.task a.handle p (sym c.find_standing.ensures ∙ c.in_ok-found.was) in
    search rules

pub block_sum-requires : goal.block_sum-requires
block_sum-requires c =
    let a = c.args in
    let p = lent a.h a.blocks.now a.expirations.now in
    let told = here a.acts a.task a.handle p (sym c.find_standing.ensures ∙ c.in_ok-found.was) in
    rw told.1 at (here_block a.h {small = a.small.now} {large = a.large.now} c.requires.0 a.handle c.requires.1 c.requires.2 c.requires.3 told.0)

pub returns-in_err-found : goal.returns-in_err-found
returns-in_err-found c =
    let a = c.args in
    let p = lent a.h a.blocks.now a.expirations.now in
    rw (found a.acts a.task a.handle a.small.now a.large.now p, ← c.find_standing.ensures, c.in_err-found.was) (search rules)

pub returns-then-block_sum-sum : goal.returns-then-block_sum-sum
returns-then-block_sum-sum c =
    let a = c.args in
    let p = lent a.h a.blocks.now a.expirations.now in
    let sum_of : (get_or p.blocks c.in_ok-found.found.block free_block).sum ≡ c.sum_in-sum.result = rw (entry_at a.h c.requires.0) (sym c.sum_in-sum.ensures) in
    let agreed : eqb (sum_at a.small.now a.large.now c.in_ok-found.found.block) c.sum_in-sum.result ≡ false = rw (← c.block_sum.ensures) (ne_eqb _ _ c.if-block_sum-sum.true) in
    rw (found a.acts a.task a.handle a.small.now a.large.now p, ← c.find_standing.ensures, c.in_ok-found.was, sum_of, agreed)

pub returns : goal.returns
returns c =
    let a = c.args in
    let p = lent a.h a.blocks.now a.expirations.now in
    let sum_of : (get_or p.blocks c.in_ok-found.found.block free_block).sum ≡ c.sum_in-sum.result = rw (entry_at a.h c.requires.0) (sym c.sum_in-sum.ensures) in
    let agreed : eqb (sum_at a.small.now a.large.now c.in_ok-found.found.block) c.sum_in-sum.result ≡ true = rw (← c.block_sum.ensures) (eq-eqb _ _ c.if-block_sum-sum.false) in
    rw (found a.acts a.task a.handle a.small.now a.large.now p, ← c.find_standing.ensures, c.in_ok-found.was, sum_of, agreed, entry_at a.h c.requires.0, c.length_in-length.ensures)
