-- What stands, by one test more.
use Prim.Native.Nat.{ℕ}
use mathlib.Core.Bool.{true, false, not}
use mathlib.Core.List.{[], ◌∷◌}
use mathlib.Core.Path.{◌≡◌, sym, ◌∙◌}
use borrow.Author.Rules.{rules}
use Rattle.std.specs.Prelude.{Ok}
use Rattle.lists.proofs.Cases.{by_test}
use Rattle.ledger.specs.Refusals.{not_pinned, verdict}
use Rattle.ledger.specs.Rules.{tests_of}
use Rattle.ledger.specs.declared.Call.TheVariants.{Release}
use Rattle.ledger.specs.declared.Refusal.TheVariants.{NotPinned}
use Rattle.record.specs.Tables.{Tables, tables_by, lent}
use Rattle.steps.specs.Facts.{is_here, task_tests, handle_tests, verdict_with, verdict_by}
use Rattle.steps.specs.Objects.{place_of}
use Rattle.steps.proofs.Chosen.{using_known, here_listed}
use Rattle.refusals.specs.Verdicts.{refuse_if}
use Rattle.objects.specs.Outcomes.{found_in, found_if}
use Rattle.objects.specs.declared.Found.{Found}
use Rattle.objects.proofs.Outcomes.{tested_after_lem, found_accepted, with_test}
use Rattle.objects.proofs.finding.find_for_release.Goals as goal

module _ (task handle : ℕ) (p : Tables) where
  -- what it finds, by what stands
  found : found_in false (tests_of (Release task handle) []) task handle p
      ≡ found_if (found_in false (task_tests true task (handle_tests handle)) task handle p) (verdict_by (not_pinned handle ∷ []) p)
  unfolding tests_of
  found =
      rw (with_test [] [] (task_tests true task (handle_tests handle)) (not_pinned handle ∷ []))
      (sym (tested_after_lem false task handle p (verdict_by (task_tests true task (handle_tests handle)) p) _))

  -- an object that stands is in its block
  here : {found : Found} → found_in false (task_tests true task (handle_tests handle)) task handle p ≡ Ok found
      → (is_here p.blocks handle ≡ true) × (place_of handle p.blocks ≡ found.block)
  here e = let (v, place) = found_accepted false task handle p _ e in ((using_known true task handle p v).here, place)

pub is_pinned-requires : goal.is_pinned-requires
is_pinned-requires c =
    let a = c.args in
    let p = lent a.h a.blocks.now a.expirations.now in
    let told = here a.task a.handle p (sym c.find_standing.ensures ∙ c.in_ok-found.was) in
    rw (← told.1) (here_listed a.handle p.blocks told.0)

pub returns-in_err-found : goal.returns-in_err-found
returns-in_err-found c =
    let a = c.args in
    let p = lent a.h a.blocks.now a.expirations.now in
    rw (found a.task a.handle p, ← c.find_standing.ensures, c.in_err-found.was) (search rules)

pub returns-then-not-is_pinned : goal.returns-then-not-is_pinned
unfolding verdict_with verdict tables_by
returns-then-not-is_pinned c =
    let a = c.args in
    let p = lent a.h a.blocks.now a.expirations.now in
    let told = here a.task a.handle p (sym c.find_standing.ensures ∙ c.in_ok-found.was) in
    let pinned : verdict_by (not_pinned a.handle ∷ []) p ≡ refuse_if (not c.is_pinned.result) NotPinned =
    rw (told.0, told.1, ← c.is_pinned.ensures.so a.expirations.now.dues c.requires.0.entries.of_dues) (by_test c.is_pinned.result (λ e. rw e) (λ e. rw e)) in
    rw (found a.task a.handle p, ← c.find_standing.ensures, c.in_ok-found.was, pinned, c.if-not-is_pinned.true)

pub returns : goal.returns
unfolding verdict_with verdict tables_by
returns c =
    let a = c.args in
    let p = lent a.h a.blocks.now a.expirations.now in
    let told = here a.task a.handle p (sym c.find_standing.ensures ∙ c.in_ok-found.was) in
    let pinned : verdict_by (not_pinned a.handle ∷ []) p ≡ refuse_if (not c.is_pinned.result) NotPinned =
    rw (told.0, told.1, ← c.is_pinned.ensures.so a.expirations.now.dues c.requires.0.entries.of_dues) (by_test c.is_pinned.result (λ e. rw e) (λ e. rw e)) in
    rw (found a.task a.handle p, ← c.find_standing.ensures, c.in_ok-found.was, pinned, c.if-not-is_pinned.false)
