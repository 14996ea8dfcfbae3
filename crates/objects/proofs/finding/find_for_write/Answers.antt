-- What has its bytes, by one test more.
use Prim.Native.Nat.{ℕ, ◌+◌}
use mathlib.Core.Bool.{true, cond}
use mathlib.Core.List.{List, [], ◌∷◌, ◌++◌}
use mathlib.Core.Path.{◌≡◌, refl}
use borrow.Author.Rules.{rules}
use borrow.Author.Tests.{not-false}
use lib.Dec.{ltb}
use lib.ListN.{length}
use Rattle.std.specs.Prelude.{Result, Ok, Err}
use Rattle.lists.proofs.Cases.{by_test}
use Rattle.ledger.specs.Refusals.{sum_differs, outside_object, verdict, Verdict}
use Rattle.ledger.specs.Rules.{tests_of}
use Rattle.ledger.specs.declared.Call.TheVariants.{Write}
use Rattle.ledger.specs.declared.Refusal.TheVariants.{OutsideObject}
use Rattle.ledger.specs.declared.Refusal.{Refusal}
use Rattle.record.specs.Tables.{Tables, lent}
use Rattle.steps.specs.Facts.{is_here, task_tests, handle_tests, verdict_with}
use Rattle.steps.specs.Objects.{block_of}
use Rattle.steps.proofs.Chosen.{all_passed}
use Rattle.refusals.specs.Verdicts.{and_then}
use Rattle.objects.specs.Outcomes.{bytes_by, bytes_in}
use Rattle.objects.specs.declared.Part.{Part}
use Rattle.objects.proofs.Outcomes.{with_test}
use Rattle.objects.proofs.finding.find_for_write.Goals as goal

-- what is found where the bytes lie within it
abbrev reached : ℕ → Result Part Refusal → Result Part Refusal
reached end (Ok part) = cond (ltb part.length end) (Err OutsideObject) (Ok part)
reached end (Err r) = Err r

by_read : (small large : List ℕ) (v : Verdict) (handle offset count : ℕ) (p : Tables) → (v ≡ Ok tt → is_here p.blocks handle ≡ true)
    → bytes_by (and_then v (verdict_with small large (outside_object handle offset count ∷ []) p)) handle p
    ≡ reached (offset + count) (bytes_by v handle p)
unfolding verdict_with verdict
by_read small large (Ok _) handle offset count p here =
    by_test (ltb (block_of handle p.blocks).length (offset + count)) (λ e. rw (here refl, e)) (λ e. rw (here refl, e))
by_read small large (Err r) handle offset count p here = refl

-- the verdict's outcome, by what has its bytes
found : (task handle offset count : ℕ) (small large : List ℕ) (p : Tables) (new : List ℕ) → length new ≡ count
    → bytes_in small large (tests_of (Write task handle offset) new) handle p
    ≡ reached (offset + count) (bytes_in small large (task_tests true task (handle_tests handle) ++ (sum_differs handle ∷ [])) handle p)
unfolding tests_of
found task handle offset count small large p new all =
    let tests = task_tests true task (handle_tests handle) ++ (sum_differs handle ∷ []) in
    rw (all, with_test small large tests (outside_object handle offset count ∷ []) p)
    (by_read small large (verdict_with small large tests p) handle offset count p
    (λ e. let (known, (present, (active, (acts, (given, (gone, end)))))) = all_passed small large tests p e in not-false _ gone))

pub returns-in_err-part : goal.returns-in_err-part
returns-in_err-part c new all =
    let a = c.args in
    let p = lent a.h a.blocks.now a.expirations.now in
    rw (found a.task a.handle a.offset a.count a.small.now a.large.now p new all, ← c.find_bytes.ensures, c.in_err-part.was) (search rules)

pub returns-then-reaches_past : goal.returns-then-reaches_past
returns-then-reaches_past c new all =
    let a = c.args in
    let p = lent a.h a.blocks.now a.expirations.now in
    rw (found a.task a.handle a.offset a.count a.small.now a.large.now p new all, ← c.find_bytes.ensures, c.in_ok-part.was, ← c.reaches_past.ensures, c.if-reaches_past.true)

pub returns : goal.returns
returns c new all =
    let a = c.args in
    let p = lent a.h a.blocks.now a.expirations.now in
    rw (found a.task a.handle a.offset a.count a.small.now a.large.now p new all, ← c.find_bytes.ensures, c.in_ok-part.was, ← c.reaches_past.ensures, c.if-reaches_past.false)
