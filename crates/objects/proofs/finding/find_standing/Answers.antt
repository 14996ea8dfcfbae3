-- By the task's verdict, and then by what is found.
use Rattle.record.specs.declared.ExpirationTable.{ExpirationTable}
use Rattle.record.specs.declared.BlockTable.{BlockTable}
use borrow.Author.Rules.{rules}
use Prim.Native.Nat.{ℕ}
use mathlib.Core.Bool.{Bool}
use mathlib.Core.Path.{◌≡◌, sym, ◌∙◌}
use Rattle.record.specs.Tables.{tables_by, lent}
use Rattle.record.specs.declared.Head.{Head}
use Rattle.steps.specs.Facts.{task_tests, handle_tests, verdict_by}
use Rattle.refusals.specs.Verdicts.{and_then, task_verdict}
use Rattle.refusals.proofs.Verdicts.{task_known}
use Rattle.objects.proofs.Outcomes.{using_tests}
use Rattle.objects.proofs.finding.find_standing.Goals as goal

-- its tests, by the task's verdict
tests : (acts : Bool) (task handle : ℕ) (h : Head) (blocks : BlockTable) (expirations : ExpirationTable)
    → (let p = lent h blocks expirations in
    verdict_by (task_tests acts task (handle_tests handle)) p ≡ and_then (task_verdict acts task h.tasks) (verdict_by (handle_tests handle) p))
unfolding tables_by
tests acts task handle h blocks expirations = sym (using_tests acts task handle (lent h blocks expirations))

pub find-requires : goal.find-requires
find-requires c =
    (c.requires.0, c.requires.1, task_known c.args.acts c.args.task c.args.h.tasks (sym c.task_verdict.ensures ∙ c.in_ok-task_verdict.was))

pub returns-in_err-task_verdict : goal.returns-in_err-task_verdict
returns-in_err-task_verdict c =
    let a = c.args in rw (tests a.acts a.task a.handle a.h a.blocks.now a.expirations.now, ← c.task_verdict.ensures, c.in_err-task_verdict.was) (search rules)

pub returns : goal.returns
returns c =
    let a = c.args in rw (tests a.acts a.task a.handle a.h a.blocks.now a.expirations.now, ← c.task_verdict.ensures, c.in_ok-task_verdict.was) c.find.ensures
