-- By the tests before the finding, what is found, and the test after it.
use borrow.Author.Rules.{rules}
use mathlib.Core.Bool.{true}
use mathlib.Core.Path.{sym, ◌∙◌}
use Rattle.refusals.proofs.Verdicts.{task_known}
use Rattle.objects.proofs.Outcomes.{refresh_found}
use Rattle.objects.proofs.finding.find_for_refresh.Goals as goal

pub find-requires : goal.find-requires
find-requires c =
    let a = c.args in (c.requires.0, c.requires.1, task_known true a.task a.h.tasks (sym c.task_verdict.ensures ∙ c.in_ok-task_verdict.was))

pub returns-in_err-task_verdict : goal.returns-in_err-task_verdict
returns-in_err-task_verdict c =
    let a = c.args in
    rw (refresh_found a.task a.kind a.extension a.handle a.h _ _ c.requires.0.entries, ← c.task_verdict.ensures, c.in_err-task_verdict.was) (search rules)

pub returns-in_err-set_verdict : goal.returns-in_err-set_verdict
returns-in_err-set_verdict c =
    let a = c.args in
    rw (refresh_found a.task a.kind a.extension a.handle a.h _ _ c.requires.0.entries, ← c.task_verdict.ensures, c.in_ok-task_verdict.was, ← c.set_verdict.ensures, c.in_err-set_verdict.was) (search rules)

pub returns-in_err-found : goal.returns-in_err-found
returns-in_err-found c =
    let a = c.args in
    rw (refresh_found a.task a.kind a.extension a.handle a.h _ _ c.requires.0.entries, ← c.task_verdict.ensures, c.in_ok-task_verdict.was, ← c.set_verdict.ensures, c.in_ok-set_verdict.was, ← c.find.ensures, c.in_err-found.was) (search rules)

pub returns-in_err-room_verdict : goal.returns-in_err-room_verdict
returns-in_err-room_verdict c =
    let a = c.args in
    rw (refresh_found a.task a.kind a.extension a.handle a.h _ _ c.requires.0.entries, ← c.task_verdict.ensures, c.in_ok-task_verdict.was, ← c.set_verdict.ensures, c.in_ok-set_verdict.was, ← c.find.ensures, c.in_ok-found.was, ← c.standing.ensures, ← c.room_verdict.ensures, c.in_err-room_verdict.was) (search rules)

pub returns : goal.returns
returns c =
    let a = c.args in
    rw (refresh_found a.task a.kind a.extension a.handle a.h _ _ c.requires.0.entries, ← c.task_verdict.ensures, c.in_ok-task_verdict.was, ← c.set_verdict.ensures, c.in_ok-set_verdict.was, ← c.find.ensures, c.in_ok-found.was, ← c.standing.ensures, ← c.room_verdict.ensures, c.in_ok-room_verdict.was)
