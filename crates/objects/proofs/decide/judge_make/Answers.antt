-- By what the tests ensure, in their two parts.
use borrow.Author.Rules.{rules}
use Rattle.objects.proofs.decide.judge_make.Goals as goal

pub returns-in_err-make_call_verdict : goal.returns-in_err-make_call_verdict
returns-in_err-make_call_verdict c = rw (← c.make_call_verdict.ensures, c.in_err-make_call_verdict.was) (search rules)

pub returns : goal.returns
returns c =
    rw (← c.make_call_verdict.ensures, c.in_ok-make_call_verdict.was, ← c.of_store-quota.ensures, ← c.of_store.ensures, ← c.is_filled-full.ensures, c.taking_verdict.ensures)
