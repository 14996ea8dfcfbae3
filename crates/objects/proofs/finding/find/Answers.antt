-- By the place that is found, the tests of its handle, and the figures.
use mathlib.Core.Path.{sym, ◌∙◌}
use borrow.Author.Rules.{rules}
use Rattle.refusals.proofs.Verdicts.{found_listed}
use Rattle.objects.proofs.Outcomes.{found_at, life_fits}
use Rattle.objects.proofs.finding.find.Goals as goal

pub life_if-life-requires : goal.life_if-life-requires
life_if-life-requires c =
    let a = c.args in (
      c.requires.0.entries,
      c.requires.2,
      found_listed a.handle a.h.given c.locate-block.result (sym c.found_verdict.ensures ∙ c.in_ok-found_verdict.was),
      life_fits a.h _ _ c.requires.1 _ _,
    )

pub returns-in_err-found_verdict : goal.returns-in_err-found_verdict
returns-in_err-found_verdict c =
    let a = c.args in
    rw (← found_at a.h c.requires.0 a.asks a.task a.handle, ← c.locate-block.ensures, ← c.found_verdict.ensures, c.in_err-found_verdict.was) (search rules)

pub returns : goal.returns
returns c =
    let a = c.args in
    rw (← found_at a.h c.requires.0 a.asks a.task a.handle, ← c.locate-block.ensures, ← c.found_verdict.ensures, c.in_ok-found_verdict.was, c.life_if-life.ensures)
