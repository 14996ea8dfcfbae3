-- One of the twelve, report, or remaining life.
use Rattle.dispatch.proofs.Arms.{report_arm, life_arm}
use Rattle.dispatch.proofs.call.Goals as goal

pub returns-in-Report : goal.returns-in-Report
returns-in-Report c =
    report_arm _ c.requires.0 c.requires.1 c.in-Report.is
    (rw (c.answered.ensures, c.usage.ensures, c.standing.ensures))

pub returns-in-Remaining : goal.returns-in-Remaining
returns-in-Remaining c = life_arm _ c.requires.0 c.requires.1 c.in-Remaining.is c.remaining.ensures c.answered-in-Remaining.ensures
