use Rattle.std.proofs.Common.{arith}
use Rattle.std.proofs.lemmas.List.{length-take-le}
use Rattle.poolrun.proofs.Whole.{long_output, short_output}
use Rattle.poolrun.proofs.run.Goals as goal

pub returns-then-count-gt-LONGEST_SCRIPT : goal.returns-then-count-gt-LONGEST_SCRIPT
returns-then-count-gt-LONGEST_SCRIPT g c =
    let held = length-take-le _ _ c.in_ok-count.ensures.within in
    long_output c.write_all.result _ _ _ _ c.in_ok-count.ensures.first (omega (arith, c.if-count-gt-LONGEST_SCRIPT.true, held))
    c.write_all.ensures.bytes

pub returns : goal.returns
returns g c =
    let held = length-take-le _ _ c.in_ok-count.ensures.within in
    short_output c.answer.result _ _ _ _ c.in_ok-count.ensures.first (omega (arith, c.if-count-gt-LONGEST_SCRIPT.false, held))
    c.answer.ensures
