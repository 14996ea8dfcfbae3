-- From the last row down, the three columns alike.
use Rattle.std.proofs.Common.{◌≡◌, ◌-◌, get_or, sym, ◌∙◌, arith}
use Rattle.sheet.proofs.Kept.{shifted_over}
use Rattle.sheet.proofs.sweeping.compact.Goals as goal

pub loop-i-preserved : goal.loop-i-preserved
loop-i-preserved c =
    let (clocks, places, units) = c.loop-i.invariant in
    let over : get_or c.args.units.now (c.loop-i.i - 1) 0 ≡ 0 = sym (units.still (c.loop-i.i - 1) (omega arith)) ∙ c.if-units-i-ne0.false in
    (shifted_over clocks (omega arith) over, shifted_over places (omega arith) over, shifted_over units (omega arith) over)
