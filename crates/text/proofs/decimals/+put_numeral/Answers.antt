-- A number is what its tenth is, and a digit more.
use native.Mathlib.Omega.{arith}
use Rattle.std.proofs.Common.{◌-◌, ◌/◌}
use Rattle.text.proofs.Numerals.{room_left, puts_none, puts_digit, puts_more}
use Rattle.text.proofs.decimals.+put_numeral.Goals as goal

pub returns-then-places-eq0 : goal.returns-then-places-eq0
returns-then-places-eq0 t c = puts_none _ _ _ _ c.if-places-eq0.true

pub returns-then-n-lt10 : goal.returns-then-n-lt10
returns-then-n-lt10 t c = puts_digit _ _ _ _ c.if-places-eq0.false c.if-n-lt10.true (omega arith)

pub bounds-out-next : goal.bounds-out-next
bounds-out-next t c = (room_left (c.args.places - 1) (c.args.n / 10) c.args.at _ c.put_numeral-next.ensures (omega arith)).1

pub overflow_add-result-2 : goal.overflow_add-result-2
overflow_add-result-2 t c =
    let room = (room_left (c.args.places - 1) (c.args.n / 10) c.args.at _ c.put_numeral-next.ensures (omega arith)).0 in
    record { fits = omega arith }

pub returns : goal.returns
returns t c =
    puts_more c.args.places c.args.n c.args.at _ c.if-places-eq0.false c.if-n-lt10.false c.put_numeral-next.ensures (omega arith)
