-- The character stands after the number.
use native.Mathlib.Omega.{arith}
use Rattle.std.proofs.Common.{refl}
use Rattle.text.specs.Decimals.{places}
use Rattle.text.proofs.Numerals.{room_left}
use Rattle.text.proofs.Puts.{puts_store}
use Rattle.text.proofs.decimals.put_number.Goals as goal

pub bounds-out-next : goal.bounds-out-next
bounds-out-next c = (room_left places c.args.n c.args.at _ c.put_numeral-next.ensures (omega arith)).1

pub overflow_add-result : goal.overflow_add-result
overflow_add-result c =
    let room = (room_left places c.args.n c.args.at _ c.put_numeral-next.ensures (omega arith)).0 in
    record { fits = omega arith }

pub returns : goal.returns
returns c =
    let p = c.put_numeral-next.ensures in
    puts_store _ _ p (room_left places c.args.n c.args.at _ p (omega arith)).0 refl
