-- Four numbers, one after the other.
use native.Mathlib.Omega.{arith}
use Rattle.planned.proofs.Printing.{word_next, line_put, open_figure}
use Rattle.planned.proofs.output.put_track.Goals as goal

pub put_number-second-requires : goal.put_number-second-requires
put_number-second-requires c = let rest = word_next c.args.t.replies 32 18 c.put_number-first.ensures c.requires in
    omega (arith, rest)

pub put_number-third-requires : goal.put_number-third-requires
put_number-third-requires c = let rest = word_next c.args.t.replies 32 18 c.put_number-first.ensures c.requires in
    let more = word_next c.args.t.quits 32 12 c.put_number-second.ensures rest in
    omega (arith, more)

pub put_number-requires : goal.put_number-requires
put_number-requires c = let rest = word_next c.args.t.replies 32 18 c.put_number-first.ensures c.requires in
    let more = word_next c.args.t.quits 32 12 c.put_number-second.ensures rest in
    let last = word_next c.args.t.refusals 32 6 c.put_number-third.ensures more in
    omega (arith, last)

pub returns : goal.returns
returns c =
    line_put _ _ _ _ _ c.requires c.put_number-first.ensures c.put_number-second.ensures c.put_number-third.ensures
    (open_figure c.args.t.poll c.is_some.ensures c.from-open.ensures) c.put_number.ensures
