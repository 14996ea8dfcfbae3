-- Head, bytes and LF stand one after the other.
use native.Mathlib.Omega.{arith}
use Rattle.answers.proofs.AnswerLines.{length_line, room_after_head, room_after_bytes, puts_line}
use Rattle.answers.proofs.encode_answer.Goals as goal

pub put_head-middle-requires : goal.put_head-middle-requires
put_head-middle-requires c = omega (arith, c.requires, length_line c.args.answer c.args.bytes.now)

pub put_hex-end-requires : goal.put_hex-end-requires
put_hex-end-requires c = omega (arith, room_after_head c.args.answer c.args.bytes.now c.requires c.put_head-middle.ensures)

pub bounds-out-end : goal.bounds-out-end
bounds-out-end c = let inside = room_after_bytes c.args.answer c.args.bytes.now c.requires c.put_head-middle.ensures c.put_hex-end.ensures in omega arith

pub overflow_add-result : goal.overflow_add-result
overflow_add-result c = let inside = room_after_bytes c.args.answer c.args.bytes.now c.requires c.put_head-middle.ensures c.put_hex-end.ensures in omega arith

pub returns : goal.returns
returns c = puts_line c.args.answer c.args.bytes.now c.requires c.put_head-middle.ensures c.put_hex-end.ensures
