-- By the frame: refused with nothing changed, or what the pool serves.
use lib.Seq.{length-take-le}
use mathlib.Core.Path.{sym}
use Rattle.answers.proofs.Shown.{block_showable, short_line}
use Rattle.frames.proofs.Payloads.{bytes_in_lem}
use Rattle.execute.proofs.Carrying.{refused_executes, served_executes}
use Rattle.execute.proofs.execute_lent.Goals as goal

pub put_answer-requires : goal.put_answer-requires
put_answer-requires c = short_line _ _ c.args.out.now 0 c.no_part.ensures c.requires.1

pub returns-in_default : goal.returns-in_default
returns-in_default c = (
  c.requires.0,
  refused_executes c.decode-frame.ensures _ _ _ _ _ _ c.unwrap_err.ensures c.no_part.ensures c.from.ensures c.put_answer.ensures,
)

pub slice_bounds-bytes-end : goal.slice_bounds-bytes-end
slice_bounds-bytes-end c = bytes_in_lem c.decode-frame.ensures c.in-Ok.is

pub slice_bounds-call-end : goal.slice_bounds-call-end
slice_bounds-call-end c = sym (length-take-le _ _ (bytes_in_lem c.decode-frame.ensures c.in-Ok.is))

pub show-length-requires : goal.show-length-requires
show-length-requires c = block_showable _ c.call-done.ensures.1.inside c.args.out.now 0 c.requires.1

pub returns : goal.returns
returns c = (
  c.call-done.ensures.0,
  served_executes c.decode-frame.ensures _ _ _ _ _ _ c.in-Ok.is c.call-done.ensures.1 c.from-2.ensures c.show-length.ensures,
)
