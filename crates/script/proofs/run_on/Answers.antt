-- Each line turns the run on: there is room for its answer, the place moves on, and its turn keeps the invariant.
use mathlib.Core.Path.{◌≡◌, refl, sym, ◌∙◌}
use borrow.Author.Rules.{rules}
use lib.ListN.{length}
use lib.Seq.{length-take-le}
use Rattle.record.proofs.Types.{pool_typed}
use Rattle.answers.proofs.Shown.{block_showable, short_line}
use Rattle.frames.proofs.Payloads.{bytes_in_lem}
use Rattle.script.proofs.Running.{ready, placed, stepped, at_end, refused_run, served_run, run_starts, run_runnable, run_room, run_nears, run_turns, run_ends, run_fills}
use Rattle.script.proofs.run_on.Goals as goal
use Rattle.script.proofs.run_on.Goals.{else-loop-out-test, then-loop-out-test+in_default}

pub loop-out-init : goal.loop-out-init
loop-out-init c =
    record { run = run_starts _ _ c.requires refl; sized = (pool_typed c.args.p _ c.well_formed.0).1; whole = refl }

pub put_answer-written-requires : goal.put_answer-written-requires
put_answer-written-requires c =
    short_line _ c.no_part.result.now c.loop-out.out c.loop-out.written c.no_part.ensures (run_room c.loop-out.invariant.run c.loop-out-test.true)

pub loop-out-smaller-in_default-frame : goal.loop-out-smaller-in_default-frame
loop-out-smaller-in_default-frame c = let at = c.loop-out.invariant in
    let read = stepped c.loop-out.lines c.step.ensures at.whole c.in-Some.is in run_nears at.run read.more read.next

-- a line that is refused changes nothing
pub loop-out-preserved-in_default-frame : goal.loop-out-preserved-in_default-frame
loop-out-preserved-in_default-frame c = let at = c.loop-out.invariant in
    let none = c.no_part.ensures in
    let read = stepped c.loop-out.lines c.step.ensures at.whole c.in-Some.is in
    let same : length c.decode-frame.new.bytes ≡ length c.loop-out.bytes = search rules in
    record {
      run =
          run_turns at.run read.more read.line_is (refused_run c.decode-frame.ensures c.unwrap_err.ensures none)
          (short_line _ c.no_part.result.now c.loop-out.out c.loop-out.written none (run_room at.run c.loop-out-test.true)) c.put_answer-written.ensures
          read.next (same ∙ at.run.buffer);
      sized = at.sized;
      whole = read.whole;
    }

-- the holdings that a call asks for
pub holdings_for-holdings-requires : goal.holdings_for-holdings-requires
holdings_for-holdings-requires c = (c.loop-out.invariant.sized.blocks, placed (run_runnable c.loop-out.invariant.run))

-- the bytes of a request are in the buffer
pub slice_bounds-bytes-end : goal.slice_bounds-bytes-end
slice_bounds-bytes-end c = bytes_in_lem c.decode-frame.ensures c.in-Ok.is

pub slice_bounds-call-end : goal.slice_bounds-call-end
slice_bounds-call-end c = sym (length-take-le _ _ (bytes_in_lem c.decode-frame.ensures c.in-Ok.is))

pub call-done-requires : goal.call-done-requires
call-done-requires c = (c.loop-out.invariant.sized, ready _ (run_runnable c.loop-out.invariant.run), c.holdings_for-holdings.ensures)

pub show-written-requires : goal.show-written-requires
show-written-requires c = block_showable _ c.call-done.ensures.1.inside _ _ (run_room c.loop-out.invariant.run c.loop-out-test.true)

pub loop-out-smaller : goal.loop-out-smaller
loop-out-smaller c = let at = c.loop-out.invariant in
    let read = stepped c.loop-out.lines c.step.ensures at.whole c.in-Some.is in run_nears at.run read.more read.next

-- a call is carried out by the one dispatch
pub loop-out-preserved : goal.loop-out-preserved
loop-out-preserved c = let at = c.loop-out.invariant in
    let served = c.call-done.ensures in
    let read = stepped c.loop-out.lines c.step.ensures at.whole c.in-Some.is in
    let same : length c.decode-frame.new.bytes ≡ length c.loop-out.bytes = search rules in
    record {
      run =
          run_turns at.run read.more read.line_is (served_run c.decode-frame.ensures c.in-Ok.is served.1)
          (block_showable _ served.1.inside c.loop-out.out c.loop-out.written (run_room at.run c.loop-out-test.true)).room c.show-written.ensures
          read.next (same ∙ at.run.buffer);
      sized = served.0;
      whole = read.whole;
    }

pub returns : goal.returns
returns c = let at = c.loop-out.invariant in
    elim c.loop-out-test.branch [
      | else-loop-out-test w ↦ rw w.lines-is (run_fills at.run w.loop-out-test.false)
      | then-loop-out-test+in_default w ↦ let (none, same) = at_end c.loop-out.lines w.step.ensures at.whole w.in_default.is in rw (w.lines-is, same) (run_ends at.run none)
    ]
