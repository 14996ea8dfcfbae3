-- A count of the blocks from one place to before another.
use Rattle.std.proofs.Common.{◌-◌, drop, slice_range, refl, arith, length-drop, length-take}
use Rattle.lists.proofs.Loops.{count_turn}
use Rattle.lists.proofs.Tallies.{count_most}
use Rattle.objects.specs.Usage.{is_given}
use Rattle.objects.proofs.report.used_blocks.Goals as goal

pub overflow_add-n : goal.overflow_add-n
overflow_add-n c =
    let start = c.args.start in
    let end = c.args.end in
    let hs = c.args.handles.now in
    let more = count_turn is_given 0 c.loop-handle.n c.loop-handle.invariant c.loop-handle-test.true refl in
    omega (arith, more.so, count_most is_given (slice_range hs start end), length-take (end - start) (drop start hs), length-drop start hs)
