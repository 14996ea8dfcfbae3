-- A line of each channel in its order.
use native.Mathlib.Omega.{arith}
use Rattle.planned.proofs.Printing.{print_starts, print_room, print_turns, print_ends}
use Rattle.planned.proofs.output.put_tracks.Goals as goal

pub loop-track-init : goal.loop-track-init
loop-track-init c = print_starts _ _

pub put_track-at-requires : goal.put_track-at-requires
put_track-at-requires c = let more = c.loop-track-test.true in print_room c.loop-track.invariant (omega (arith, more, c.requires.most)) c.requires.room

pub loop-track-preserved : goal.loop-track-preserved
loop-track-preserved c = let more = c.loop-track-test.true in
    print_turns _ c.loop-track.invariant more (omega (arith, more, c.requires.most)) c.requires.room c.put_track-at.ensures

pub returns : goal.returns
returns c = print_ends c.loop-track.invariant c.loop-track-test.false c.requires.most (omega arith) c.requires.room
