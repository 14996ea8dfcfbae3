-- A line of each channel in its order.
use Rattle.planned.proofs.Printing.{Printed}
use Rattle.planned.proofs.output.put_tracks.Given as goal

abbrev pub invariant-loop-track : goal.invariant-loop-track
invariant-loop-track l = Printed l.tracks l.initial.out l.track-index l.at l.out
