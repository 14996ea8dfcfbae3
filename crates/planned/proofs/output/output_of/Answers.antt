-- What is read is bad, or is run and printed.
use Rattle.std.proofs.Common.{◌∙◌}
use Rattle.planned.proofs.Printing.{planned, shows_lines}
use Rattle.planned.proofs.output.output_of.Goals as goal

pub run-requires : goal.run-requires
run-requires c = planned _ c.in-Some.ensures.told

pub returns : goal.returns
returns c = shows_lines _ c.in-Some.ensures.told (c.deref.ensures.0 ∙ c.run.ensures) c.put_tracks-count.ensures
