-- Refused, a buffer too short for the part, or the part copied out.
use Rattle.by_value_objects.proofs.Promises.{read_refused, read_copied}
use Rattle.by_value_objects.proofs.read.Goals as goal

pub returns-then-number-ne0 : goal.returns-then-number-ne0
returns-then-number-ne0 c = read_refused c.read_part-part.ensures c.if-number-ne0.true

pub returns : goal.returns
returns c = read_copied c.well_formed.0 c.read_part-part.ensures c.if-number-ne0.false c.if-out-part.false c.write_block.ensures
