-- By the search of all blocks.
use native.Mathlib.Omega.{arith}
use lib.Seq.{take_all}
use Rattle.record.specs.Tables.{block_entries}
use Rattle.refusals.proofs.search.locate.Goals as goal

pub returns : goal.returns
returns c = rw (take_all block_entries c.args.handles.now (omega arith)) at c.first_with.ensures
