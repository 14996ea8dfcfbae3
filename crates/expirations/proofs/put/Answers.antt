-- The entry in all columns.
use Rattle.expirations.proofs.Counting.{put_entry}
use Rattle.expirations.proofs.put.Goals as goal

pub returns : goal.returns
returns c = put_entry _ c.requires.0 c.requires.1
