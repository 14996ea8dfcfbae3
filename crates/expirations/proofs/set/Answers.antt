-- The entry made, and put into the first free one.
use Rattle.expirations.proofs.Counting.{free_within}
use Rattle.expirations.proofs.set.Goals as goal

pub put-requires : goal.put-requires
put-requires c = let pre = c.requires in
    let free = c.free_entry-at.ensures in
    (pre.0, free, free_within pre.0 pre.1 free)
