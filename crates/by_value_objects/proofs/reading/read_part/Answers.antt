-- By where the object is: why it is not found, or the part of its store.
use Rattle.by_value_objects.proofs.reading.read_part.Goals as goal

pub block_part-requires : goal.block_part-requires
block_part-requires c = c.locate.ensures.inside _ c.in-Ok.is
