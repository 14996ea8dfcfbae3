-- By what the time one unit later is.
use Rattle.fitness.proofs.times.next_local.Goals as goal

pub returns : goal.returns
returns c = rw c.after.ensures
