-- By what the time one unit later is.
use Rattle.fitness.proofs.times.next_global.Goals as goal

pub returns : goal.returns
returns c = rw c.after.ensures
