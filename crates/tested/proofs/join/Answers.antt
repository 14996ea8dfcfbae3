-- 15, or the join itself.
use Rattle.fitness.proofs.Found.{held_found}
use Rattle.tested.proofs.Tested.{unfit_lent, fit_alone, none_found, some_found}
use Rattle.tested.proofs.join.Goals as goal

pub returns-in_default : goal.returns-in_default
returns-in_default c = rw c.refused.ensures (unfit_lent c.requires c.fitness_of.ensures.fit (none_found c.in_default.is)).1

pub returns : goal.returns
returns c = let told = c.fitness_of.ensures in
    fit_alone c.requires told.fit (some_found c.in-Some.is) c.join.ensures.0 (held_found told c.in-Some.is)
