-- 15, 14, or the make itself.
use mathlib.Core.Path.{refl}
use Rattle.ledger.specs.declared.Call.TheVariants.{Make}
use Rattle.ledger.specs.declared.Request.TheVariants.{Use}
use Rattle.shares.proofs.Either.{held_in}
use Rattle.ledger.specs.Limits.{is_small}
use Rattle.fitness.proofs.Found.{held_found}
use Rattle.tested.proofs.Tested.{unfit_made, wrong_made, ready_lent, none_found, some_found}
use Rattle.tested.proofs.make.Goals as goal

pub returns-in_default : goal.returns-in_default
returns-in_default c = rw c.refused.ensures (unfit_made c.requires c.fitness_of.ensures.fit (none_found c.in_default.is))

pub returns-then-not-are_whole : goal.returns-then-not-are_whole
returns-then-not-are_whole c = rw c.refused-then-not-are_whole.ensures (wrong_made c.requires c.fitness_of.ensures.fit (some_found c.in-Some.is) c.are_whole.ensures (rw c.if-not-are_whole.true))

pub make-requires : goal.make-requires
make-requires c = let told = c.fitness_of.ensures in
    let some = c.in-Some.is in (
      c.requires,
      ready_lent c.requires told.fit (some_found some) c.are_whole.ensures (Use (Make _ _ _ _ _)) refl (rw c.if-not-are_whole.false),
      rw c.of_store-holding.ensures (held_in (held_found told some) (is_small c.args.size)),
    )
