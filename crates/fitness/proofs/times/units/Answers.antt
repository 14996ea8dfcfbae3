-- The units of the first tasks stand at both their codes.
use Rattle.std.proofs.Common.{◌≡◌, ◌≤◌, true, refl, arith, rules}
use Rattle.ledger.specs.Limits.{is_allowed}
use Rattle.ledger.specs.declared.Limits.{Limits}
use Rattle.ledger.proofs.Figures.{allowed}
use Rattle.shares.proofs.Clear.{fit_state}
use Rattle.fitness.proofs.Within.{units_turn, units_end}
use Rattle.fitness.proofs.times.units.Goals as goal

most : (limits : Limits) → is_allowed limits ≡ true → limits.extension ≤ 30
most limits e = (allowed limits e).most_extension_lem

pub overflow_cast-local : goal.overflow_cast-local
overflow_cast-local c = omega (arith, most _ c.requires.0)

pub overflow_add-local : goal.overflow_add-local
overflow_add-local c = omega (arith, most _ c.requires.0)

pub overflow_cast-global : goal.overflow_cast-global
overflow_cast-global c = omega (arith, most _ c.requires.0)

pub overflow_add-global : goal.overflow_add-global
overflow_add-global c = omega (arith, most _ c.requires.0)

pub units_of-requires : goal.units_of-requires
units_of-requires c = let s = c.before.before.before.before.before in (fit_state s.args.tasks c.loop-i.i s.requires.1, omega (arith, most _ s.requires.0))

pub units_of-requires-in-loop-i : goal.units_of-requires-in-loop-i
units_of-requires-in-loop-i c = let s = c.before.before.before.before.before.before in (fit_state s.args.tasks c.loop-i.i s.requires.1, omega (arith, most _ s.requires.0))

pub loop-i-preserved : goal.loop-i-preserved
loop-i-preserved c = rw (c.units_of.ensures, c.units_of-in-loop-i.ensures) (units_turn c.loop-i.invariant (search rules))

pub returns : goal.returns
returns c = units_end c.loop-i.invariant _ refl refl (search rules)
