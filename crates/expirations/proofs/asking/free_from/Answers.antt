-- A search for the first free entry, from a place up to which there is none.
use Rattle.std.proofs.Common.{rules, eq-eqb, ne_eqb}
use Rattle.lists.proofs.Loops.{first_turn, first_stop, first_end}
use Rattle.expirations.proofs.Counting.{is_free}
use Rattle.expirations.proofs.Places.{first_from_lem}
use Rattle.expirations.proofs.asking.free_from.Goals as goal

pub loop-i-init : goal.loop-i-init
loop-i-init c = first_from_lem is_free 0 _ (search rules) c.requires

pub returns-then-clocks-i-eq-FREE : goal.returns-then-clocks-i-eq-FREE
returns-then-clocks-i-eq-FREE c = first_stop is_free 0 c.loop-i.invariant (search rules) (eq-eqb _ _ c.if-clocks-i-eq-FREE.true)

pub loop-i-preserved : goal.loop-i-preserved
loop-i-preserved c = first_turn is_free 0 c.loop-i.invariant (search rules) (ne_eqb _ _ c.if-clocks-i-eq-FREE.false)

pub returns : goal.returns
returns c = first_end is_free c.loop-i.invariant (search rules)
