-- A search for the first block of a range with this handle, a group at a time while none of the group has it.
use Prim.Native.Nat.{◌+◌}
use native.Mathlib.Omega.{arith}
use mathlib.Core.Path.{sym, ◌∙◌}
use borrow.Author.Rules.{rules}
use borrow.Author.Tests.{eq-eqb}
use Rattle.lists.proofs.Loops.{first_stop}
use Rattle.refusals.proofs.Searching.{is_of, some_of, first_past_group}
use Rattle.refusals.proofs.search.first_with.Goals as goal

pub loop-n-preserved : goal.loop-n-preserved
loop-n-preserved c = let l = c.loop-n in
    first_past_group (is_of _) (l.n + 8) l.invariant (omega arith) (search rules) (sym (some_of _ l.n (l.n + 8) _ _ (omega arith) c.is_among.ensures) ∙ c.if-not-is_among.true)

pub returns-then-handles-i : goal.returns-then-handles-i
returns-then-handles-i c = first_stop (is_of _) 0 c.loop-i.invariant (search rules) (eq-eqb _ _ c.if-handles-i.true)
