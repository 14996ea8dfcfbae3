-- Each figure is a byte.
use Prim.Native.Nat.{◌<◌}
use native.Mathlib.Nat.{mod-eq_of_lt}
use borrow.Author.Rules.{rules}
use Rattle.answers.specs.Answers.{values_in}
use Rattle.answers.proofs.lasts.Goals as goal

pub returns : goal.returns
unfolding values_in
returns c = let life = c.args.life in
    let local : life.local < 256 = search rules in
    let global : life.global < 256 = search rules in
    rw (mod-eq_of_lt local, mod-eq_of_lt global)
