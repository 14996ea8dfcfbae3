-- By the widths of the fields.
use Prim.Native.Nat.{◌<◌}
use native.Mathlib.Nat.{mod-eq_of_lt}
use borrow.Author.Rules.{rules}
use Rattle.answers.specs.Answers.{values_in}
use Rattle.answers.proofs.counts.Goals as goal

pub returns : goal.returns
unfolding values_in
returns c = let usage = c.args.usage in
    let small : usage.small < 256 = search rules in
    let large : usage.large < 256 = search rules in
    rw (c.to_be_bytes-dates.ensures, c.word-given.ensures, mod-eq_of_lt small, mod-eq_of_lt large)
