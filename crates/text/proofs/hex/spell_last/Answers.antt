-- The line's last pairs spell its last bytes, where there are any.
use borrow.Author.Rules.{rules}
use Rattle.text.proofs.Pairs.{last_spelled, last_none}
use Rattle.text.proofs.hex.spell_last.Goals as goal

pub returns-then-is_empty : goal.returns-then-is_empty
returns-then-is_empty c = last_none c.args.line.now _ (search rules)

pub returns : goal.returns
returns c = let called = c.before.before in
    let joined = called.before.before.before in
    last_spelled joined.requires.0 joined.pairs-pairs.ensures called.spell.ensures
