-- The loop copies the digits, two a turn.
use mathlib.Core.Path.{sym, ◌∙◌}
use borrow.Author.Rules.{rules}
use Rattle.lists.proofs.Copies.{copied_start, copied_turn}
use Rattle.text.proofs.Digits.{length_hex, high_digit, low_digit, next_pair}
use Rattle.text.proofs.hex.spell_out.Goals as goal

pub loop-i-init : goal.loop-i-init
loop-i-init c = copied_start _ _ _ (length_hex c.args.bytes.now) c.requires

pub loop-i-preserved : goal.loop-i-preserved
loop-i-preserved c = let at = c.loop-i in
    let bytes = c.args.bytes.now in
    let high = copied_turn _ 0 at.invariant (search rules) (c.digit_for.ensures ∙ sym (high_digit bytes at.i (search rules))) in
    rw (next_pair at.i) (copied_turn _ 0 high (search rules) (c.digit_for-in-loop-i.ensures ∙ sym (low_digit bytes at.i (search rules))))
