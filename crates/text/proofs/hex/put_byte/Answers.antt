-- The two digits stand one after the other.
use Rattle.text.proofs.Puts.{puts_byte}
use Rattle.text.proofs.hex.put_byte.Goals as goal

pub returns : goal.returns
returns c = rw (c.digit_for.ensures, c.digit_for-2.ensures) (puts_byte _ _ _ c.requires)
