-- By the two ranges.
use Rattle.text.proofs.Digits.{digit_test}
use Rattle.text.proofs.hex.is_digit.Goals as goal

pub returns : goal.returns
returns c = digit_test _
