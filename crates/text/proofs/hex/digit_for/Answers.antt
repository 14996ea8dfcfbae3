-- By the one test.
use native.Mathlib.Omega.{arith}
use borrow.Author.Tests.{lt-ltb, le-ltb}
use Rattle.text.specs.Hex.{digit_for}
use Rattle.text.proofs.hex.digit_for.Goals as goal

pub returns-then-value-lt10 : goal.returns-then-value-lt10
unfolding digit_for
returns-then-value-lt10 c = rw (lt-ltb _ _ c.if-value-lt10.true)

pub returns-else-value-lt10 : goal.returns-else-value-lt10
unfolding digit_for
returns-else-value-lt10 c = rw (le-ltb _ _ c.if-value-lt10.false) (omega arith)
