-- By the test of the line.
use mathlib.Core.Path.{sym, ◌∙◌}
use Rattle.frames.specs.Frames.{frame_of}
use Rattle.frames.proofs.requests.frame_of.Goals as goal

pub returns-then-is_hex : goal.returns-then-is_hex
unfolding frame_of
returns-then-is_hex c = rw (sym c.is_hex.ensures ∙ c.if-is_hex.true) c.frame_in.ensures

pub returns-else-is_hex : goal.returns-else-is_hex
unfolding frame_of
returns-else-is_hex c = rw (sym c.is_hex.ensures ∙ c.if-is_hex.false)
