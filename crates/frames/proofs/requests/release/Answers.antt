-- By the size.
use mathlib.Core.Path.{refl}
use borrow.Author.Rules.{rules}
use Rattle.frames.specs.Frames.{release}
use Rattle.frames.proofs.Frames.{other_size, own_size}
use Rattle.frames.proofs.requests.release.Goals as goal

pub returns-in_err-sized : goal.returns-in_err-sized
returns-in_err-sized c = other_size release c.args.line.now refl (search rules) (search rules)

pub returns : goal.returns
returns c = own_size release c.args.line.now refl (search rules) (rw (c.byte_at-task.ensures, c.word_at-handle.ensures))
