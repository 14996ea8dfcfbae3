-- By the two bounds of the size.
use Prim.Native.Nat.{◌-◌, ◌/◌}
use native.Mathlib.Omega.{arith}
use mathlib.Core.Path.{refl}
use borrow.Author.Tests.{le-leb, lt-leb}
use lib.ListN.{length}
use Rattle.ledger.specs.Limits.{large_size}
use Rattle.frames.specs.Frames.{write}
use Rattle.frames.proofs.Frames.{too_short_lem, wrong_tail, of_size, wrong_size, right_size}
use Rattle.frames.proofs.requests.write.Goals as goal
use Rattle.frames.proofs.requests.write.Goals.{then-size-lt-WRITE_HEAD-via-then-size-lt-WRITE_HEAD, then-size-lt-WRITE_HEAD-via-else-size-lt-WRITE_HEAD+then-size-gt-LONGEST_WRITE}

pub returns-then-size-lt-WRITE_HEAD : goal.returns-then-size-lt-WRITE_HEAD
returns-then-size-lt-WRITE_HEAD c = let line = c.args.line.now in
    wrong_size write line (elim c.then-size-lt-WRITE_HEAD.branch [
      | then-size-lt-WRITE_HEAD-via-then-size-lt-WRITE_HEAD w ↦ too_short_lem write _ w.if-size-lt-WRITE_HEAD.true
      | then-size-lt-WRITE_HEAD-via-else-size-lt-WRITE_HEAD+then-size-gt-LONGEST_WRITE w ↦
          wrong_tail write (length line / 2) (lt-leb (length line / 2 - 7) large_size (omega (arith, w.if-size-gt-LONGEST_WRITE.true)))
    ])

pub returns : goal.returns
returns c = let line = c.args.line.now in
    right_size write line
    (of_size write (length line / 2) c.if-size-lt-WRITE_HEAD.false (le-leb (length line / 2 - 7) large_size (omega (arith, c.if-size-gt-LONGEST_WRITE.false))))
    (rw (c.byte_at-task.ensures, c.word_at-handle.ensures, c.byte_at-offset.ensures))
    refl
