-- A count of the blocks from one place to before another.
use Rattle.std.proofs.Common.{◌+◌, length}
use Rattle.lists.specs.Tests.{count}
use Rattle.lists.proofs.Loops.{Scanned}
use Rattle.objects.specs.Usage.{is_given}
use Rattle.objects.proofs.report.used_blocks.Given as goal

abbrev pub invariant-loop-handle : goal.invariant-loop-handle
invariant-loop-handle l = Scanned (count is_given l.handle-items) l.handle-items (length l.handle-items) l.handle-index (λ ys. l.n + count is_given ys)
