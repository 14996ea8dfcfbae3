-- Two counts, each no more than the turns.
use Rattle.std.proofs.Common.{length}
use Rattle.sheet.specs.Setting.{small_in, large_in}
use Rattle.sheet.proofs.Set.{Tally}
use Rattle.sheet.proofs.setting.standing.Given as goal

abbrev pub invariant-loop-i : goal.invariant-loop-i
invariant-loop-i l = Tally (small_in l.smalls l.counts) (length l.counts) l.i l.small × Tally (large_in l.smalls l.counts) (length l.counts) l.i l.large
