-- Nothing changes where none goes by the global time; else number by number.
use Rattle.std.proofs.Common.{◌≤◌}
use Rattle.endings.specs.Late.{put_off_by}
use Rattle.expirations.specs.Places.{Changed}
use Rattle.endings.proofs.late.put_off_in.Given as goal

abbrev pub invariant-loop-i : goal.invariant-loop-i
invariant-loop-i l = (l.i ≤ l.i-end) × Changed 0 (put_off_by l.flags l.clocks) l.from l.i l.initial.dues l.dues
