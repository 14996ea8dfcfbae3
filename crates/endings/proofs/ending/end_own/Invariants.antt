-- Clock by clock.
use Rattle.std.proofs.Common.{◌≤◌}
use Rattle.record.specs.Tables.{expiration_entries}
use Rattle.endings.specs.Ending.{is_own_at, EndedBy}
use Rattle.endings.proofs.ending.end_own.Given as goal

abbrev pub invariant-loop-clock : goal.invariant-loop-clock
invariant-loop-clock l = (l.clock-index ≤ expiration_entries) × EndedBy (is_own_at l.own) 0 l.clock-index l.initial.clocks l.clocks l.some
