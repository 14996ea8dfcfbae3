-- Nothing changes where the task does not leave; else clock by clock.
use Rattle.std.proofs.Common.{◌≤◌}
use Rattle.record.specs.Tables.{expiration_entries}
use Rattle.endings.specs.Late.{deserted_at}
use Rattle.expirations.specs.Places.{Changed}
use Rattle.endings.proofs.late.desert.Given as goal

abbrev pub invariant-loop-clock : goal.invariant-loop-clock
invariant-loop-clock l = (l.clock-index ≤ expiration_entries) × Changed 0 (deserted_at l.t) 0 l.clock-index l.initial.clocks l.clocks
