-- Clock by clock.
use Rattle.std.proofs.Common.{◌≤◌}
use Rattle.record.specs.Tables.{expiration_entries}
use Rattle.endings.specs.Unpinning.{unpinned_at}
use Rattle.expirations.specs.Places.{Changed}
use Rattle.endings.proofs.unpinning.unpin.Given as goal

abbrev pub invariant-loop-i : goal.invariant-loop-i
invariant-loop-i l = (l.i ≤ expiration_entries) × Changed 0 (unpinned_at l.block l.named) 0 l.i l.initial.clocks l.clocks
