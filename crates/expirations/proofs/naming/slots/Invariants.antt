-- The flag of each entry.
use Rattle.std.proofs.Common.{◌≡◌, get_or}
use Rattle.lists.specs.Filled.{Filled}
use Rattle.record.specs.Tables.{expiration_entries}
use Rattle.expirations.specs.Naming.{named_slot}
use Rattle.expirations.proofs.naming.slots.Given as goal

abbrev pub invariant-loop-i : goal.invariant-loop-i
invariant-loop-i l = Filled 0 (λ k x. x ≡ named_slot (get_or l.clocks k 0) (get_or l.named k 0)) expiration_entries l.i l.slot-items
