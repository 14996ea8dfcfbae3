-- Sixteen at a time while none of them is free, then the search from there.
use Rattle.std.proofs.Common.{◌-◌}
use Rattle.lists.specs.Tables.{first_from}
use Rattle.lists.proofs.Loops.{Scanned}
use Rattle.record.specs.Tables.{expiration_entries}
use Rattle.expirations.specs.Standing.{free_in}
use Rattle.expirations.proofs.Counting.{is_free}
use Rattle.expirations.proofs.asking.free_entry.Given as goal

abbrev pub invariant-loop-n : goal.invariant-loop-n
invariant-loop-n l = Scanned (free_in l.clocks) l.clocks expiration_entries l.n (first_from l.n is_free)

abbrev pub decreases-loop-n : goal.decreases-loop-n
decreases-loop-n l = expiration_entries - l.n
