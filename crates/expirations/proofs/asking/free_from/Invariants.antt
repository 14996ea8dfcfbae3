-- A search for the first free entry, from a place up to which there is none.
use Rattle.lists.specs.Tables.{first_from}
use Rattle.lists.proofs.Loops.{Scanned}
use Rattle.record.specs.Tables.{expiration_entries}
use Rattle.expirations.specs.Standing.{free_in}
use Rattle.expirations.proofs.Counting.{is_free}
use Rattle.expirations.proofs.asking.free_from.Given as goal

abbrev pub invariant-loop-i : goal.invariant-loop-i
invariant-loop-i l = Scanned (free_in l.clocks) l.clocks expiration_entries l.i (first_from l.i is_free)
