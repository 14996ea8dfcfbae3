-- Nothing is added where none names the block; else entry by entry.
use Rattle.record.specs.Tables.{group_size, expiration_list}
use Rattle.expirations.proofs.Longest.{Longest, units}
use Rattle.expirations.proofs.remaining.longest_in.Given as goal

abbrev pub invariant-loop-i : goal.invariant-loop-i
invariant-loop-i l = Longest l.q (expiration_list l.expirations) l.from group_size (units l.initial.local l.initial.global) l.i (units l.local l.global)
