-- Byte by byte, to the end of the range.
use Rattle.std.proofs.Common.{◌≤◌}
use Rattle.expirations.specs.Places.{SomeBetween}
use Rattle.expirations.specs.Standing.{is_byte_at}
use Rattle.expirations.proofs.asking.has_byte.Given as goal

abbrev pub invariant-loop-i : goal.invariant-loop-i
invariant-loop-i l = (l.i ≤ l.to) × SomeBetween (is_byte_at l.byte l.column) l.from l.i l.some
