-- The loop copies the digits, two a turn.
use Prim.Native.Nat.{◌*◌}
use lib.ListN.{length}
use Rattle.lists.proofs.Copies.{Copied}
use Rattle.text.specs.Hex.{hex_of}
use Rattle.text.proofs.hex.spell_out.Given as goal

abbrev pub invariant-loop-i : goal.invariant-loop-i
invariant-loop-i l = Copied (hex_of l.bytes) l.initial.part (2 * length l.bytes) (2 * l.i) l.part
