-- The flags of the bytes before the rest, and of the first ones of a group.
use Rattle.std.proofs.Common.{◌≡◌, ◌%◌, ◌++◌, length, drop}
use Rattle.fitness.proofs.Marks.{MarksLeft}
use Rattle.fitness.proofs.codes.marks.Given as goal

abbrev pub invariant-loop-eight : goal.invariant-loop-eight
invariant-loop-eight l = let rest = l.eight-iterator.rest.now in
    (l.eight-iterator.size ≡ 8) × (length rest % 8 ≡ 0) × MarksLeft l.bytes rest l.out

abbrev pub decreases-loop-eight : goal.decreases-loop-eight
decreases-loop-eight l = length l.eight-iterator.rest.now

abbrev pub invariant-loop-byte : goal.invariant-loop-byte
invariant-loop-byte l = let rest = l.eight-iterator.rest.now in
    (l.eight-iterator.size ≡ 8) × (length rest % 8 ≡ 0) × MarksLeft l.bytes (drop l.byte-index l.eight ++ rest) l.out
