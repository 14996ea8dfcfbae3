-- One digit after another, until each block in use is alone or no bits are left of the handles.
use Prim.Native.Nat.{◌≤◌}
use Rattle.handles.specs.Handles.{digit_count, bits_below}
use Rattle.handles.proofs.Digits.{Parted}
use Rattle.handles.proofs.parting.parted.Given as goal

abbrev pub invariant-loop-digit : goal.invariant-loop-digit
invariant-loop-digit l = Parted l.handles (bits_below l.digit) l.parts × (l.digit ≤ digit_count)
