-- One digit after another, until each block in use is alone or no bits are left of the handles.
use Prim.Native.Nat.{◌+◌}
use native.Mathlib.Omega.{arith}
use mathlib.Core.Path.{◌≡◌, sym, ◌∙◌}
use borrow.Author.Rules.{rules}
use Rattle.handles.specs.Handles.{digit_bits, digit_count, bits_below}
use Rattle.handles.proofs.Digits.{parted_turn, alone_distinct, parted_end}
use Rattle.handles.proofs.parting.parted.Goals as goal

pub returns-then-all_alone : goal.returns-then-all_alone
returns-then-all_alone c = let refined = c.refined-finer in
    let l = c.before.before.before.before.before.before in
    let s = l.before.before in
    let m = parted_turn l.loop-digit.invariant.0 refined.ensures in
    sym
    (alone_distinct s.args.handles.now refined.result (search rules) m.size s.requires m.same
    (sym c.all_alone.ensures ∙ c.if-all_alone.true))

pub loop-digit-preserved : goal.loop-digit-preserved
loop-digit-preserved c = let l = c.before.before.before.before.before.before in
    let next : bits_below l.loop-digit.digit + digit_bits ≡ bits_below (l.loop-digit.digit + 1) = omega arith in
    (rw next at (parted_turn l.loop-digit.invariant.0 c.refined-finer.ensures), search rules)

pub returns : goal.returns
returns c = let l = c.before.before.before in
    let s = l.before.before in
    let m = l.loop-digit.invariant.0 in
    let last : l.loop-digit.digit ≡ digit_count = omega arith in
    c.all_alone-2.ensures
    ∙ parted_end s.args.handles.now l.loop-digit.parts (search rules) m.size s.requires (rw last at m)
