-- Flag by flag.
use Rattle.std.proofs.Common.{◌≡◌, ℕ, ◌+◌, ◌-◌, eqb, get_or, drop, sym, ap, ◌∙◌, arith, get_or-drop, get_or-take, rules}
use Rattle.record.specs.Tables.{group_size}
use Rattle.expirations.proofs.Flags.{marks_turn}
use Rattle.expirations.proofs.naming.mark_in.Goals as goal

pub loop-slot-preserved : goal.loop-slot-preserved
loop-slot-preserved c =
    let at = c.args.from + c.loop-slot.slot-index in
    let slot : c.place_for.result ≡ get_or c.args.slots.now at 0
    = c.place_for.ensures.so ∙ get_or-take (c.args.from + group_size - c.args.from) (drop c.args.from c.args.slots.now) c.loop-slot.slot-index 0 (search rules)
    ∙ get_or-drop c.args.from c.args.slots.now c.loop-slot.slot-index 0 in
    let next : at + 1 ≡ c.args.from + (c.loop-slot.slot-index + 1) = omega arith in
    (search rules, rw next at (marks_turn c.loop-slot.invariant.1 c.place_for.result (λ block. ap (λ (n : ℕ). eqb n block) (sym slot))))
