-- Nothing to set where none is pinned; else entry by entry.
use Rattle.std.proofs.Common.{◌+◌, sym, refl, ◌∙◌, arith, eq-eqb, ne_eqb, rules}
use Rattle.lists.proofs.Folds.{all_part}
use Rattle.record.specs.Tables.{group_size}
use Rattle.fitness.specs.Checks.{SizedCodes}
use Rattle.fitness.specs.Pins.{is_unpinned}
use Rattle.fitness.proofs.Once.{pins_none, pins_kept, pins_turn}
use Rattle.fitness.proofs.pins.pin_in.Goals as goal
use Rattle.fitness.proofs.pins.pin_in.Goals.{then-clocks-i-eq-PINNED, else-clocks-i-eq-PINNED}

pub returns-then-none_pinned : goal.returns-then-none_pinned
returns-then-none_pinned c =
    pins_none (record { of_clocks = search rules; of_named = search rules }) c.requires.0 c.requires.1
    (sym (all_part is_unpinned c.args.from (c.args.from + group_size) c.args.clocks.now _ (omega arith) c.none_pinned.ensures) ∙ c.if-none_pinned.true)

pub loop-i-preserved : goal.loop-i-preserved
loop-i-preserved c =
    let sized : SizedCodes c.args.clocks.now c.args.named.now = record { of_clocks = search rules; of_named = search rules } in (
      omega arith,
      elim c.if-clocks-i-eq-PINNED.branch [
        | then-clocks-i-eq-PINNED w ↦ rw (w.flags-is, w.once-is)
            (pins_turn sized c.loop-i.invariant.1 (omega arith) (eq-eqb _ _ w.if-clocks-i-eq-PINNED.true) refl (search rules))
        | else-clocks-i-eq-PINNED w ↦ rw (w.flags-is, w.once-is)
            (pins_kept sized c.loop-i.invariant.1 (omega arith) (ne_eqb _ _ w.if-clocks-i-eq-PINNED.false))
      ],
    )
