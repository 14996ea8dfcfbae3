-- Three passes, one after the other.
use Prim.Native.Nat.{ℕ, ◌≤◌}
use mathlib.Core.Path.{sym, ap, ap₂, subst, ◌∙◌}
use lib.ListN.{length}
use Rattle.lists.specs.Tests.{All}
use Rattle.lists.proofs.Tables.{length_map_from}
use Rattle.sheet.specs.Aged.{most_units, advanced_units}
use Rattle.sheet.proofs.PutOff.{spent_few, aged_size}
use Rattle.sheet.proofs.aging.age.Goals as goal

pub advance_all-requires : goal.advance_all-requires
advance_all-requires c =
    let a = c.args in (
      ap length c.desert_all.ensures ∙ aged_size a.p a.clocks.now ∙ c.requires.1
          ∙ sym (ap length c.spend.ensures ∙ length_map_from 0 _ a.units.now),
      subst (All (λ (u : ℕ). u ≤ most_units)) (sym c.spend.ensures) (spent_few a.p.task a.p.cost a.clocks.now a.units.now c.requires.2),
    )

pub returns : goal.returns
returns c =
    let a = c.args in
    (c.desert_all.ensures, c.advance_all.ensures ∙ ap₂ (advanced_units a.p.advanced a.tasks) c.desert_all.ensures c.spend.ensures)
