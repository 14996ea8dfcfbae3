-- Row by row.
use Rattle.std.proofs.Common.{get_or, arith, rules, refl, ◌∙◌, get_or-set_other}
use Rattle.lists.proofs.Loops.{mapped_start, mapped_turn, mapped_end}
use Rattle.sheet.proofs.passes.remake.Goals as goal

pub loop-i-init : goal.loop-i-init
loop-i-init g c = (λ k h. refl, λ f gives. mapped_start _ _ _ refl)

pub anew-requires : goal.anew-requires
anew-requires g c =
    let same = c.loop-i.invariant.0 c.loop-i.i (omega arith) in rw same (c.requires.able c.loop-i.i (search rules))

pub loop-i-preserved : goal.loop-i-preserved
loop-i-preserved g c =
    let (still, so) = c.loop-i.invariant in (
      λ k h. get_or-set_other c.loop-i.units c.loop-i.i k _ 0 (omega arith) ∙ still k (omega arith),
      λ f gives. mapped_turn 0 _ (so f gives) (search rules) (gives (get_or c.args.clocks.now c.loop-i.i 0) (get_or c.loop-i.units c.loop-i.i 0) _ (search rules) (search rules) c.anew.ensures),
    )

pub returns : goal.returns
returns g c f gives = mapped_end (c.loop-i.invariant.1 f gives) (search rules)
