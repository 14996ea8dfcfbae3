-- Nothing is over, or both loops take it out.
use Prim.Native.Nat.{ℕ}
use native.Mathlib.Omega.{arith}
use mathlib.Core.List.{List}
use mathlib.Core.Path.{refl, sym, subst, ◌∙◌}
use Rattle.sheet.specs.Kept.{Counts}
use Rattle.sheet.proofs.Kept.{kept_all}
use Rattle.sheet.proofs.sweeping.sweep.Goals as goal

pub returns-then-not-any_over : goal.returns-then-not-any_over
returns-then-not-any_over c =
    let clear = sym c.any_over.ensures ∙ c.if-not-any_over.true in
    let us = c.args.units.now in
    record {
      compacts =
          record {
            within = omega arith;
            clocks_kept = sym (kept_all us _ c.requires.clocked clear);
            places_kept = sym (kept_all us _ c.requires.placed clear);
            units_kept = sym (kept_all us us refl clear);
          };
      counted = subst (λ (ps : List ℕ). Counts ps c.args.counts.now) (sym (kept_all us _ c.requires.placed clear)) c.requires.counted;
      counters = refl;
    }
