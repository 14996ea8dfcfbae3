-- What awaited promises: 15, or the tasks by the record's entries.
use Prim.Native.Nat.{ℕ}
use mathlib.Core.Bool.{Bool, true, false, true≢false, not}
use mathlib.Core.List.{map}
use mathlib.Core.Path.{◌≡◌, refl, sym, ◌∙◌}
use borrow.Author.Tests.{not-true, not-false}
use Rattle.ledger.specs.Awaited.{awaited_of}
use Rattle.ledger.specs.Numbers.{number_of}
use Rattle.ledger.specs.declared.Refusal.TheVariants.{NotWellFormed}
use Rattle.record.specs.Codes.{task_of}
use Rattle.record.specs.Pools.{is_well_formed}
use Rattle.record.specs.declared.Pool.{Pool}
use Rattle.record.proofs.Awaited.{awaited_read}
use Rattle.by_value.specs.Entries.{TellsAwaited}

module _ {p : Pool} {fit : Bool} (f : fit ≡ is_well_formed p) where
  pub none_told : not fit ≡ true → {old number : ℕ} → number ≡ number_of NotWellFormed → TellsAwaited p old number old
  none_told t n =
      let unfit : is_well_formed p ≡ false = sym f ∙ not-true fit t in
      record {
        unfit = λ e. (n, refl);
        done = λ e. absurd (true≢false (sym e ∙ unfit));
        tells = λ e small large L r. absurd (true≢false (sym e ∙ unfit));
      }

  pub awaited_told : not fit ≡ false → {old new : ℕ} → new ≡ awaited_of (map task_of p.head.tasks) → TellsAwaited p old 0 new
  awaited_told t n =
      let fits : is_well_formed p ≡ true = sym f ∙ not-false fit t in
      record {
        unfit = λ e. absurd (true≢false (sym fits ∙ e));
        done = λ e. refl;
        tells = λ e small large L r. n ∙ awaited_read p L r;
      }
