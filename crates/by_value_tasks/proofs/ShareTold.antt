-- What share promises: 15, 1, or the numbers by the record's shares and blocks.
use Prim.Native.Nat.{ℕ, ◌≤◌, ◌<◌}
use mathlib.Core.Bool.{Bool, true, false, true≢false, not}
use mathlib.Core.List.{List, [], ◌∷◌}
use mathlib.Core.Path.{◌≡◌, refl, sym, ◌∙◌, ap}
use Rattle.std.specs.Prelude.{Option, None, Some, is_some}
use borrow.Author.Tests.{le-ltb, lt-ltb}
use lib.Dec.{ltb}
use lib.ListN.{get_or}
use Rattle.ledger.specs.Limits.{task_count}
use Rattle.ledger.specs.Ledger.{Ledger}
use Rattle.ledger.specs.Numbers.{number_of}
use Rattle.ledger.specs.Objects.{no_share}
use Rattle.ledger.specs.Shares.{made}
use Rattle.ledger.specs.declared.Refusal.TheVariants.{NoSuchTask, NotWellFormed}
use Rattle.ledger.specs.declared.Share.{Share}
use Rattle.record.specs.Pools.{is_well_formed}
use Rattle.record.specs.Tables.{Tables, tables_by, tables_of}
use Rattle.record.specs.Reading as Reading
use Rattle.record.specs.declared.Pool.{Pool}
use Rattle.steps.proofs.Shares.{shares_alike, made_alike}
use Rattle.shares.specs.Holdings.{Holds, HoldsBoth}
use Rattle.shares.specs.declared.Holding.{Holding}
use Rattle.shares.specs.declared.Holdings.{Holdings}
use Rattle.fitness.specs.Fitness.{Fitness}
use Rattle.fitness.proofs.Found.{held_found}
use Rattle.record.proofs.ByValue.{fits_by_value}
use Rattle.by_value.specs.Entries.{share_shown, TellsShare}

-- of one store what the tasks made, as the ledger says
made_read : {t : Tables} {small large : List ℕ} {L : Ledger} → Reading.Reads t small large L → (store : Bool) {shares : List Share} {holding : Holding}
    → Holds store shares t.blocks holding → (task : ℕ) → task < task_count → get_or holding.made task 0 ≡ made store L.memory.objects task
made_read reads store held task l = held.so task l ∙ made_alike reads store task

-- the six numbers
abbrev numbers_of : Share → ℕ → ℕ → List ℕ
numbers_of own small large = small ∷ own.small.reserve ∷ own.small.limit ∷ large ∷ own.large.reserve ∷ own.large.limit ∷ []

shown_by : {t : Tables} {small large : List ℕ} {L : Ledger} → Reading.Reads t small large L → {holdings : Holdings} → HoldsBoth t.shares t.blocks holdings
    → (task : ℕ) → task < task_count
    → numbers_of (get_or t.shares task no_share) (get_or holdings.small.made task 0) (get_or holdings.large.made task 0) ≡ share_shown L.memory task
shown_by reads held task l = rw (made_read reads true held.small task l, made_read reads false held.large task l, shares_alike reads)

module _ (p : Pool) {found : Option Holdings} (told : Fitness p.head p.blocks p.expirations found) where
  fits : is_some found ≡ is_well_formed p
  fits = fits_by_value p told.fit

  pub none_shared : found ≡ None → {task : ℕ} {old : List ℕ} {number : ℕ} → number ≡ number_of NotWellFormed → TellsShare p task old number old
  none_shared t n =
      let unfit : is_well_formed p ≡ false = sym fits ∙ ap is_some t in
      record {
        unfit = λ f. (n, refl);
        unknown = λ f k. absurd (true≢false (sym f ∙ unfit));
        done = λ f k. absurd (true≢false (sym f ∙ unfit));
        tells = λ f k small large L r. absurd (true≢false (sym f ∙ unfit));
      }

  module _ {holdings : Holdings} (some : found ≡ Some holdings) where
    fit : is_well_formed p ≡ true
    fit = sym fits ∙ ap is_some some

    pub unknown_shared : {task : ℕ} → task_count ≤ task → {old : List ℕ} {number : ℕ} → number ≡ number_of NoSuchTask → TellsShare p task old number old
    unknown_shared {task} k n =
        let far : ltb task task_count ≡ false = le-ltb task task_count k in
        record {
          unfit = λ f. absurd (true≢false (sym fit ∙ f));
          unknown = λ f q. (n, refl);
          done = λ f q. absurd (true≢false (sym q ∙ far));
          tells = λ f q small large L r. absurd (true≢false (sym q ∙ far));
        }

    pub known_shared : {task : ℕ} → task < task_count → {old : List ℕ}
        → TellsShare p task old 0 (numbers_of (get_or p.head.shares task no_share) (get_or holdings.small.made task 0) (get_or holdings.large.made task 0))
    unfolding tables_of tables_by
    known_shared {task} k =
        let held = held_found told some in
        record {
          unfit = λ f. absurd (true≢false (sym fit ∙ f));
          unknown = λ f q. absurd (true≢false (sym (lt-ltb task task_count k) ∙ q));
          done = λ f q. refl;
          tells = λ f q small large L r. shown_by r held task k;
        }
