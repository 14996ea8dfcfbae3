-- The tests of 15 and 14 before a call, on the columns of a record by value or lent.
use Rattle.record.specs.declared.ExpirationTable.{ExpirationTable}
use Rattle.record.specs.declared.BlockTable.{BlockTable}
use Prim.Native.Nat.{ℕ}
use Rattle.std.specs.Prelude.{Option, None, Some, is_some}
use mathlib.Core.Bool.{Bool, true, false, true≢false, not}
use mathlib.Core.List.{List}
use mathlib.Core.Path.{◌≡◌, refl, sym, ◌∙◌}
use borrow.Author.Tests.{not-true, not-false}
use lib.ListN.{length}
use Rattle.ledger.specs.Objects.{plain}
use Rattle.ledger.specs.declared.Answer.{Answer}
use Rattle.ledger.specs.declared.Answer.TheVariants.{Refused}
use Rattle.ledger.specs.declared.Kind.{Kind}
use Rattle.ledger.specs.declared.Refusal.TheVariants.{NotWellFormed, WrongStoreLength}
use Rattle.ledger.specs.declared.Request.{Request}
use Rattle.record.specs.Tables.{BlockEntry, Sized, lent, pooled, block_list, BlocksSized, EntriesSized}
use Rattle.record.specs.WellFormed as WellFormed
use Rattle.record.specs.Pools.{is_well_formed}
use Rattle.record.specs.declared.Head.{Head}
use Rattle.record.specs.declared.Pool.{Pool}
use Rattle.stores.specs.Lengths.{TellsWhole}
use Rattle.calls.specs.Contract.{is_stored, Ready, Obeys, FollowsWith, Follows, Makes, Writes}
use Rattle.calls.specs.Engine.{FollowsBeside, FollowsAlone}
use Rattle.calls.specs.Served.{without_bytes, Serves}
use Rattle.calls.proofs.Promises.{unfit_obeys, wrong_obeys, ready}
use Rattle.calls.proofs.Served.{refused_serves}
use Rattle.dispatch.specs.Needs.{HoldsFor}
use Rattle.dispatch.proofs.Asking.{holds_for}
use Rattle.record.proofs.ByValue.{fits_by_value}
use Rattle.shares.specs.declared.Holdings.{Holdings}
use Rattle.fitness.specs.Fitness.{Fitness}
use Rattle.fitness.proofs.Found.{held_found}

-- 15, by the test of the columns
module _ (p : Pool) {fit : Bool} (f : fit ≡ WellFormed.is_well_formed (lent p.head p.blocks p.expirations)) where
  pub unfit_by_value : {request : Request} {new : List ℕ} → not fit ≡ true → (small large : List ℕ) → Obeys request new p small large (plain (Refused NotWellFormed)) p small large
  unfit_by_value refused small large = unfit_obeys _ _ _ small large (sym (fits_by_value p f) ∙ not-true fit refused)

  pub fit_by_value : not fit ≡ false → is_well_formed p ≡ true
  fit_by_value passed = sym (fits_by_value p f) ∙ not-false fit passed

pub lent_fit : (h : Head) (blocks : BlockTable) (expirations : ExpirationTable) {fit : Bool} → fit ≡ WellFormed.is_well_formed (lent h blocks expirations) → not fit ≡ false
    → is_well_formed (pooled h blocks expirations) ≡ true
lent_fit h blocks expirations f passed = fit_by_value (pooled h blocks expirations) f passed

-- whether holdings were found
pub none_found : {found : Option Holdings} → found ≡ None → not (is_some found) ≡ true
none_found e = rw e

pub some_found : {found : Option Holdings} {holdings : Holdings} → found ≡ Some holdings → not (is_some found) ≡ false
some_found e = rw e

-- on lent columns: 15,
module _ {h : Head} {blocks : BlockTable} {expirations : ExpirationTable} (sized : Sized blocks expirations) {fit : Bool} (f : fit ≡ WellFormed.is_well_formed (lent h blocks expirations)) where
  pub unfit_lent : {request : Request} {new : List ℕ} → not fit ≡ true
      → Sized blocks expirations × FollowsWith request new (pooled h blocks expirations) (Refused NotWellFormed) (pooled h blocks expirations)
  unfit_lent refused = (sized, unfit_by_value (pooled h blocks expirations) f refused)

  pub unfit_entries : {request : Request} {new : List ℕ} → not fit ≡ true
      → EntriesSized expirations × FollowsWith request new (pooled h blocks expirations) (Refused NotWellFormed) (pooled h blocks expirations)
  unfit_entries refused = (sized.entries, unfit_by_value (pooled h blocks expirations) f refused)

  pub unfit_made : {task : ℕ} {kind : Kind} {extension size prefix : ℕ} {small large : List ℕ} → not fit ≡ true
      → Sized blocks expirations
      × Makes task kind extension size prefix (pooled h blocks expirations) small large (Refused NotWellFormed) (pooled h blocks expirations) small large
  unfit_made refused = (sized, unfit_by_value (pooled h blocks expirations) f refused _ _)

  pub unfit_written : {task handle offset : ℕ} {new small large : List ℕ} → not fit ≡ true
      → BlocksSized blocks
      × Writes task handle offset new (pooled h blocks expirations) small large (Refused NotWellFormed) (pooled h blocks expirations) small large
  unfit_written refused = (sized.blocks, unfit_by_value (pooled h blocks expirations) f refused _ _)

  module _ (passed : not fit ≡ false) where
    -- an event
    pub fit_lent : {request : Request} {answer : Answer} {h' : Head} {blocks' : BlockTable} {expirations' : ExpirationTable} → FollowsBeside request h blocks expirations answer h' blocks' expirations'
        → Sized blocks' expirations' × Follows request (pooled h blocks expirations) answer (pooled h' blocks' expirations')
    fit_lent done = (done.sized, done.follows (lent_fit h blocks expirations f passed))

    -- a call that changes the head alone
    pub fit_alone : {Known : List BlockEntry → Type 0} {request : Request} {answer : Answer} {h' : Head} → FollowsAlone Known request h answer h'
        → Known (block_list blocks) → Follows request (pooled h blocks expirations) answer (pooled h' blocks expirations)
    fit_alone done known = done.follows blocks expirations sized known (lent_fit h blocks expirations f passed)

    -- 14, where a store is touched
    module _ {small large : List ℕ} {whole : Bool} (tells : TellsWhole h.limits (length small) (length large) whole) where
      pub ready_lent : (request : Request) → true ≡ is_stored request → not whole ≡ false → Ready request (pooled h blocks expirations) small large
      ready_lent request stored passed-too = ready (fits_by_value (pooled h blocks expirations) f) passed stored tells passed-too

      pub wrong_lent : {request : Request} {new : List ℕ} → true ≡ is_stored request → not whole ≡ true
          → Obeys request new (pooled h blocks expirations) small large (plain (Refused WrongStoreLength)) (pooled h blocks expirations) small large
      wrong_lent stored refused = wrong_obeys (fits_by_value (pooled h blocks expirations) f) passed stored tells refused

      pub wrong_made : {task : ℕ} {kind : Kind} {extension size prefix : ℕ} → not whole ≡ true
          → Sized blocks expirations
          × Makes task kind extension size prefix (pooled h blocks expirations) small large (Refused WrongStoreLength) (pooled h blocks expirations) small large
      wrong_made refused = (sized, wrong_lent refl refused)

      pub wrong_written : {task handle offset : ℕ} {new : List ℕ} → not whole ≡ true
          → BlocksSized blocks
          × Writes task handle offset new (pooled h blocks expirations) small large (Refused WrongStoreLength) (pooled h blocks expirations) small large
      wrong_written refused = (sized.blocks, wrong_lent refl refused)

-- any call, by its request
module _ {h : Head} {blocks : BlockTable} {expirations : ExpirationTable} (sized : Sized blocks expirations) {found : Option Holdings} (f : Fitness h blocks expirations found)
    {request : Request} {small large : List ℕ} where
  pub unfit_served : {new : List ℕ} → found ≡ None
      → Sized blocks expirations
      × Serves request new (pooled h blocks expirations) small large (without_bytes (Refused NotWellFormed) (pooled h blocks expirations)) small large
  unfit_served refused = (sized, refused_serves ((unfit_lent sized f.fit (none_found refused)).1 small large))

  module _ {holdings : Holdings} (some : found ≡ Some holdings) {stored : Bool} (s : stored ≡ is_stored request) where
    -- one that touches no store
    pub bare_ready : not stored ≡ true → Ready request (pooled h blocks expirations) small large
    bare_ready bare =
        record {
          fit = lent_fit h blocks expirations f.fit (some_found some);
          whole = λ touches. absurd (true≢false (sym touches ∙ sym s ∙ not-true stored bare));
        }

    -- one that does
    module _ (touches : not stored ≡ false) {whole : Bool} (tells : TellsWhole h.limits (length small) (length large) whole) where
      pub wrong_served : {new : List ℕ} → not whole ≡ true
          → Sized blocks expirations
          × Serves request new (pooled h blocks expirations) small large (without_bytes (Refused WrongStoreLength) (pooled h blocks expirations)) small large
      wrong_served wrong = (sized, refused_serves (wrong_lent sized f.fit (some_found some) tells (sym (not-false stored touches) ∙ s) wrong))

      pub stored_ready : not whole ≡ false → Ready request (pooled h blocks expirations) small large
      stored_ready right = ready_lent sized f.fit (some_found some) tells request (sym (not-false stored touches) ∙ s) right

-- past 15, the holdings are what any call asks for
pub lent_holds : {h : Head} {blocks : BlockTable} {expirations : ExpirationTable} {found : Option Holdings} {holdings : Holdings} → Fitness h blocks expirations found → found ≡ Some holdings
    → (request : Request) → HoldsFor request h.shares (block_list blocks) holdings
lent_holds f some request = holds_for (held_found f some) request
