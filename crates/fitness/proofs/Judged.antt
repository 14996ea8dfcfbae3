-- The verdict on the whole record, by its parts.
use Rattle.record.specs.declared.ExpirationTable.{ExpirationTable}
use Rattle.record.specs.declared.BlockTable.{BlockTable}
use Rattle.std.proofs.Common.{◌≡◌, Bool, true, false, ◌&&◌, List, sym, ◌∙◌, Some, None, rules}
use mathlib.Core.Bool.{and-false}
use Rattle.ledger.specs.Limits.{is_allowed}
use Rattle.record.specs.Tables.{lent, tables_by, block_list, expiration_list}
use Rattle.record.specs.WellFormed.{is_consistent, is_bounded, is_well_formed}
use Rattle.record.specs.declared.Head.{Head}
use Rattle.handles.specs.Handles.{UsedIn}
use Rattle.shares.specs.Holdings.{LengthsFit, HoldsBoth, TellsSharing}
use Rattle.shares.specs.declared.Holdings.{Holdings}
use Rattle.shares.specs.declared.Sharing.{Sharing}
use Rattle.shares.proofs.Placing.{placed_consistent}
use Rattle.fitness.specs.Fitness.{Fitness}

module _ (h : Head) (blocks : BlockTable) (expirations : ExpirationTable) where
  -- not well-formed, and so without holdings
  unfit : is_well_formed (lent h blocks expirations) ≡ false → Fitness h blocks expirations None
  unfit e = record { fit = sym e; held = search rules }

  pub not_allowed : is_allowed h.limits ≡ false → Fitness h blocks expirations None
  unfolding is_well_formed tables_by
  not_allowed e = unfit (rw (e, and-false))

  pub not_consistent : is_consistent (lent h blocks expirations) ≡ false → Fitness h blocks expirations None
  unfolding is_well_formed
  not_consistent e = unfit (rw e)

  -- past these, W3 holds
  placed : is_consistent (lent h blocks expirations) ≡ true → LengthsFit (block_list blocks)
  unfolding tables_by
  placed e = placed_consistent (lent h blocks expirations) e

  pub judged : {used : List Bool} {bounded : Bool} {sharing : Sharing} → is_allowed h.limits ≡ true → is_consistent (lent h blocks expirations) ≡ true
      → bounded ≡ is_bounded h.limits (block_list blocks) (expiration_list expirations) → UsedIn blocks.handles used → TellsSharing h used blocks.extents sharing
      → (bounded && sharing.fit ≡ is_well_formed (lent h blocks expirations)) × HoldsBoth h.shares (block_list blocks) sharing.holdings
  unfolding is_well_formed tables_by
  judged a c b u s = (rw (a, c, b, s.shared blocks.handles u (placed c)), s.held blocks.handles u (placed c))

  pub shared : {fit : Bool} {holdings : Holdings} → (fit ≡ is_well_formed (lent h blocks expirations)) × HoldsBoth h.shares (block_list blocks) holdings → fit ≡ true
      → Fitness h blocks expirations (Some holdings)
  shared told e = record { fit = sym e ∙ told.0; held = told.1 }

  pub not_shared : {fit : Bool} {holdings : Holdings} → (fit ≡ is_well_formed (lent h blocks expirations)) × HoldsBoth h.shares (block_list blocks) holdings → fit ≡ false
      → Fitness h blocks expirations None
  not_shared told e = unfit (sym told.0 ∙ e)
