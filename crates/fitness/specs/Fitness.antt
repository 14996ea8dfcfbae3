-- What the test of well-formedness tells of a record.
use Rattle.record.specs.declared.ExpirationTable.{ExpirationTable}
use Rattle.record.specs.declared.BlockTable.{BlockTable}
use Rattle.std.specs.Prelude.{◌≡◌, Option, is_some, IfSome}
use Rattle.record.specs.Tables.{lent, block_list}
use Rattle.record.specs.WellFormed.{is_well_formed}
use Rattle.record.specs.declared.Head.{Head}
use Rattle.shares.specs.Holdings.{HoldsBoth}
use Rattle.shares.specs.declared.Holdings.{Holdings}

-- the rules W; and of a record that is well-formed what of either store the tasks have
pub record Fitness (h : Head) (blocks : BlockTable) (expirations : ExpirationTable) (found : Option Holdings) : Type 0 where
  pub fit : is_some found ≡ is_well_formed (lent h blocks expirations)
  pub held : IfSome found (HoldsBoth h.shares (block_list blocks))
