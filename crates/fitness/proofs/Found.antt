-- What a caller has of the test, by what it found.
use Rattle.std.proofs.Common.{◌≡◌, subst, Option, Some, IfSome}
use Rattle.record.specs.declared.ExpirationTable.{ExpirationTable}
use Rattle.record.specs.declared.BlockTable.{BlockTable}
use Rattle.record.specs.declared.Head.{Head}
use Rattle.record.specs.Tables.{block_list}
use Rattle.shares.specs.Holdings.{HoldsBoth}
use Rattle.shares.specs.declared.Holdings.{Holdings}
use Rattle.fitness.specs.Fitness.{Fitness}

-- the holdings of a well-formed record
pub held_found : {h : Head} {blocks : BlockTable} {expirations : ExpirationTable} {found : Option Holdings} {holdings : Holdings} → Fitness h blocks expirations found
    → found ≡ Some holdings → HoldsBoth h.shares (block_list blocks) holdings
held_found {h} {blocks} told some = subst (λ (o : Option Holdings). IfSome o (HoldsBoth h.shares (block_list blocks))) some told.held
