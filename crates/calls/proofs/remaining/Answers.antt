-- By what was found: why nothing is, or its remaining life.
use Rattle.ledger.specs.declared.Request.TheVariants.{Remaining}
use Rattle.record.specs.Tables.{pooled}
use Rattle.record.proofs.Types.{head_typed}
use Rattle.calls.specs.Contract.{Follows}
use Rattle.calls.specs.Engine.{life_found}
use Rattle.calls.proofs.Lent.{lent_fits}
use Rattle.calls.proofs.Reported.{life_obeys}
use Rattle.calls.proofs.remaining.Goals as goal

pub find_life-requires : goal.find_life-requires
find_life-requires c = (c.requires.0, lent_fits _ _ _ c.requires.1)

-- what was found tells the ledger's answer
pub returns-in-Err : goal.returns-in-Err
returns-in-Err c =
    let a = c.args in
    let p = pooled a.h a.blocks.now a.expirations.now in
    let told : Follows (Remaining a.task a.handle) p (life_found c.find_life.result) p =
    life_obeys (head_typed _ _ c.well_formed.0) c.requires.0 c.requires.1 a.task a.handle c.find_life.ensures in
    rw c.in-Err.is at told

pub returns-in-Ok : goal.returns-in-Ok
returns-in-Ok c =
    let a = c.args in
    let p = pooled a.h a.blocks.now a.expirations.now in
    let told : Follows (Remaining a.task a.handle) p (life_found c.find_life.result) p =
    life_obeys (head_typed _ _ c.well_formed.0) c.requires.0 c.requires.1 a.task a.handle c.find_life.ensures in
    rw c.in-Ok.is at told
