-- What holds of both stores, of the one that is asked for.
use mathlib.Core.Bool.{Bool, true, false, cond}
use mathlib.Core.List.{List}
use Rattle.ledger.specs.declared.Share.{Share}
use Rattle.record.specs.Tables.{BlockEntry}
use Rattle.shares.specs.Holdings.{Holds, HoldsBoth}
use Rattle.shares.specs.declared.Holdings.{Holdings}

pub held_in : {shares : List Share} {blocks : List BlockEntry} {holdings : Holdings} → HoldsBoth shares blocks holdings → (store : Bool)
    → Holds store shares blocks (cond store holdings.small holdings.large)
held_in both true = both.small
held_in both false = both.large
