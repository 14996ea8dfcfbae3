-- What a call asks of the tasks' holdings: a join of both stores, a make of its own.
use Rattle.std.specs.Prelude.{ℕ, Bool, true, false, cond, List}
use Rattle.std.specs.Bool.{beq}
use Rattle.ledger.specs.Limits.{is_small}
use Rattle.ledger.specs.declared.Call.TheVariants.{Join, Schedule, Make, Refresh, Read, Write, Batch, Release}
use Rattle.ledger.specs.declared.Request.{Request}
use Rattle.ledger.specs.declared.Request.TheVariants.{Use, Report, Remaining}
use Rattle.ledger.specs.declared.Share.{Share}
use Rattle.record.specs.Tables.{BlockEntry}
use Rattle.shares.specs.Holdings.{Holds, HoldsBoth}
use Rattle.shares.specs.declared.Holding.{Holding}
use Rattle.shares.specs.declared.Holdings.{Holdings}

-- of the store to which a size goes
abbrev pub holding_for : Holdings → ℕ → Holding
holding_for holdings size = cond (is_small size) holdings.small holdings.large

abbrev pub HoldsFor : Request → List Share → List BlockEntry → Holdings → Type 0
HoldsFor (Use (Join task share)) shares blocks holdings = HoldsBoth shares blocks holdings
HoldsFor (Use (Schedule event task)) shares blocks holdings = Unit
HoldsFor (Use (Make task kind extension size prefix)) shares blocks holdings = Holds (is_small size) shares blocks (holding_for holdings size)
HoldsFor (Use (Refresh task kind extension handle)) shares blocks holdings = Unit
HoldsFor (Use (Read task handle)) shares blocks holdings = Unit
HoldsFor (Use (Write task handle offset)) shares blocks holdings = Unit
HoldsFor (Use (Batch task kind extension)) shares blocks holdings = Unit
HoldsFor (Use (Release task handle)) shares blocks holdings = Unit
HoldsFor Report shares blocks holdings = Unit
HoldsFor (Remaining task handle) shares blocks holdings = Unit

-- whether a call asks for the holding of a store
abbrev pub is_asked : Request → Bool → Bool
is_asked (Use (Join task share)) store = true
is_asked (Use (Schedule event task)) store = false
is_asked (Use (Make task kind extension size prefix)) store = beq store (is_small size)
is_asked (Use (Refresh task kind extension handle)) store = false
is_asked (Use (Read task handle)) store = false
is_asked (Use (Write task handle offset)) store = false
is_asked (Use (Batch task kind extension)) store = false
is_asked (Use (Release task handle)) store = false
is_asked Report store = false
is_asked (Remaining task handle) store = false
