-- Which of the calls that test 14 a call is.
use Rattle.std.specs.Prelude.{ℕ}
use Rattle.ledger.specs.declared.Call.{Call}
use Rattle.ledger.specs.declared.Call.TheVariants.{Join, Schedule, Make, Refresh, Read, Write, Batch, Release}

-- 1 a make, 2 a read, 3 a write; 0 none of them
abbrev pub stored_as : Call → ℕ
stored_as (Join task share) = 0
stored_as (Schedule event task) = 0
stored_as (Make task kind extension size prefix) = 1
stored_as (Refresh task kind extension handle) = 0
stored_as (Read task handle) = 2
stored_as (Write task handle offset) = 3
stored_as (Batch task kind extension) = 0
stored_as (Release task handle) = 0
