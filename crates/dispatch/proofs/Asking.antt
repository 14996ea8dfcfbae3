-- What a call asks of the tasks' holdings: those of the stores that it asks for are enough.
use mathlib.Core.Bool.{true, false}
use mathlib.Core.List.{List}
use mathlib.Core.Path.{◌≡◌, refl}
use Rattle.lists.proofs.Cases.{by_test}
use Rattle.ledger.specs.Limits.{is_small}
use Rattle.ledger.specs.declared.Call.TheVariants.{Join, Schedule, Make, Refresh, Read, Write, Batch, Release}
use Rattle.ledger.specs.declared.Request.{Request}
use Rattle.ledger.specs.declared.Request.TheVariants.{Use, Report, Remaining}
use Rattle.ledger.specs.declared.Share.{Share}
use Rattle.record.specs.Tables.{BlockEntry}
use Rattle.shares.specs.Holdings.{Holds, HoldsBoth}
use Rattle.shares.specs.declared.Holdings.{Holdings}
use Rattle.dispatch.specs.Needs.{is_asked, HoldsFor}

module _ {shares : List Share} {blocks : List BlockEntry} {holdings : Holdings} where
  pub holds_asked : (request : Request) → (is_asked request true ≡ true → Holds true shares blocks holdings.small)
      → (is_asked request false ≡ true → Holds false shares blocks holdings.large) → HoldsFor request shares blocks holdings
  holds_asked (Use (Join task share)) small large = record { small = small refl; large = large refl }
  holds_asked (Use (Schedule event task)) small large = tt
  holds_asked (Use (Make task kind extension size prefix)) small large = by_test (is_small size) (λ e. rw e (small (rw e))) (λ e. rw e (large (rw e)))
  holds_asked (Use (Refresh task kind extension handle)) small large = tt
  holds_asked (Use (Read task handle)) small large = tt
  holds_asked (Use (Write task handle offset)) small large = tt
  holds_asked (Use (Batch task kind extension)) small large = tt
  holds_asked (Use (Release task handle)) small large = tt
  holds_asked Report small large = tt
  holds_asked (Remaining task handle) small large = tt

  -- and those of both
  pub holds_for : HoldsBoth shares blocks holdings → (request : Request) → HoldsFor request shares blocks holdings
  holds_for both request = holds_asked request (λ e. both.small) (λ e. both.large)
