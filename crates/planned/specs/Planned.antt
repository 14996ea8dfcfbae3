-- What calls, a turn and a step of a plan promise on the pool: whatever ledger record and stores read as, what is left reads as that
-- ledger after the calls, and what the channels have is what they have there.
use Rattle.std.specs.Prelude.{ℕ, List, ◌≡◌}
use Rattle.ledger.specs.Ledger.{Ledger, reply, next, after_all}
use Rattle.ledger.specs.Plans.{calls_of_turn, after_turn, step_calls, after_step}
use Rattle.ledger.specs.declared.Answer.{Answer}
use Rattle.ledger.specs.declared.Call.{Call}
use Rattle.ledger.specs.declared.plans.Track.{Track}
use Rattle.record.specs.Pools.{Reads}
use Rattle.planned.specs.declared.site.Site.{Site}

abbrev pub ReadsAs : Site → Ledger → Type 0
ReadsAs s L = Reads s.pool s.small s.large L

-- what is left reads as this ledger after that which was read, and this is what the ledger gives
pub record Acts {A : Type 0} (after : Ledger → Ledger) (gives : Ledger → A) (s : Site) (given : A) (s' : Site) : Type 0 where
  pub leaves : (L : Ledger) → ReadsAs s L → ReadsAs s' (after L)
  pub told : (L : Ledger) → ReadsAs s L → given ≡ gives L

-- one call
abbrev pub Sends : Call → List ℕ → Site → Answer → Site → Type 0
Sends call new = Acts (λ L. next L call new) (λ L. (reply L call new).answer)

-- a turn
abbrev pub Takes : ℕ → ℕ → Track → Site → Track → Site → Type 0
Takes step task t = Acts (λ L. after_all L (calls_of_turn L step task t)) (λ L. after_turn L step task t)

-- a step of all channels
abbrev pub Steps : ℕ → List Track → Site → List Track → Site → Type 0
Steps step ts = Acts (λ L. after_all L (step_calls L step 0 ts)) (λ L. after_step L step 0 ts)
