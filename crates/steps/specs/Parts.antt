-- The facts that the rules R look at, as far as code has found them for a call whose tests look at no others.
use Rattle.std.specs.Prelude.{ℕ, Bool, true, false}
use Rattle.ledger.specs.Refusals.{Facts}
use Rattle.ledger.specs.declared.Limits.{Limits}
use Rattle.ledger.specs.declared.Share.{Share}
use Rattle.ledger.specs.declared.State.{State}

-- by the figures, the states of the tasks, the handles given, which objects stand and how many expirations; and by whether the task that
-- calls is at its limit, whether no block is left for it, and whether too few are for its reserves
abbrev pub part_facts : Limits → (ℕ → State) → ℕ → (ℕ → Bool) → ℕ → Bool → Bool → Bool → Facts
part_facts limits state given stands standing limited full short =
    record {
      limits = limits;
      state = state;
      given = given;
      size = λ (handle : ℕ). 0;
      is_intact = λ (handle : ℕ). true;
      is_pinned = λ (handle : ℕ). false;
      stands = stands;
      standing = standing;
      is_at_limit = λ (store : Bool) (task : ℕ). limited;
      is_full = λ (store : Bool) (task : ℕ). full;
      is_short = λ (task : ℕ) (share : Share). short;
    }
