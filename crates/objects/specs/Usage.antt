-- What report counts, by the handles of the blocks and how many expirations stand.
use Rattle.std.specs.Prelude.{ℕ, Bool, not, List, eqb, take, drop}
use Rattle.lists.specs.Tests.{count}
use Rattle.ledger.specs.Limits.{capacity}
use Rattle.ledger.specs.declared.Usage.{Usage}

-- the handle of a block in use
abbrev pub is_given : ℕ → Bool
is_given handle = not (eqb handle 0)

unfoldable pub usage_in : ℕ → List ℕ → ℕ → Usage
usage_in given handles standing =
    record {
      small = count is_given (take capacity.small handles);
      large = count is_given (drop capacity.small handles);
      expirations = standing;
      given = given;
    }
