-- R14: the lengths of the two stores.
use Rattle.std.specs.Prelude.{ℕ, Bool, ◌&&◌, List, ◌≡◌, length}
use Rattle.ledger.specs.declared.Limits.{Limits}
use Rattle.record.specs.Reading.{is_whole_small, is_whole_large}

-- both stores are as long as the blocks need
abbrev pub are_whole : Limits → List ℕ → List ℕ → Bool
are_whole limits small large = is_whole_small limits small && is_whole_large limits large

-- the same by the lengths alone
abbrev pub TellsWhole : Limits → ℕ → ℕ → Bool → Type 0
TellsWhole limits smallBytes largeBytes b = (small large : List ℕ) → length small ≡ smallBytes → length large ≡ largeBytes → b ≡ are_whole limits small large
