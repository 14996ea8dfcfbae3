-- The rows of which something is left, column by column, and how many rows each object has.
use Rattle.std.specs.Prelude.{ℕ, ◌≤◌, ◌<◌, cond, List, [], ◌∷◌, ◌≡◌, eqb, length, get_or, drop}
use Rattle.lists.specs.Tests.{count, All}

-- of a column, what stands beside a number that is not 0
abbrev pub kept : List ℕ → List ℕ → List ℕ
kept [] xs = []
kept (u ∷ us) [] = []
kept (u ∷ us) (x ∷ xs) = cond (eqb u 0) (kept us xs) (x ∷ kept us xs)

-- Each counter says how many rows have its place.
pub record Counts (places counts : List ℕ) : Type 0 where
  pub known : All (λ (p : ℕ). p < length counts) places
  pub so : (k : ℕ) → k < length counts → get_or counts k 0 ≡ count (λ (p : ℕ). eqb p k) places

-- What is left of three columns stands at their ends, in its order, from a place on.
pub record Compacts (clocks places units : List ℕ) (r : ℕ) (clocks' places' units' : List ℕ) : Type 0 where
  pub within : r ≤ length units
  pub clocks_kept : drop r clocks' ≡ kept units clocks
  pub places_kept : drop r places' ≡ kept units places
  pub units_kept : drop r units' ≡ kept units units

-- what a sweep asks and leaves
pub record Sweepable (clocks places units counts : List ℕ) : Type 0 where
  pub clocked : length clocks ≡ length units
  pub placed : length places ≡ length units
  pub counted : Counts places counts

pub record Sweeps (clocks places units counts : List ℕ) (r : ℕ) (clocks' places' units' counts' : List ℕ) : Type 0 where
  pub compacts : Compacts clocks places units r clocks' places' units'
  pub counted : Counts (kept units places) counts'
  pub counters : length counts' ≡ length counts
