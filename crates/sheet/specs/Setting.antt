-- Rows that are set, and what stands by how many rows each object has.
use Rattle.std.specs.Prelude.{ℕ, ◌+◌, ◌-◌, ◌≤◌, ◌<◌, Bool, not, ◌&&◌, List, ◌∷◌, map, ◌≡◌, eqb, leb, ltb, length, get_or, drop}
use Rattle.lists.specs.Columns.{◌⊛◌}
use Rattle.lists.specs.Tests.{count}
use Rattle.sheet.specs.Rows.{row_of, shown_row}
use Rattle.sheet.specs.Aged.{most_units, Table, lefts_in}

-- the tables have a place for each row and each object of the longest script
abbrev pub entry_count : ℕ
entry_count = 8192

abbrev pub object_count : ℕ
object_count = 4096

-- a row may be set at this place: those after it are a table
pub record Settable (clocks places units counts : List ℕ) (at place left : ℕ) : Type 0 where
  pub within : at < length units
  pub few : length units ≤ entry_count
  pub clocked : length clocks ≡ length units
  pub placed : length places ≡ length units
  pub known : place < length counts
  pub some : 1 ≤ left
  pub most : left ≤ most_units
  pub table : Table (drop (at + 1) clocks) (drop (at + 1) places) (drop (at + 1) units) counts

-- and is one more of them
pub record Sets (clocks places units : List ℕ) (at place clock left : ℕ) (clocks' places' units' counts' : List ℕ) : Type 0 where
  pub table : Table (drop at clocks') (drop at places') (drop at units') counts'
  pub lefts : lefts_in (drop at clocks') (drop at places') (drop at units')
      ≡ shown_row (row_of clock place left) ∷ lefts_in (drop (at + 1) clocks) (drop (at + 1) places) (drop (at + 1) units)

-- the object with this handle has a row
abbrev pub is_counted : List ℕ → ℕ → Bool
is_counted counts handle = leb 1 handle && ltb (handle - 1) (length counts) && not (eqb (get_or counts (handle - 1) 0) 0)

-- objects of either store that have one
abbrev pub small_in : List Bool → List ℕ → List Bool
small_in smalls counts = map (λ (small : Bool) (n : ℕ). small && not (eqb n 0)) smalls ⊛ counts

abbrev pub large_in : List Bool → List ℕ → List Bool
large_in smalls counts = map (λ (small : Bool) (n : ℕ). not small && not (eqb n 0)) smalls ⊛ counts

abbrev pub all_of : List Bool → ℕ
all_of flags = count (λ (b : Bool). b) flags
