-- What each pass over the rows makes or asks, column by column.
use Rattle.std.specs.Prelude.{◌≡◌, ℕ, ◌+◌, ◌-◌, ◌<◌, Bool, cond, ◌&&◌, List, eqb, leb, get_or}
use Rattle.lists.specs.Tables.{map_from}
use Rattle.sheet.specs.Rows.{global_code, departed_code, pinned_code, is_global_code}

-- what a closure gives, as its calls say: f of a clock and the units
abbrev pub Gives : (ℕ → ℕ → ℕ → Type 0) → (ℕ → ℕ → ℕ) → Type 0
Gives post f = (clock units r : ℕ) → clock < 256 → units < 256 → post clock units r → r ≡ f clock units

-- the units by the clock beside them
abbrev pub units_by : (ℕ → ℕ → ℕ) → List ℕ → List ℕ → List ℕ
units_by f clocks units = map_from 0 (λ i u. f (get_or clocks i 0) u) units

-- so many units less, where the row is hit
abbrev pub spent : Bool → ℕ → ℕ → ℕ
spent hit cost units = cond hit (units - cost) units

-- of the rows by one clock; of those by the global time one each
abbrev pub spent_of : ℕ → ℕ → ℕ → ℕ → ℕ
spent_of code cost clock units = spent (eqb clock code) cost units

abbrev pub spent_global : ℕ → ℕ → ℕ
spent_global clock units = spent (is_global_code clock) 1 units

-- E20: one unit more of the rows by one clock
abbrev pub put_off_of : ℕ → ℕ → ℕ → ℕ
put_off_of code clock units = cond (eqb clock code) (units + 1) units

-- E21: the clock of a row by the global time, after the leave of the task that set it
abbrev pub deserted_by : ℕ → ℕ → ℕ
deserted_by task clock = cond (eqb clock (global_code + task)) departed_code clock

-- E24: none left of the pinned row of this object
abbrev pub unpinned_of : ℕ → ℕ → ℕ → ℕ → ℕ
unpinned_of place clock at units = cond (leb pinned_code clock && eqb at place) 0 units

abbrev pub unpinned_in : ℕ → List ℕ → List ℕ → List ℕ → List ℕ
unpinned_in place clocks places units = map_from 0 (λ i u. unpinned_of place (get_or clocks i 0) (get_or places i 0) u) units
