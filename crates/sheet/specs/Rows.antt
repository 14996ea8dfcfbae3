-- The rows of the sheet: the expirations that stand, each by the units that are left of it instead of a due time.
use Rattle.std.specs.Prelude.{ℕ, ◌+◌, ◌-◌, Bool, cond, not, ◌&&◌, List, map, ◌≡◌, eqb, leb, ltb, length}
use Rattle.lists.specs.Columns.{◌⊛◌}
use Rattle.ledger.specs.Compared.{Left, local_left, global_left, pinned_left, Shown}
use Rattle.ledger.specs.Limits.{task_count}

-- a row: the code of its clock, the place of its object (its handle less 1), the units left
pub record Row : Type 0 where
  pub clock : ℕ
  pub place : ℕ
  pub units : ℕ

abbrev pub row_of : ℕ → ℕ → ℕ → Row
row_of clock place units = record { clock = clock; place = place; units = units }

-- three columns
unfoldable pub rows : List ℕ → List ℕ → List ℕ → List Row
rows clocks places units = map row_of clocks ⊛ places ⊛ units

-- the columns are as long as one another
pub record Even (clocks places units : List ℕ) : Type 0 where
  pub placed : length places ≡ length clocks
  pub counted : length units ≡ length clocks

-- the codes of clocks: below this the local time of the task of that number; then the global time, with the task that set it,
abbrev pub global_code : ℕ
global_code = task_count

-- or with a departed one;
abbrev pub departed_code : ℕ
departed_code = global_code + task_count

-- from here on none: the expiration is pinned
abbrev pub pinned_code : ℕ
pinned_code = departed_code + 1

abbrev pub is_global_code : ℕ → Bool
is_global_code clock = leb global_code clock && ltb clock pinned_code

-- what is left by a clock's code and the units
abbrev pub left_by : ℕ → ℕ → Left
left_by clock units =
    cond (ltb clock global_code) (local_left clock units) (cond (ltb clock pinned_code) (global_left (clock - global_code) units) pinned_left)

-- a row as it is compared
unfoldable pub shown_row : Row → Shown
shown_row r = record { handle = r.place + 1; left = left_by r.clock r.units }

-- a row of which something is left
abbrev pub is_left : Row → Bool
is_left r = not (eqb r.units 0)
