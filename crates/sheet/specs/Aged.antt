-- What an event makes of the rows, and what a table of rows is.
use Rattle.std.specs.Prelude.{ℕ, ◌+◌, ◌-◌, ◌≤◌, Bool, cond, ◌&&◌, List, map, ◌≡◌, leb, ltb, length, get_or, drop}
use Rattle.lists.specs.Tests.{All}
use Rattle.ledger.specs.Compared.{Shown}
use Rattle.ledger.specs.Limits.{task_count}
use Rattle.ledger.specs.Tasks.{is_waiting}
use Rattle.ledger.proofs.Aging.{is_ending}
use Rattle.ledger.specs.declared.Event.{Event}
use Rattle.ledger.specs.declared.Event.TheVariants.{Leave, Block, Resume, Tick, View}
use Rattle.record.specs.Codes.{state_of, absent_entry}
use Rattle.record.specs.declared.TaskEntry.{TaskEntry}
use Rattle.sheet.specs.Rows.{Row, row_of, rows, shown_row, global_code}
use Rattle.sheet.specs.Passes.{units_by, spent_of, spent_global, deserted_by}
use Rattle.sheet.specs.Kept.{Counts}
use Rattle.sheet.specs.declared.aging.Passing.{Passing}

-- the most units that are left of a row: two more than the largest extension
abbrev pub most_units : ℕ
most_units = 32

pub record FitRow (r : Row) : Type 0 where
  pub some : 1 ≤ r.units
  pub most : r.units ≤ most_units

-- A table: columns of one length, something left of each row, and how many rows each object has.
pub record Table (clocks places units counts : List ℕ) : Type 0 where
  pub clocked : length clocks ≡ length units
  pub placed : length places ≡ length units
  pub fit : All FitRow (rows clocks places units)
  pub counted : Counts places counts

-- what it is compared as
abbrev pub lefts_in : List ℕ → List ℕ → List ℕ → List Shown
lefts_in clocks places units = map shown_row (rows clocks places units)

-- what a pass leaves of a table from a place on, which is compared as f makes of what there was
pub record Passes (f : List Shown → List Shown) (clocks places units counts : List ℕ) (r : ℕ) (clocks' places' units' counts' : List ℕ) : Type 0 where
  pub within : r ≤ length units
  pub table : Table (drop r clocks') (drop r places') (drop r units') counts'
  pub lefts : lefts_in (drop r clocks') (drop r places') (drop r units') ≡ f (lefts_in clocks places units)

-- E8, E9: the units that an event takes of its task's local expirations: one at a tick, all at a leave
abbrev pub cost_of : Event → ℕ
cost_of Leave = 255
cost_of Block = 0
cost_of Resume = 0
cost_of Tick = 1
cost_of View = 0

-- what an event does to the rows
unfoldable pub passing_of : Event → ℕ → Bool → Passing
passing_of event task advanced = record { task = task; cost = cost_of event; leaves = is_ending event; advanced = advanced }

-- whether a task waits, by the entries
abbrev pub waits_in : List TaskEntry → ℕ → Bool
waits_in tasks i = is_waiting (state_of (get_or tasks i absent_entry).state)

-- E20: one unit more where the task that set it by the global time is one of the first so many, and waits
abbrev pub put_off_below : ℕ → List TaskEntry → ℕ → ℕ → ℕ
put_off_below n tasks clock units =
    cond (leb global_code clock && ltb clock (global_code + n) && waits_in tasks (clock - global_code)) (units + 1) units

-- column by column
abbrev pub advanced_units : Bool → List TaskEntry → List ℕ → List ℕ → List ℕ
advanced_units advanced tasks clocks units =
    cond advanced (units_by spent_global clocks (units_by (put_off_below task_count tasks) clocks units)) units

abbrev pub aged_clocks : Passing → List ℕ → List ℕ
aged_clocks p clocks = cond p.leaves (map (deserted_by p.task) clocks) clocks

abbrev pub aged_units : Passing → List TaskEntry → List ℕ → List ℕ → List ℕ
aged_units p tasks clocks units = advanced_units p.advanced tasks (aged_clocks p clocks) (units_by (spent_of p.task p.cost) clocks units)

-- row by row
unfoldable pub aged_row : Passing → List TaskEntry → Row → Row
aged_row p tasks r =
    let clock = cond p.leaves (deserted_by p.task r.clock) r.clock in
    let units = spent_of p.task p.cost r.clock r.units in
    row_of clock r.place (cond p.advanced (spent_global clock (put_off_below task_count tasks clock units)) units)
