-- The remaining life of the object in a block, by the entries of the expirations and by counters that wrap.
use Rattle.std.specs.Prelude.{ℕ, ◌+◌, ◌≤◌, cond, List, eqb, get_or}
use Rattle.lists.specs.Most.{most}
use Rattle.ledger.specs.Limits.{capacity}
use Rattle.ledger.specs.declared.Life.{Life}
use Rattle.record.specs.Codes.{due_of, units_left, absent_entry}
use Rattle.record.specs.Tables.{ExpirationEntry}
use Rattle.record.specs.declared.TaskEntry.{TaskEntry}
use Rattle.record.specs.declared.GlobalTime.{GlobalTime}
use Rattle.record.specs.declared.LocalTime.{LocalTime}
use Rattle.record.specs.declared.Due.{Due}
use Rattle.record.specs.declared.Due.TheVariants.{Free, Local, Global, Pinned, Unknown}

-- the units left on an expiration that goes by this task's clock, and on one that goes by the global time
abbrev pub left_local : ℕ → LocalTime → Due → ℕ
left_local task now Free = 0
left_local task now (Local setter at) = cond (eqb setter task) (units_left at.0 now.0) 0
left_local task now (Global setter at) = 0
left_local task now (Pinned due) = 0
left_local task now Unknown = 0

abbrev pub left_global : GlobalTime → Due → ℕ
left_global now Free = 0
left_global now (Local setter at) = 0
left_global now (Global setter at) = units_left at.0 now.0
left_global now (Pinned due) = 0
left_global now Unknown = 0

-- of an entry, where it names the block
abbrev pub units_on : (Due → ℕ) → ℕ → ExpirationEntry → ℕ
units_on units block e = cond (eqb e.block block) (units (due_of e)) 0

unfoldable pub life_in : ℕ → ℕ → List TaskEntry → GlobalTime → List ExpirationEntry → Life
life_in task block tasks global xs =
    record {
      local = most (units_on (left_local task (get_or tasks task absent_entry).clock) block) xs;
      global = most (units_on (left_global global) block) xs;
    }

-- neither figure is above what an expiration can have, whatever the figures
pub record LifeWithin (life : Life) : Type 0 where
  pub local : life.local ≤ capacity.extension + 1
  pub global : life.global ≤ capacity.extension + 2
