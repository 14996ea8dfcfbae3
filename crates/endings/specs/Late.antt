-- What a leave and an advance make of global expirations, before any is judged due.
use Rattle.std.specs.Prelude.{◌≡◌, ℕ, Bool, false, cond, ◌&&◌, List, map, length, get_or, slice_index, slice_index_or}
use Rattle.ledger.specs.Limits.{task_count}
use Rattle.ledger.specs.Tasks.{is_waiting}
use Rattle.record.specs.Codes.{state_of, absent_entry, is_global_clock}
use Rattle.record.specs.Tables.{ExpirationEntry, byte_values}
use Rattle.record.specs.declared.TaskEntry.{TaskEntry}
use Rattle.steps.specs.Events.{next_time, deserted_clock, is_put_off, late_entry}
use Rattle.endings.specs.declared.Passing.{Passing}

-- the task that leaves: task_count for none
abbrev pub leaver_in : Passing → ℕ
leaver_in t = cond t.leaves t.task task_count

-- the entries before they are judged due
abbrev pub late_in : Passing → List TaskEntry → List ExpirationEntry → List ExpirationEntry
late_in t tasks xs = map (late_entry (leaver_in t) t.advanced tasks) xs

-- a clock among them, and a due number with the clocks of all
abbrev pub deserted_at : Passing → ℕ → ℕ → ℕ
deserted_at t k clock = deserted_clock (leaver_in t) clock

abbrev pub put_off_at : Passing → List TaskEntry → List ℕ → ℕ → ℕ → ℕ
put_off_at t tasks clocks k due = cond (t.advanced && is_put_off tasks (slice_index clocks k)) (next_time due) due

-- a task waits by its entry; and the one at a place
abbrev pub is_waiting_entry : TaskEntry → Bool
is_waiting_entry e = is_waiting (state_of e.state)

abbrev pub is_waiting_at : List TaskEntry → ℕ → Bool
is_waiting_at tasks k = is_waiting_entry (get_or tasks k absent_entry)

-- each flag says whether what has its clock is put off
pub record PutOff (tasks : List TaskEntry) (flags : List Bool) : Type 0 where
  pub size : length flags ≡ byte_values
  pub so : (clock : ℕ) → slice_index_or flags clock false ≡ is_put_off tasks clock

-- flags of clocks that go by the global time alone
pub record GlobalFlags (flags : List Bool) : Type 0 where
  pub size : length flags ≡ byte_values
  pub so : (clock : ℕ) → is_global_clock clock ≡ false → slice_index_or flags clock false ≡ false

-- a due number by the flags
abbrev pub put_off_by : List Bool → List ℕ → ℕ → ℕ → ℕ
put_off_by flags clocks k due = cond (slice_index_or flags (slice_index clocks k) false) (next_time due) due
