-- What the numbers of a record's entries mean.
use Rattle.std.specs.Prelude.{ℕ, ◌+◌, ◌-◌, ◌%◌, Bool, true, false, cond, not, ◌&&◌, ◌==◌, nat_le, nat_lt}
use Rattle.ledger.specs.Limits.{task_count, counter_range}
use Rattle.ledger.specs.Tasks.{Task, is_running}
use Rattle.ledger.specs.Expirations.{departed}
use Rattle.ledger.specs.declared.State.{State}
use Rattle.ledger.specs.declared.State.TheVariants.{Absent, Running, Waiting, Viewing}
use Rattle.record.specs.declared.TaskEntry.{TaskEntry}
use Rattle.record.specs.Tables.{BlockEntry, ExpirationEntry}
use Rattle.record.specs.declared.Due.{Due}
use Rattle.record.specs.declared.Due.TheVariants.{Free, Local, Global, Pinned, Unknown}

-- T2: 1 runs, 2 waits, 3 views (02: a viewer); any other is absent, though only 0 is fit (W12)
abbrev pub state_of : ℕ → State
state_of code = cond (code == 1) Running (cond (code == 2) Waiting (cond (code == 3) Viewing Absent))

-- a task entry as the ledger has it
abbrev pub task_of : TaskEntry → Task
task_of e = record { state = state_of e.state; ticked = (e.ticked == 1); clock = e.clock.0 }

-- a task that runs, and one that runs and has not ticked
abbrev pub is_running_entry : TaskEntry → Bool
is_running_entry e = is_running (state_of e.state)

abbrev pub is_pending_entry : TaskEntry → Bool
is_pending_entry e = is_running_entry e && not (e.ticked == 1)

-- the clock of an expiration by its code: 0 none, from local_code on those of the tasks, and from global_code on the global time, with the
-- task that set it or that it departed; pinned_code is no clock's
abbrev pub local_code : ℕ
local_code = 16

abbrev pub global_code : ℕ
global_code = local_code + task_count

abbrev pub departed_code : ℕ
departed_code = global_code + departed

abbrev pub pinned_code : ℕ
pinned_code = departed_code + 1

abbrev pub is_global_clock : ℕ → Bool
is_global_clock clock = nat_le global_code clock && nat_le clock departed_code

unfoldable pub due_by : ℕ → ℕ → Due
due_by clock due =
    cond (clock == 0) Free
    (cond (is_global_clock clock) (Global (clock - global_code) (record { 0 = due }))
    (cond (nat_le local_code clock && nat_lt clock global_code) (Local (clock - local_code) (record { 0 = due }))
    (cond (clock == pinned_code) (Pinned due) Unknown)))

abbrev pub due_of : ExpirationEntry → Due
due_of e = due_by e.clock e.due

-- the entry is in use: it has an expiration
abbrev pub is_dated : Due → Bool
is_dated Free = false
is_dated (Local setter at) = true
is_dated (Global setter at) = true
is_dated (Pinned due) = true
is_dated Unknown = false

-- E22: it is pinned (02: kept)
abbrev pub is_pinned_due : Due → Bool
is_pinned_due Free = false
is_pinned_due (Local setter at) = false
is_pinned_due (Global setter at) = false
is_pinned_due (Pinned due) = true
is_pinned_due Unknown = false

-- the task whose entry an expiration is tested with: its setter
abbrev pub setter_of : Due → ℕ
setter_of Free = 0
setter_of (Local setter at) = setter
setter_of (Global setter at) = setter
setter_of (Pinned due) = 0
setter_of Unknown = 0

-- E6: what remains (01: units left), by counters that wrap (T8)
abbrev pub units_left : ℕ → ℕ → ℕ
units_left due now = (due + (counter_range - now)) % counter_range

-- what an entry past the end of a table reads as
abbrev pub absent_entry : TaskEntry
absent_entry = record { state = 0; ticked = 0; clock = record { 0 = 0 } }

abbrev pub free_block : BlockEntry
free_block = record { handle = 0; length = 0; sum = 0; maker = 0; prefix = 0 }

abbrev pub free_entry : ExpirationEntry
free_entry = record { clock = 0; block = 0; due = 0 }

-- a block and an entry that are given up: what else they hold has no meaning
abbrev pub freed_block : BlockEntry → BlockEntry
freed_block b = record { handle = 0; length = b.length; sum = b.sum; maker = b.maker; prefix = b.prefix }

abbrev pub freed_entry : ExpirationEntry → ExpirationEntry
freed_entry e = record { clock = 0; block = e.block; due = e.due }
