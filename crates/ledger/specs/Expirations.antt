-- The rules E: expirations (01: dates), local (01: own) and global (01: common), when they are due, what puts them off and what ends them.
use Rattle.std.specs.Prelude.{ℕ, ◌+◌, ◌-◌, Bool, true, false, cond, not, ◌&&◌, ◌||◌, List, [], ◌∷◌, map, eqb, ltb}
use Rattle.lists.specs.Tests.{filter}
use Rattle.ledger.specs.Limits.{task_count}
use Rattle.ledger.specs.Tasks.{Clocks, task_at, is_waiting}
use Rattle.ledger.specs.declared.Kind.{Kind}
use Rattle.ledger.specs.declared.Kind.TheVariants.{Local, Global, Pinned}
use Rattle.ledger.specs.declared.Event.{Event}
use Rattle.ledger.specs.declared.Event.TheVariants.{Leave, Block, Resume, Tick, View}

-- E2, T6, E19: when an expiration is due, by the clock of the task that set it or by the global time; either keeps its setter
pub data DueTime : Type 0 where
  by_local : (setter at : ℕ) → DueTime
  by_global : (setter at : ℕ) → DueTime
  -- E22: or never: it is pinned (02: kept)
  pinned : DueTime

-- E21: the setter of a global one whose setter has left (02: "left"): no task has this number
abbrev pub departed : ℕ
departed = task_count

-- E1: it is of one object
pub record Expiration : Type 0 where
  pub handle : ℕ
  pub due : DueTime

-- E4, E5: when one is due that is set now
unfoldable pub due_after : Clocks → ℕ → Kind → ℕ → DueTime
due_after clocks task Local extension = by_local task ((task_at clocks task).clock + extension + 1)
due_after clocks task Global extension = by_global task (clocks.global + extension + 2)
due_after clocks task Pinned extension = pinned

-- E6: what remains (01: units left); a pinned one has no time
unfoldable pub remaining : Clocks → DueTime → ℕ
remaining clocks (by_local setter at) = at - (task_at clocks setter).clock
remaining clocks (by_global setter at) = at - clocks.global
remaining clocks pinned = 0

abbrev pub is_pinned : DueTime → Bool
is_pinned (by_local setter at) = false
is_pinned (by_global setter at) = false
is_pinned pinned = true

-- E7, E22: not due yet
abbrev pub is_live : Clocks → Expiration → Bool
is_live clocks x = is_pinned x.due || ltb 0 (remaining clocks x.due)

-- E9, E15: a local one that this task set; no leave ends a global or a pinned one (E10, E22)
abbrev pub is_set_by : ℕ → DueTime → Bool
is_set_by task (by_local setter at) = eqb setter task
is_set_by task (by_global setter at) = false
is_set_by task pinned = false

-- E20: what an advance makes of an expiration, by the clocks after the call: a global one whose setter waits is put off by one
unfoldable pub put_off : Bool → Clocks → DueTime → DueTime
put_off advanced clocks (by_local setter at) = by_local setter at
put_off advanced clocks (by_global setter at) = by_global setter (at + cond (advanced && is_waiting (task_at clocks setter).state) 1 0)
put_off advanced clocks pinned = pinned

-- E21: what the leave of a task makes of one: where the task set it by the global time, its setter is departed for good
unfoldable pub deserted : ℕ → DueTime → DueTime
deserted task (by_local setter at) = by_local setter at
deserted task (by_global setter at) = by_global (cond (eqb setter task) departed setter) at
deserted task pinned = pinned

-- the same expirations, due otherwise
abbrev pub each_due : (DueTime → DueTime) → List Expiration → List Expiration
each_due f xs = map (λ (x : Expiration). record { handle = x.handle; due = f x.due }) xs

-- E11: of those that are put off first, the ones that are not due then
abbrev pub still_live : Bool → Clocks → List Expiration → List Expiration
still_live advanced clocks xs = filter (is_live clocks) (each_due (put_off advanced clocks) xs)

-- E8 to E12: the expirations that an event leaves, by whether the global time advanced and by the clocks after it
unfoldable pub lasting : Event → ℕ → Bool → Clocks → List Expiration → List Expiration
lasting Block task advanced clocks xs = still_live advanced clocks xs
lasting Resume task advanced clocks xs = xs
lasting View task advanced clocks xs = xs
lasting Leave task advanced clocks xs =
    still_live advanced clocks (each_due (deserted task) (filter (λ (x : Expiration). not (is_set_by task x.due)) xs))
lasting Tick task advanced clocks xs = still_live advanced clocks xs

-- the expiration is one of the object with this handle
abbrev pub is_of : ℕ → Expiration → Bool
is_of handle x = eqb x.handle handle

-- E24: the expiration is pinned, and one of the object with this handle: a release ends it
abbrev pub is_pin_of : ℕ → Expiration → Bool
is_pin_of handle x = is_of handle x && is_pinned x.due

unfoldable pub released : ℕ → List Expiration → List Expiration
released handle xs = filter (λ (x : Expiration). not (is_pin_of handle x)) xs

-- E18: one more expiration on each of these objects, one after the other: an object that is named twice gets two
unfoldable pub set_on_each : DueTime → List ℕ → List Expiration → List Expiration
set_on_each due [] xs = xs
set_on_each due (handle ∷ handles) xs = set_on_each due handles (record { handle = handle; due = due } ∷ xs)
