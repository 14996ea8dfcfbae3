-- The rules E15 to E17: the remaining life of an object, as a task that asks for it is told.
use Rattle.std.specs.Prelude.{ℕ, max, ◌+◌, Bool, true, false, ◌&&◌, List}
use Rattle.lists.specs.Most.{most}
use Rattle.lists.specs.Tests.{filter}
use Rattle.ledger.specs.Tasks.{Clocks}
use Rattle.ledger.specs.Expirations.{DueTime, by_local, by_global, pinned, Expiration, remaining, is_of, is_set_by}
use Rattle.ledger.specs.declared.Kind.{Kind}
use Rattle.ledger.specs.declared.Kind.TheVariants.{Local, Global, Pinned}
use Rattle.ledger.specs.declared.Life.{Life}

abbrev pub is_global : DueTime → Bool
is_global (by_local setter at) = false
is_global (by_global setter at) = true
is_global pinned = false

-- the most units left on any expiration of the object that passes, 0 where none does
abbrev pub most_left : (DueTime → Bool) → ℕ → Clocks → List Expiration → ℕ
most_left passes handle clocks xs =
    most (λ (x : Expiration). remaining clocks x.due) (filter (λ (x : Expiration). is_of handle x && passes x.due) xs)

-- E15, E16: local expirations count for the task that set them, global ones for every task
unfoldable pub remaining_life : ℕ → ℕ → Clocks → List Expiration → Life
remaining_life task handle clocks xs =
    record { local = most_left (is_set_by task) handle clocks xs; global = most_left is_global handle clocks xs }

-- E17: the life after the task sets one more expiration on the object: a longer one shows at once, a shorter one takes nothing away, and a
-- pinned one adds nothing
abbrev pub extended : Kind → ℕ → Life → Life
extended Local extension life = record { local = max (extension + 1) life.local; global = life.global }
extended Global extension life = record { local = life.local; global = max (extension + 2) life.global }
extended Pinned extension life = life
