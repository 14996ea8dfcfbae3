-- The claim of E20 and E21 (order 4 of document 02): waiting eats none of a task's global expirations, over any advance and in four rows.
use Rattle.std.specs.Prelude.{ℕ, ◌-◌, ◌≤◌, Bool, true, false, List, [], ◌∷◌, ◌≡◌, length}
use Rattle.lists.specs.Tests.{All}
use Rattle.ledger.specs.Tasks.{Clocks, task_at, is_waiting, advances, clocks_after}
use Rattle.ledger.specs.Expirations.{by_global, departed, Expiration, remaining, lasting}
use Rattle.ledger.specs.Kept.{ClocksKept}
use Rattle.ledger.specs.Limits.{standard}
use Rattle.ledger.specs.Ledger.{fresh}
use Rattle.ledger.specs.Rows.{join, leave, block, resume, tick, make, read, life, refused, done, stands_still, advanced, handle, zeros, lasts, ◌⇒◌, ◌⨾◌, Row, ◌runs◌clockReads◌, RowHolds}
use Rattle.ledger.specs.declared.Event.{Event}
use Rattle.ledger.specs.declared.Kind.TheVariants.{Local, Global}

unfoldable pub waiting_edges : List Row
waiting_edges =
    -- 1. The setter waits through two advances, of which a tick brings one and the leave of another task the other: its global expiration
    -- has what it had, and then counts on. Its local one is not put off.
    fresh standard runs
    join 0 ⇒ done ⨾
    join 1 ⇒ done ⨾
    join 2 ⇒ done ⨾
    make 0 Global 0 4 ⇒ handle 1 ⨾
    make 0 Local 0 4 ⇒ handle 2 ⨾
    block 0 ⇒ stands_still ⨾
    tick 2 ⇒ stands_still ⨾
    tick 1 ⇒ advanced ⨾
    tick 1 ⇒ stands_still ⨾
    leave 2 ⇒ advanced ⨾
    life 1 1 ⇒ lasts 0 2 ⨾
    resume 0 ⇒ done ⨾
    read 0 1 ⇒ zeros 4 ⨾
    life 0 2 ⇒ lasts 1 0 ⨾
    tick 0 ⇒ stands_still ⨾
    tick 1 ⇒ advanced ⨾
    life 0 1 ⇒ lasts 0 1 ⨾
    life 0 2 ⇒ refused 12
    clockReads 1 ∷
    -- 2. The setter's own block makes the advance at which its expiration would be due: it is put off first.
    fresh standard runs
    join 0 ⇒ done ⨾
    join 1 ⇒ done ⨾
    make 0 Global 0 4 ⇒ handle 1 ⨾
    tick 0 ⇒ stands_still ⨾
    tick 1 ⇒ advanced ⨾
    life 1 1 ⇒ lasts 0 1 ⨾
    tick 1 ⇒ stands_still ⨾
    block 0 ⇒ advanced ⨾
    life 1 1 ⇒ lasts 0 1
    clockReads 1 ∷
    -- 3. The setter leaves while it waits: from then on its expiration counts.
    fresh standard runs
    join 0 ⇒ done ⨾
    join 1 ⇒ done ⨾
    make 0 Global 0 4 ⇒ handle 1 ⨾
    block 0 ⇒ stands_still ⨾
    tick 1 ⇒ advanced ⨾
    leave 0 ⇒ stands_still ⨾
    life 1 1 ⇒ lasts 0 2 ⨾
    tick 1 ⇒ advanced ⨾
    life 1 1 ⇒ lasts 0 1 ⨾
    tick 1 ⇒ advanced ⨾
    read 1 1 ⇒ refused 12
    clockReads 0 ∷
    -- 4. The setter leaves, and another of its number joins and waits: that is not the setter.
    fresh standard runs
    join 0 ⇒ done ⨾
    join 1 ⇒ done ⨾
    make 0 Global 0 4 ⇒ handle 1 ⨾
    leave 0 ⇒ stands_still ⨾
    join 0 ⇒ done ⨾
    block 0 ⇒ stands_still ⨾
    tick 1 ⇒ advanced ⨾
    life 1 1 ⇒ lasts 0 1 ⨾
    tick 1 ⇒ advanced ⨾
    read 1 1 ⇒ refused 12
    clockReads 0 ∷
    []

-- What an event leaves of one global expiration, by the ledger's rule
abbrev pub global_one : ℕ → ℕ → ℕ → Expiration
global_one handle setter at = record { handle = handle; due = by_global setter at }

abbrev pub left_of_one : Event → ℕ → Clocks → Expiration → List Expiration
left_of_one event task clocks x = lasting event task (advances event task clocks) (clocks_after event task clocks) (x ∷ [])

-- it is left, of the same object and with so many units
pub record LeftWith (event : Event) (task : ℕ) (clocks : Clocks) (x : Expiration) (count : ℕ) : Type 0 where
  pub one : Expiration
  pub left : left_of_one event task clocks x ≡ one ∷ []
  pub object : one.handle ≡ x.handle
  pub units : remaining (clocks_after event task clocks) one.due ≡ count

-- a task waits after the event
abbrev pub waits_after : Event → ℕ → Clocks → ℕ → Bool
waits_after event task clocks who = is_waiting (task_at (clocks_after event task clocks) who).state

-- What an advance leaves of a global expiration:
pub record AdvanceLeaves (event : Event) (task : ℕ) (clocks : Clocks) : Type 0 where
  -- one whose setter waits then keeps all its units,
  pub waits : (handle setter at : ℕ) → waits_after event task clocks setter ≡ true → 1 ≤ remaining clocks (by_global setter at)
      → LeftWith event task clocks (global_one handle setter at) (remaining clocks (by_global setter at))
  -- and any other has one less, or ends with its last.
  pub counts : (handle setter at : ℕ) → waits_after event task clocks setter ≡ false → 2 ≤ remaining clocks (by_global setter at)
      → LeftWith event task clocks (global_one handle setter at) (remaining clocks (by_global setter at) - 1)
  pub ends : (handle setter at : ℕ) → waits_after event task clocks setter ≡ false → remaining clocks (by_global setter at) ≡ 1
      → left_of_one event task clocks (global_one handle setter at) ≡ []

pub record WaitingEatsNothing : Type 0 where
  -- E20: so does every advance, whoever brings it, where the clocks are as a ledger keeps them;
  pub every : (event : Event) (task : ℕ) (clocks : Clocks) → ClocksKept clocks → advances event task clocks ≡ true → AdvanceLeaves event task clocks
  -- E21: by such clocks no departed setter waits.
  pub gone : (clocks : Clocks) → ClocksKept clocks → is_waiting (task_at clocks departed).state ≡ false
  pub four : length waiting_edges ≡ 4
  pub rows : All RowHolds waiting_edges
