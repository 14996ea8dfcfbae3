-- What an event ends.
use Rattle.std.specs.Prelude.{◌≡◌, ℕ, ◌+◌, Bool, false, cond, ◌&&◌, ◌||◌, List, map, length, ◌==◌, slice_index}
use Rattle.lists.specs.Filled.{Filled}
use Rattle.lists.specs.Tests.{any}
use Rattle.lists.specs.Tables.{map_from}
use Rattle.record.specs.Codes.{due_by, due_of, units_left, local_code, freed_entry}
use Rattle.record.specs.Tables.{ExpirationEntry, blocks_of, entries_of, block_entries, expiration_entries, group_size}
use Rattle.record.specs.declared.Due.{Due}
use Rattle.record.specs.declared.Due.TheVariants.{Free, Local, Global, Pinned, Unknown}
use Rattle.record.specs.declared.TaskEntry.{TaskEntry}
use Rattle.steps.specs.Events.{kept_block}
use Rattle.endings.specs.Late.{late_in}
use Rattle.expirations.specs.Places.{SomeBetween, Changed}
use Rattle.endings.specs.declared.Passing.{Passing}

-- an expiration ends where its time has come by the clock that has moved, or where its setter leaves
abbrev pub is_ending : Passing → Due → Bool
is_ending t Free = false
is_ending t (Local setter at) = setter == t.task && (t.leaves || units_left at.0 t.local.0 == 0)
is_ending t (Global setter at) = t.advanced && units_left at.0 t.global.0 == 0
is_ending t (Pinned due) = false
is_ending t Unknown = false

abbrev pub ended_entry : Passing → ExpirationEntry → ExpirationEntry
ended_entry t e = cond (is_ending t (due_of e)) (freed_entry e) e

-- the same of a place and its clock, with the due numbers of all
abbrev pub is_ending_at : Passing → List ℕ → ℕ → ℕ → Bool
is_ending_at t dues k clock = is_ending t (due_by clock (slice_index dues k))

-- nothing is left at a place by a time; and which of the places of a group are so
abbrev pub is_over_at : ℕ → List ℕ → ℕ → Bool
is_over_at now dues k = units_left (slice_index dues k) now == 0

abbrev pub Over : ℕ → List ℕ → ℕ → List Bool → Type 0
Over now dues from r = Filled false (λ k x. x ≡ is_over_at now dues (from + k)) group_size group_size r

-- a code is a clock's, and nothing is left by that
abbrev pub is_its_over_at : (ℕ → Bool) → ℕ → List ℕ → ℕ → ℕ → Bool
is_its_over_at its now dues k clock = its clock && is_over_at now dues k

-- a clock is a task's own, by its code; and which of its task's an event ends
abbrev pub is_own_at : ℕ → ℕ → ℕ → Bool
is_own_at own k clock = clock == own

abbrev pub is_own_ending_at : Passing → List ℕ → ℕ → ℕ → Bool
is_own_ending_at t dues k clock = is_own_at (local_code + t.task) k clock && (t.leaves || is_over_at t.local.0 dues k)

-- What passes a test of place and clock is ended from place a up to b, and r says whether that was any.
pub record EndedBy (p : ℕ → ℕ → Bool) (a b : ℕ) (clocks clocks' : List ℕ) (r : Bool) : Type 0 where
  pub changed : Changed 0 (λ k clock. cond (p k clock) 0 clock) a b clocks clocks'
  pub asked : SomeBetween (λ k. p k (slice_index clocks k)) a b r

-- what an event ends
abbrev pub Ended : Passing → List ℕ → ℕ → ℕ → List ℕ → List ℕ → Bool → Type 0
Ended t dues a b clocks clocks' r = EndedBy (is_ending_at t dues) a b clocks clocks' r

-- Both tables after an event: of what a leave and an advance make of the entries, what it ends is ended; and where it ends anything, the
-- blocks that none names any more are free.
pub record Ends (t : Passing) (tasks : List TaskEntry) (named dues handles clocks handles' clocks' dues' : List ℕ) : Type 0 where
  pub handles_size : length handles' ≡ block_entries
  pub clocks_size : length clocks' ≡ expiration_entries
  pub dues_size : length dues' ≡ expiration_entries
  pub entries : entries_of clocks' named dues' ≡ map (ended_entry t) (late_in t tasks (entries_of clocks named dues))
  pub blocks : (extents : List ℕ) → length extents ≡ block_entries
      → blocks_of handles' extents
      ≡ cond (any (λ (e : ExpirationEntry). is_ending t (due_of e)) (late_in t tasks (entries_of clocks named dues)))
      (map_from 0 (kept_block (entries_of clocks' named dues')) (blocks_of handles extents)) (blocks_of handles extents)
