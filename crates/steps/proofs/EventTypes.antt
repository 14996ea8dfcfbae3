-- A value of the record's type stays one under an event: the lengths of its tables and the range of its counters.
use Prim.Native.Nat.{ℕ, ◌<◌}
use native.Mathlib.Omega.{arith}
use mathlib.Core.Bool.{Bool, true, false}
use mathlib.Core.List.{List, map}
use mathlib.Core.Path.{◌≡◌, ◌∙◌}
use lib.ListN.{length, get_or, length-set, length-map}
use Rattle.lists.specs.Tests.{All}
use Rattle.lists.proofs.All.{all_set, all_map, all_get_or}
use Rattle.lists.proofs.Tables.{length_map_from}
use Rattle.lists.proofs.Cases.{by_test}
use Rattle.ledger.specs.Limits.{counter_range, task_count}
use Rattle.ledger.specs.Tasks.{is_tested, all_ticked}
use Rattle.ledger.specs.declared.Event.{Event}
use Rattle.ledger.specs.declared.Event.TheVariants.{Leave, Block, Resume, Tick, View}
use Rattle.record.specs.Codes.{task_of, absent_entry}
use Rattle.record.specs.Reading.{Typed}
use Rattle.record.specs.declared.TaskEntry.{TaskEntry}
use Rattle.record.specs.declared.GlobalTime.{GlobalTime}
use Rattle.record.specs.Tables.{Tables}
use Rattle.steps.specs.Events.{moved_entry, unticked_entry, moved_tasks, advanced_tasks, advanced_time, leaver_of, swept, orphaned_pool, moved_pool, pool_after, outcome_by, scheduled}
use Rattle.steps.proofs.EventsFollow.{record_verdict}
use Rattle.steps.proofs.Orphans.{typed_orphaned}
use Rattle.ledger.specs.Refusals.{Verdict}
use Rattle.std.specs.Prelude.{Ok, Err}

-- the clock of an entry is in its range
abbrev pub InRange : TaskEntry → Type 0
InRange e = e.clock.0 < counter_range

moved_range : (event : Event) (e : TaskEntry) → InRange e → InRange (moved_entry event e)
unfolding counter_range
moved_range Leave e h = omega arith
moved_range Block e h = h
moved_range Resume e h = h
moved_range View e h = omega arith
moved_range Tick e h = omega arith

-- the entries after an event
pub moved_sixteen : (event : Event) (task : ℕ) (tasks : List TaskEntry) → length tasks ≡ task_count → length (moved_tasks event task tasks) ≡ task_count
moved_sixteen event task tasks h = rw length-set h

pub moved_clocks : (event : Event) (task : ℕ) (tasks : List TaskEntry) → All InRange tasks → All InRange (moved_tasks event task tasks)
unfolding counter_range
moved_clocks event task tasks h =
    all_set InRange tasks task h (moved_range event (get_or tasks task absent_entry) (all_get_or InRange absent_entry (omega arith) tasks h task))

-- the entries and the global time after the advance test
pub advanced_sixteen : (advanced : Bool) (tasks : List TaskEntry) → length tasks ≡ task_count → length (advanced_tasks advanced tasks) ≡ task_count
advanced_sixteen true tasks h = length-map tasks unticked_entry ∙ h
advanced_sixteen false tasks h = h

pub advanced_clocks : (advanced : Bool) (tasks : List TaskEntry) → All InRange tasks → All InRange (advanced_tasks advanced tasks)
advanced_clocks true tasks h = all_map InRange unticked_entry tasks h
advanced_clocks false tasks h = h

pub advanced_global : (advanced : Bool) (global : GlobalTime) → global.0 < counter_range → (advanced_time advanced global).0 < counter_range
unfolding counter_range
advanced_global true global h = omega arith
advanced_global false global h = h

-- The record with these tasks and this time, before and after a sweep
module _ (tasks : List TaskEntry) (global : GlobalTime) (p : Tables) (types : Typed p) (sixteen : length tasks ≡ task_count) (clocks : All InRange tasks)
    (range : global.0 < counter_range) where
  pub typed_put : Typed (record { limits = p.limits; tasks = tasks; global = global; given = p.given; shares = p.shares; blocks = p.blocks; expirations = p.expirations })
  typed_put =
      record {
        tasks = sixteen;
        shares = types.shares;
        blocks = types.blocks;
        expirations = types.expirations;
        clocks = clocks;
        global = range;
        given = types.given;
      }

  pub typed_swept : (leaver : ℕ) (advanced : Bool) → Typed (swept leaver advanced tasks global p)
  unfolding swept
  typed_swept leaver advanced =
      record {
        tasks = sixteen;
        shares = types.shares;
        blocks = length_map_from 0 _ p.blocks ∙ types.blocks;
        expirations = length-map p.expirations _ ∙ types.expirations;
        clocks = clocks;
        global = range;
        given = types.given;
      }

-- an accepted event, and any
typed_moved : (event : Event) (task : ℕ) (p : Tables) → Typed p → Typed (moved_pool event task p)
unfolding moved_pool
typed_moved event task p types =
    let tasks = moved_tasks event task p.tasks in
    let advanced = all_ticked (map task_of tasks) in
    let time = advanced_time advanced p.global in
    let sixteen = moved_sixteen event task p.tasks types.tasks in
    let clocks = moved_clocks event task p.tasks types.clocks in
    by_test (is_tested event)
    (λ e. rw e
    (typed_swept (advanced_tasks advanced tasks) time p types (advanced_sixteen advanced tasks sixteen) (advanced_clocks advanced tasks clocks)
    (advanced_global advanced p.global types.global) (leaver_of event task) advanced))
    (λ e. rw e (typed_put tasks p.global p types sixteen clocks types.global))

pub typed_after : (event : Event) (task : ℕ) (p : Tables) → Typed p → Typed (pool_after event task p)
unfolding pool_after
typed_after event task p types = typed_moved event task (orphaned_pool event task p) (typed_orphaned event task p types)

pub typed_scheduled : (event : Event) (task : ℕ) (p : Tables) → Typed p → Typed (scheduled event task p).pool
unfolding scheduled
typed_scheduled event task p types = by (record_verdict event task p)
  where
    by : (v : Verdict) → Typed (outcome_by v event task p).pool
    by (Ok _) = typed_after event task p types
    by (Err r) = types
