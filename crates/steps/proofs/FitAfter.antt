-- An accepted event leaves a well-formed record well-formed.
use Prim.Native.Nat.{ℕ, ◌<◌}
use native.Mathlib.Omega.{arith}
use mathlib.Core.Bool.{Bool, true, false, true≢false, not}
use mathlib.Core.List.{List, map}
use mathlib.Core.Path.{◌≡◌, refl, sym, ◌∙◌}
use borrow.Author.Tests.{eqb-false, not-true}
use lib.Dec.{eqb}
use lib.ListN.{get_or, set, get_or-map}
use Rattle.lists.specs.Tests.{all}
use Rattle.lists.proofs.Cases.{and₃, or_map}
use Rattle.lists.proofs.All.{all_get_or}
use Rattle.lists.proofs.Tests.{passes_imp, passes_map, passes_set, passes_at}
use Rattle.ledger.specs.Limits.{task_count, counter_range}
use Rattle.ledger.specs.Tasks.{is_absent, is_running, all_ticked}
use Rattle.ledger.specs.Expirations.{departed}
use Rattle.ledger.proofs.KeptTasks.{stopped}
use Rattle.ledger.specs.declared.State.TheVariants.{Running}
use Rattle.ledger.specs.declared.Event.{Event}
use Rattle.ledger.specs.declared.Event.TheVariants.{Leave, Block, Resume, Tick, View}
use Rattle.record.specs.Codes.{state_of, task_of, due_of, absent_entry}
use Rattle.record.specs.Reading.{Typed}
use Rattle.record.specs.WellFormed.{is_fit_task, is_fit_due}
use Rattle.record.specs.declared.TaskEntry.{TaskEntry}
use Rattle.record.specs.declared.GlobalTime.{GlobalTime}
use Rattle.record.specs.Tables.{Tables}
use Rattle.record.specs.declared.Due.{Due}
use Rattle.record.specs.declared.Due.TheVariants.{Free, Local, Global, Pinned, Unknown}
use Rattle.record.proofs.Facts.{Fit}
use Rattle.steps.specs.Events.{verdict_of, unticked_entry, advanced_tasks, advanced_time, swept, with_times, orphaned_pool, moved_pool, pool_after}
use Rattle.ledger.specs.declared.Limits.{Limits}
use Rattle.steps.proofs.FitTasks.{Later, later_same, later_next, StaysPresent, OthersStayPresent, set_stays_present, tick_running, ticked_fits, unticked_fits, advanced_unticked, running_unticked, idle_unticked, view_absent}
use Rattle.steps.proofs.FitSwept.{local_fits, fit_swept}
use Rattle.steps.proofs.Orphans.{fit_orphaned, typed_orphaned}
use Rattle.std.specs.Prelude.{Ok}

-- an expiration stays fit while its task stays present with the same clock
same_fits : (limits : Limits) (before after : TaskEntry) (global : GlobalTime) (used : Bool) (due : Due) → StaysPresent ◌≡◌ before after
    → is_fit_due limits before global used due ≡ true → is_fit_due limits after global used due ≡ true
unfolding is_fit_due
same_fits limits before after global used Free f e = refl
same_fits limits before after global used (Local setter at) f e =
    local_fits limits before after global global used setter at
    (λ present. let (stays, same) = f present in (stays, λ left. rw (← same) left)) e
same_fits limits before after global used (Global setter at) f e =
    let (named, there, ahead) = and₃ used _ _ e in
    rw (named, or_map (eqb setter departed) {c = not (is_absent (state_of after.state))} (λ here. rw (f (not-true _ here)).0) there, ahead)
same_fits limits before after global used (Pinned due) f e = e
same_fits limits before after global used Unknown f e = e

-- the record after the advance test
fit_advanced : (advanced : Bool) (leaver : ℕ) (tasks : List TaskEntry) (p : Tables) → Fit p → p.global.0 < counter_range
    → OthersStayPresent leaver p.tasks tasks → all is_fit_task tasks ≡ true → all_ticked (map task_of (advanced_tasks advanced tasks)) ≡ false
    → Fit (swept leaver advanced (advanced_tasks advanced tasks) (advanced_time advanced p.global) p)
fit_advanced true leaver tasks p f r follows fits unticked =
    fit_swept leaver true (map unticked_entry tasks) p
    (λ any other. rw (get_or-map unticked_entry tasks any absent_entry) (follows any other)) r f
    (passes_map is_fit_task unticked_entry unticked_fits tasks fits) unticked
fit_advanced false leaver tasks p f r follows fits unticked =
    fit_swept leaver false tasks p follows r f fits unticked

-- The record after one task's entry is set
module _ (p : Tables) (f : Fit p) (task : ℕ) (e : TaskEntry) (fits : is_fit_task e ≡ true) where
  set_fits : all is_fit_task (set p.tasks task e) ≡ true
  set_fits = passes_set is_fit_task p.tasks task e f.tasks fits

  -- by an event with the advance test
  fit_tested : Typed p → (leaver : ℕ) → (eqb task leaver ≡ false → StaysPresent Later (get_or p.tasks task absent_entry) e)
      → let tasks = set p.tasks task e in
      let advanced = all_ticked (map task_of tasks) in
      Fit (swept leaver advanced (advanced_tasks advanced tasks) (advanced_time advanced p.global) p)
  fit_tested r leaver follows =
      let tasks = set p.tasks task e in
      fit_advanced (all_ticked (map task_of tasks)) leaver tasks p f r.global
      (λ any other. set_stays_present Later later_same p.tasks task e any (λ at. follows (rw (← at) other))) set_fits (advanced_unticked tasks)

  -- by an event with none, after which not all that run are ticked
  fit_untested : all_ticked (map task_of (set p.tasks task e)) ≡ false → StaysPresent ◌≡◌ (get_or p.tasks task absent_entry) e
      → Fit (with_times (set p.tasks task e) p.global p)
  fit_untested unticked follows =
      record {
        tasks = set_fits;
        unticked = unticked;
        entries =
            passes_imp
            (λ x. same_fits p.limits _ _ _ _ (due_of x) (set_stays_present ◌≡◌ (λ now. refl) p.tasks task e _ (λ at. follows)))
            p.expirations f.entries;
        blocks = f.blocks;
        distinct = f.distinct;
        once = f.once;
        allowed = f.allowed;
        listed = f.listed;
        counted = f.counted;
      }

  -- as where it makes the task run,
  pub fit_running : state_of e.state ≡ Running → eqb e.ticked 1 ≡ false → StaysPresent ◌≡◌ (get_or p.tasks task absent_entry) e
      → Fit (with_times (set p.tasks task e) p.global p)
  fit_running running unticked follows = fit_untested (running_unticked p.tasks task e running unticked f.unticked) follows

  -- or an absent one a viewer
  fit_viewing : is_running (state_of e.state) ≡ false → is_absent (state_of (get_or p.tasks task absent_entry).state) ≡ true
      → Fit (with_times (set p.tasks task e) p.global p)
  fit_viewing still absent =
      fit_untested (idle_unticked p.tasks task e still (stopped (state_of (get_or p.tasks task absent_entry).state) absent) f.unticked)
      (λ present. absurd (true≢false (sym absent ∙ present)))

-- the five events
fit_moved : (event : Event) (task : ℕ) (p : Tables) → Fit p → Typed p
    → verdict_of event (state_of (get_or p.tasks task absent_entry).state) ≡ Ok tt → Fit (moved_pool event task p)
unfolding moved_pool is_fit_task counter_range
fit_moved Leave task p f r a =
    fit_tested p f task _ refl r task (λ other. absurd (eqb-false task task other refl))
fit_moved Block task p f r a = fit_tested p f task _ refl r task_count (λ other present. (refl, later_same _))
fit_moved Resume task p f r a = fit_running p f task _ refl refl refl (λ present. (refl, refl))
fit_moved View task p f r a = fit_viewing p f task _ refl refl (rw (view_absent (state_of (get_or p.tasks task absent_entry).state) a))
fit_moved Tick task p f r a =
    let entry = get_or p.tasks task absent_entry in
    let fits = passes_at is_fit_task p.tasks task absent_entry f.tasks refl in
    let range = all_get_or _ absent_entry (omega arith) p.tasks r.clocks task in
    fit_tested p f task _ (ticked_fits entry (tick_running (state_of entry.state) a) fits) r task_count (λ other present. (present, later_next _ range))

-- W13: the step of an event, but for the shares
pub fit_after : (event : Event) (task : ℕ) (p : Tables) → Fit p → Typed p
    → verdict_of event (state_of (get_or p.tasks task absent_entry).state) ≡ Ok tt → Fit (pool_after event task p)
unfolding pool_after orphaned_pool
fit_after event task p f r a = fit_moved event task (orphaned_pool event task p) (fit_orphaned event task p f) (typed_orphaned event task p r) a
