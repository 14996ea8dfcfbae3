-- The calls of tasks on lent tables, by what they plan and what the expirations' part ends.
use Rattle.record.specs.declared.ExpirationTable.{ExpirationTable}
use Rattle.record.specs.declared.BlockTable.{BlockTable}
use Rattle.tasks.specs.declared.Ending.{Ending}
use Prim.Native.Nat.{ℕ}
use mathlib.Core.Bool.{true, false, cond}
use mathlib.Core.List.{List, map}
use mathlib.Core.Path.{◌≡◌, refl, sym, ap, ◌∙◌}
use lib.ListN.{length}
use Rattle.lists.specs.Tables.{map_from}
use Rattle.ledger.specs.Limits.{task_count}
use Rattle.ledger.specs.declared.Call.TheVariants.{Schedule}
use Rattle.ledger.specs.Objects.{shares_after}
use Rattle.ledger.specs.declared.Share.{Share}
use Rattle.ledger.specs.Tasks.{is_tested}
use Rattle.ledger.specs.declared.Event.{Event}
use Rattle.ledger.specs.declared.Event.TheVariants.{Leave, Block, Resume, Tick, View}
use Rattle.ledger.specs.declared.Request.TheVariants.{Use}
use Rattle.record.specs.Reading.{HeadTyped}
use Rattle.record.specs.Tables.{ExpirationEntry, Tables, Sized, blocks_of, entries_of, tables_by, tables_of, pooled, block_list, expiration_list}
use Rattle.record.specs.Pools.{is_well_formed}
use Rattle.record.specs.declared.GlobalTime.{GlobalTime}
use Rattle.record.specs.declared.TaskEntry.{TaskEntry}
use Rattle.record.specs.declared.Head.{Head}
use Rattle.record.specs.declared.Pool.{Pool}
use Rattle.record.proofs.Facts.{Fit, fit_parts}
use Rattle.steps.specs.Events.{leaver_of, late_entry, passed_entry, kept_block, swept, orphaned_block, orphaned_pool, verdict_at, scheduled}
use Rattle.steps.proofs.Orphans.{kept_orphaned}
use Rattle.endings.specs.Makers.{orphaned_extents}
use Rattle.endings.proofs.Orphaned.{orphaned_blocks, orphaned_size}
use Rattle.steps.proofs.Late.{late_blocks}
use Rattle.tasks.specs.Steps.{is_leave, planned_after, planned_by, planned}
use Rattle.tasks.specs.declared.Planned.{Planned}
use Rattle.endings.specs.Ending.{Ends}
use Rattle.calls.specs.Engine.{with_times, shares_left, FollowsBeside, FollowsAlone}
use Rattle.calls.proofs.Lent.{lent_typed}
use Rattle.calls.proofs.Passing.{passing_of, leaver_as, kept_as}
use Rattle.calls.proofs.Scheduled.{Swept, advanced, schedule_obeys, planned_answer, refused_unmoved, still_planned, swept_planned, blocks_left}
use Rattle.ledger.specs.Refusals.{Verdict}
use Rattle.std.specs.Prelude.{Ok, Err, None, Some}

-- the head that a plan leaves
abbrev pub head_after : ℕ → Planned → Ending → Head → Head
head_after task q e h = record { limits = h.limits; tasks = q.tasks; global = q.global; given = h.given; shares = shares_left e.leaves task h.shares }

shares_as : (event : Event) (task : ℕ) (shares : List Share) → shares_left (is_leave event) task shares ≡ shares_after event task shares
unfolding shares_after
shares_as Leave task shares = refl
shares_as Block task shares = refl
shares_as Resume task shares = refl
shares_as View task shares = refl
shares_as Tick task shares = refl

module _ {h : Head} {blocks : BlockTable} {expirations : ExpirationTable} (types : HeadTyped h) (z : Sized blocks expirations) (event : Event) (task : ℕ)
    {q : Planned} (so : q ≡ planned event task h.tasks h.global) where
  -- nothing may end: the tables stay
  pub schedule_still : q.ending ≡ None → FollowsBeside (Use (Schedule event task)) h blocks expirations q.answer (with_times h q.tasks q.global) blocks expirations
  unfolding tables_of tables_by
  schedule_still s =
      record {
        sized = z;
        follows = λ w small large.
            let p : Pool = pooled h blocks expirations in
            let t = lent_typed h blocks expirations types z.blocks z.entries in
            schedule_obeys event task {p = p} {p' = pooled (with_times h q.tasks q.global) blocks expirations} t w small large
            (rw so (planned_answer event task (tables_of p)))
            (rw so (sym (still_planned event task (tables_of p) t w (rw so at s))))
            (λ why r.
            let u = refused_unmoved event task h.tasks h.global why (rw so at r) in
            rw (so, u.same_tasks, u.same_time) refl);
      }

  module _ {e : Ending} {hs' ls' cs' ds' : List ℕ} (s : q.ending ≡ Some e) (ends : Ends (passing_of task q.global e) q.tasks expirations.named expirations.dues blocks.handles expirations.clocks hs' cs' ds') (made : ls' ≡ orphaned_extents (passing_of task q.global e) blocks.extents)
      (w : is_well_formed (pooled h blocks expirations) ≡ true) where
    abbrev before : Tables
    before = tables_by h (block_list blocks) (expiration_list expirations)

    plan : Swept event task before q e
    unfolding tables_by
    plan = rw so (swept_planned event task before (rw so at s))

    fit : Fit before
    unfolding tables_of
    fit = fit_parts before w

    -- the entries before they are judged
    abbrev late : List ExpirationEntry
    late = map (late_entry (cond e.leaves task task_count) e.advanced q.tasks) (expiration_list expirations)

    -- the entries that are left
    kept : map (passed_entry (leaver_of event task) (advanced event task before) q.tasks q.global) (expiration_list expirations) ≡ entries_of cs' expirations.named ds'
    unfolding tables_by
    kept =
        rw (ends.entries, plan.plan, plan.ends, leaver_as event task)
        (kept_as event task h.tasks h.global types.tasks plan.known (advanced event task before) h.limits (block_list blocks) (expiration_list expirations) fit.entries)

    -- the blocks
    freed : map_from 0 (kept_block (entries_of cs' expirations.named ds')) (block_list blocks) ≡ blocks_of hs' blocks.extents
    unfolding tables_by
    freed =
        rw (ends.blocks blocks.extents z.blocks.of_extents, ends.entries)
        (sym
        (blocks_left h.given (passing_of task q.global e) late (block_list blocks)
        (late_blocks (cond e.leaves task task_count) e.advanced q.tasks h.given (expiration_list expirations) (block_list blocks) fit.blocks)))

    -- and their makers
    left_makers : map_from 0 (kept_block (entries_of cs' expirations.named ds')) (map (orphaned_block (leaver_of event task)) (block_list blocks)) ≡ blocks_of hs' ls'
    left_makers =
        kept_orphaned (leaver_of event task) (entries_of cs' expirations.named ds') 0 (block_list blocks) ∙ ap (map (orphaned_block (leaver_of event task))) freed
        ∙ ap (λ (leaver : ℕ). map (orphaned_block leaver) (blocks_of hs' blocks.extents)) its_leaver ∙ sym (ap (blocks_of hs') made ∙ orphaned_blocks (passing_of task q.global e) hs' blocks.extents)
      where
        its_leaver : leaver_of event task ≡ cond e.leaves task task_count
        its_leaver = rw plan.ends (sym (leaver_as event task))

    ended_left : tables_of (pooled (head_after task q e h) (record { handles = hs'; extents = ls' }) (record { clocks = cs'; named = expirations.named; dues = ds' })) ≡ (scheduled event task before).pool
    unfolding tables_of tables_by swept orphaned_pool
    ended_left = sym (plan.left ∙ rw (kept, left_makers, ← shares_as event task h.shares, plan.plan, plan.ends))

  -- what is over has ended
  pub schedule_ended : {e : Ending} {hs' ls' cs' ds' : List ℕ} → q.ending ≡ Some e → Ends (passing_of task q.global e) q.tasks expirations.named expirations.dues blocks.handles expirations.clocks hs' cs' ds' → ls' ≡ orphaned_extents (passing_of task q.global e) blocks.extents
      → FollowsBeside (Use (Schedule event task)) h blocks expirations q.answer (head_after task q e h) (record { handles = hs'; extents = ls' }) (record { clocks = cs'; named = expirations.named; dues = ds' })
  unfolding tables_of tables_by
  schedule_ended {e} {hs'} {ls'} {cs'} {ds'} s ends made =
      record {
        sized =
            record {
              blocks = record { of_handles = ends.handles_size; of_extents = ap length made ∙ orphaned_size (passing_of task q.global e) blocks.extents ∙ z.blocks.of_extents };
              entries = record { of_clocks = ends.clocks_size; of_named = z.entries.of_named; of_dues = ends.dues_size };
            };
        follows = λ w small large.
            let p : Pool = pooled h blocks expirations in
            let t = lent_typed h blocks expirations types z.blocks z.entries in
            schedule_obeys event task {p = p} {p' = pooled (head_after task q e h) (record { handles = hs'; extents = ls' }) (record { clocks = cs'; named = expirations.named; dues = ds' })} t w small large
            (rw so (planned_answer event task (tables_of p)))
            (ended_left s ends made w)
            (λ why r.
            let u = refused_unmoved event task h.tasks h.global why (rw so at r) in
            let none : q.ending ≡ None = rw so u.still in
            absurd (cc (sym s ∙ none)));
      }

-- an event that no advance test follows ends nothing, whatever columns stand beside it
unended : (v : Verdict) (event : Event) (task : ℕ) (tasks : List TaskEntry) (global : GlobalTime) → is_tested event ≡ false
    → (planned_by v event task tasks global).ending ≡ None
unfolding planned_after
unended (Ok _) event task tasks global e = rw e
unended (Err r) event task tasks global e = refl

pub start_alone : {h : Head} → HeadTyped h → (event : Event) (task : ℕ) {q : Planned} → is_tested event ≡ false → q ≡ planned event task h.tasks h.global
    → FollowsAlone (λ blocks. Unit) (Use (Schedule event task)) h q.answer (with_times h q.tasks q.global)
unfolding planned
start_alone {h} types event task {q} untested so =
    let ends = unended (verdict_at event task h.tasks) event task h.tasks h.global untested in
    record { follows = λ blocks expirations z known w. (schedule_still types z event task so (rw so ends)).follows w }
