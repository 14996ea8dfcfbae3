-- An event on a well-formed record follows the ledger: whatever ledger the record reads as, the answer is that ledger's and what is left
-- reads as its next.
use Prim.Native.Nat.{ℕ, ◌<◌}
use borrow.Author.Tests.{leb-false}
use mathlib.Core.Bool.{Bool, true, false, cond}
use mathlib.Core.List.{List, [], map, Permᴰ}
use mathlib.Core.Option.{Option, none, some}
use mathlib.Core.Path.{◌≡◌, refl, sym, ap, ◌∙◌}
use lib.Dec.{leb}
use lib.ListN.{length, get_or}
use Rattle.lists.specs.Tables.{read_by, read_from, map_from}
use Rattle.lists.proofs.Cases.{by_test}
use Rattle.ledger.specs.Limits.{task_count}
use Rattle.ledger.specs.Tasks.{Clocks, task_at, clocks_after, is_absent, is_tested, all_ticked}
use Rattle.ledger.specs.Objects.{with_clocks}
use Rattle.ledger.specs.Rules.{reply_to, memory_after, expirations_after}
use Rattle.ledger.specs.Refusals.{as_verdict, Verdict}
use Rattle.ledger.specs.Kept.{PinsKept}
use Rattle.ledger.proofs.KeptPins.{pins_carried}
use Rattle.ledger.proofs.KeptShares.{shares_filter, shares_after_lem}
use Rattle.ledger.specs.Ledger.{Ledger, settled, reply_by, after_by, verdict_on, reply, next}
use Rattle.ledger.specs.Compared.{shown, view_of}
use Rattle.ledger.specs.declared.Share.{Share}
use Rattle.ledger.specs.declared.Event.{Event}
use Rattle.ledger.specs.declared.Event.TheVariants.{View}
use Rattle.ledger.specs.Expirations.{Expiration}
use Rattle.ledger.specs.declared.Refusal.TheVariants.{NoSuchTask}
use Rattle.ledger.specs.declared.Call.TheVariants.{Schedule}
use Rattle.record.specs.Codes.{state_of, task_of, absent_entry}
use Rattle.record.specs.Reading.{shown_entry, object_in, record_view, is_whole, Typed, Reads}
use Rattle.record.specs.WellFormed.{is_well_formed}
use Rattle.record.specs.declared.TaskEntry.{TaskEntry}
use Rattle.record.specs.Tables.{BlockEntry, ExpirationEntry, Tables}
use Rattle.record.specs.declared.GlobalTime.{GlobalTime}
use Rattle.record.proofs.Facts.{Fit, Shared, fit_parts, shared_part, fit_whole}
use Rattle.record.proofs.Exists.{fit_tables_read}
use Rattle.steps.specs.Events.{verdict_of, verdict_at, moved_tasks, advanced_tasks, advanced_time, leaver_of, passed_entry, kept_block, swept, orphaned_pool, moved_pool, pool_after, answer_after, outcome_by, scheduled}
use Rattle.ledger.specs.declared.Refusal.{Refusal}
use Rattle.steps.proofs.FitAfter.{fit_after}
use Rattle.steps.proofs.Orphans.{shares_counted, with_makers, fit_orphaned, reads_orphaned}
use Rattle.steps.proofs.Shares.{shared_kept, kept_shared}
use Rattle.steps.proofs.FitTasks.{view_absent}
use Rattle.steps.proofs.ReadTasks.{ClocksAlike, state_alike, event_verdict, advances_alike, clocks_alike, untested_clocks_alike}
use Rattle.steps.proofs.ReadExpirations.{expirations_alike, untested_expirations_alike}
use Rattle.steps.proofs.ReadObjects.{freed_shown, objects_alike, standing_ascending}
use Rattle.steps.proofs.Standing.{none_freed}
use Rattle.std.specs.Prelude.{Ok, Err}

-- entries, times and expirations on the same blocks that are alike: so is the whole, once what is not named is free
pub reads_with : (p : Tables) (small large : List ℕ) (L : Ledger) → Fit p → Reads p small large L → (entries : List TaskEntry) (time : GlobalTime)
    (blocks : List BlockEntry) (xs : List ExpirationEntry) (clocks : Clocks) (ys : List Expiration) (handles : List ℕ) {shares kept : List Share} → shares ≡ kept → PinsKept handles ys → ClocksAlike entries time clocks
    → Permᴰ (read_by (shown_entry entries time p.blocks) xs) (map (shown clocks) ys)
    → read_from 0 (object_in small large) blocks ≡ read_from 0 (object_in small large) (map_from 0 (kept_block xs) p.blocks)
    → read_by (shown_entry entries time blocks) xs ≡ read_by (shown_entry entries time p.blocks) xs
    → Reads (record { limits = p.limits; tasks = entries; global = time; given = p.given; shares = shares; blocks = blocks; expirations = xs }) small large
    (settled (record { limits = L.memory.limits; clocks = clocks; given = L.memory.given; objects = L.memory.objects; shares = kept; pinned = handles }) ys)
unfolding record_view view_of
reads_with p small large L fit reads entries time blocks xs clocks ys handles held pins same alike freed shows =
    record {
      alike =
          record {
            limits = reads.alike.limits;
            tasks = same.tasks;
            global = same.global;
            given = reads.alike.given;
            shares = held;
            objects =
                rw freed
                (objects_alike entries time p.blocks xs fit.distinct clocks ys alike small large (is_whole p.limits small large) L.memory.objects
                reads.alike.objects);
            expirations = rw shows alike;
          };
      ascending = standing_ascending ys L.memory.objects reads.ascending;
      pins = pins;
    }

-- the ledger after an event that it carries out, with its makers as they were
abbrev moving : Event → ℕ → Ledger → Ledger
moving event task L =
    let m = L.memory in
    settled (with_clocks (clocks_after event task m.clocks) m)
    (expirations_after (Schedule event task) [] L.memory L.expirations)

-- the ledger after an event that it carries out
abbrev after : Event → ℕ → Ledger → Ledger
after event task L =
    settled (memory_after (Schedule event task) [] L.memory) (expirations_after (Schedule event task) [] L.memory L.expirations)

module _ (event : Event) (task : ℕ) (p : Tables) (small large : List ℕ) (L : Ledger) (fit : Fit p) (reads : Reads p small large L)
    (accepted : verdict_of event (state_of (get_or p.tasks task absent_entry).state) ≡ Ok tt) where
  clocks : ClocksAlike p.tasks p.global L.memory.clocks
  unfolding record_view view_of
  clocks = record { tasks = reads.alike.tasks; global = reads.alike.global }

  answers : answer_after event task p ≡ (reply_to (Schedule event task) L.memory).answer
  unfolding answer_after reply_to
  answers = by_test (is_tested event) (λ e. rw (e, advances_alike event task p.tasks L.memory.clocks clocks.tasks e)) (λ e. rw e)

  reads_moved : Reads (moved_pool event task p) small large (moving event task L)
  unfolding moved_pool swept record_view view_of memory_after expirations_after
  reads_moved =
      let moved = moved_tasks event task p.tasks in
      let advanced = all_ticked (map task_of moved) in
      let entries = advanced_tasks advanced moved in
      let time = advanced_time advanced p.global in
      let pinned = pins_carried L.memory L.expirations (Schedule event task) [] tt reads.pins in
      by_test (is_tested event)
      (λ e. rw e
      (reads_with p small large L fit reads _ _ _ _ _ _ _ reads.alike.shares pinned (clocks_alike event task clocks e)
      (rw (advances_alike event task p.tasks L.memory.clocks clocks.tasks e)
      (expirations_alike event task clocks (rw (advances_alike event task p.tasks L.memory.clocks clocks.tasks e) at (clocks_alike event task clocks e)) accepted p.limits p.blocks p.expirations fit.entries L.expirations
      reads.alike.expirations e))
      refl (freed_shown entries time p.blocks (map (passed_entry (leaver_of event task) advanced entries time) p.expirations))))
      (λ e. rw e
      (reads_with p small large L fit reads _ _ _ _ _ _ _ reads.alike.shares pinned (untested_clocks_alike event task clocks e)
      (untested_expirations_alike event task clocks (untested_clocks_alike event task clocks e) accepted p.limits p.blocks p.expirations fit.entries
      L.expirations reads.alike.expirations e)
      (ap (read_from 0 (object_in small large)) (sym (none_freed p.given p.expirations p.blocks fit.blocks))) refl))

-- an event leaves as many shares
shares_left_lem : (event : Event) (task : ℕ) (p : Tables) → length (pool_after event task p).shares ≡ length p.shares
unfolding pool_after moved_pool orphaned_pool swept
shares_left_lem event task p =
    by_test (is_tested event) (λ t. rw t (shares_counted event task p.shares)) (λ t. rw t (shares_counted event task p.shares))

module _ (event : Event) (task : ℕ) (p : Tables) (small large : List ℕ) (L : Ledger) (fit : Fit p) (reads : Reads p small large L)
    (accepted : verdict_of event (state_of (get_or p.tasks task absent_entry).state) ≡ Ok tt) where
  pub reads_after : Reads (pool_after event task p) small large (after event task L)
  unfolding pool_after orphaned_pool memory_after expirations_after
  reads_after =
      reads_moved event task (orphaned_pool event task p) small large (with_makers event task L) (fit_orphaned event task p fit)
      (reads_orphaned task reads event) accepted

  -- the shares are kept with it
  pub shared_after : Typed p → task < task_count → Shared p → Shared (pool_after event task p)
  unfolding memory_after record_view view_of
  shared_after types known shared =
      kept_shared reads_after (as_many types) (shares_filter _ (shares_after_lem L.memory.clocks task event known absent (shared_kept reads types.shares shared)))
    where
      -- who becomes a viewer was absent
      absent : event ≡ View → is_absent (task_at L.memory.clocks task).state ≡ true
      absent e =
          ap is_absent (sym (state_alike p.tasks L.memory.clocks reads.alike.tasks task) ∙ view_absent (state_of (get_or p.tasks task absent_entry).state) (rw e at accepted))

      as_many : Typed p → length (pool_after event task p).shares ≡ task_count
      as_many types = shares_left_lem event task p ∙ types.shares

-- what the record's verdict makes of both
by_verdict : (v : Option Refusal) (event : Event) (task : ℕ) (p : Tables) (small large : List ℕ) (L : Ledger) → Fit p
    → Reads p small large L
    → (as_verdict v ≡ Ok tt → verdict_of event (state_of (get_or p.tasks task absent_entry).state) ≡ Ok tt)
    → ((outcome_by (as_verdict v) event task p).answer ≡ (reply_by v (reply_to (Schedule event task) L.memory)).answer)
    × Reads (outcome_by (as_verdict v) event task p).pool small large (after_by v (after event task L) L)
by_verdict none event task p small large L fit reads accepted =
    (answers event task p small large L fit reads (accepted refl), reads_after event task p small large L fit reads (accepted refl))
by_verdict (some r) event task p small large L fit reads accepted = (refl, reads)

-- an event of a task that exists is accepted by its state
pub accepted_by_state : (none : Bool) (v : Verdict) → cond none (Err NoSuchTask) v ≡ Ok tt → v ≡ Ok tt
accepted_by_state true v e = cc
accepted_by_state false v e = e

-- the record's verdict on an event
abbrev pub record_verdict : Event → ℕ → Tables → Verdict
record_verdict event task p = verdict_at event task p.tasks

pub schedule_follows : (event : Event) (task : ℕ) (p : Tables) (small large : List ℕ) (L : Ledger) → is_well_formed p ≡ true → Reads p small large L
    → ((scheduled event task p).answer ≡ (reply L (Schedule event task) []).answer)
    × Reads (scheduled event task p).pool small large (next L (Schedule event task) [])
unfolding scheduled reply next record_view view_of
schedule_follows event task p small large L w reads =
    let same = event_verdict L.memory L.expirations event task [] p.tasks reads.alike.tasks in
    rw (← same)
    (by_verdict (verdict_on L (Schedule event task) []) event task p small large L (fit_parts p w) reads
    (λ e. accepted_by_state (leb task_count task) _ (sym same ∙ e)))

pub schedule_fits : (event : Event) (task : ℕ) (p : Tables) → Typed p → is_well_formed p ≡ true → is_well_formed (scheduled event task p).pool ≡ true
unfolding scheduled
schedule_fits event task p types w = by_test (leb task_count task) (λ past. rw past w) (λ known. rw known (by (leb-false task_count task known) (verdict_of event (state_of (get_or p.tasks task absent_entry).state)) refl))
  where
    by : task < task_count → (v : Verdict) → verdict_of event (state_of (get_or p.tasks task absent_entry).state) ≡ v → is_well_formed (outcome_by v event task p).pool ≡ true
    by known (Ok _) accepted =
        let fit = fit_parts p w in
        let (L, reads) = fit_tables_read p types fit [] [] in
        fit_whole _ (fit_after event task p fit types accepted) (shared_after event task p [] [] L fit reads accepted types known (shared_part p w))
    by known (Err r) accepted = w
