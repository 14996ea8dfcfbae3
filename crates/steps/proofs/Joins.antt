-- A join on a well-formed record follows the ledger that it reads as.
use Prim.Native.Nat.{ℕ, ◌<◌}
use mathlib.Core.Bool.{true, false, true≢false, ◌||◌}
use mathlib.Core.List.{List, []}
use mathlib.Core.Option.{none}
use mathlib.Core.Path.{◌≡◌, refl, sym, ap, ◌∙◌}
use borrow.Author.Tests.{not-false, leb-false}
use lib.ListN.{length, get_or, set, length-map, length-set}
use Rattle.lists.specs.Tables.{read_from}
use Rattle.lists.proofs.All.{at_set}
use Rattle.lists.proofs.Tables.{map_set}
use Rattle.ledger.specs.Limits.{task_count, counter_range}
use Rattle.ledger.specs.Tasks.{Task, task_at, absent_task, is_absent, joined, entered}
use Rattle.ledger.specs.Refusals.{is_upside_down, verdict}
use Rattle.ledger.specs.Rules.{memory_after, expirations_after, tests_of}
use Rattle.ledger.specs.Compared.{view_of, wrapped_task}
use Rattle.ledger.specs.Ledger.{Ledger, facts_in, verdict_on}
use Rattle.ledger.specs.declared.Call.TheVariants.{Join}
use Rattle.ledger.specs.declared.Share.{Share}
use Rattle.ledger.proofs.KeptPins.{pins_carried}
use Rattle.ledger.proofs.KeptShares.{shares_filter, shares_joined}
use Rattle.ledger.proofs.Passed.{passed, accepted_none}
use Rattle.record.specs.Codes.{state_of, task_of, absent_entry}
use Rattle.record.specs.Reading.{object_in, record_view, Typed, Reads}
use Rattle.record.specs.Tables.{Tables}
use Rattle.record.specs.WellFormed.{is_fit_task, is_well_formed}
use Rattle.record.proofs.Exists.{fit_tables_read}
use Rattle.record.proofs.Facts.{Fit, fit_parts, shared_part, fit_whole}
use Rattle.steps.specs.Joins.{joined_entry, joined_pool}
use Rattle.steps.specs.Facts.{verdict_by}
use Rattle.steps.specs.Staying.{Stays}
use Rattle.steps.proofs.Chosen.{all_passed}
use Rattle.steps.proofs.EventsFollow.{reads_with}
use Rattle.steps.proofs.FitAfter.{fit_running}
use Rattle.steps.proofs.ObjectsFollow.{carried}
use Rattle.steps.proofs.ReadExpirations.{still_alike}
use Rattle.steps.proofs.ReadTasks.{ClocksAlike, state_alike}
use Rattle.steps.proofs.Shares.{shared_kept, kept_shared}
use Rattle.steps.proofs.Standing.{none_freed}
use Rattle.steps.proofs.Staying.{same_stays}
use Rattle.steps.proofs.Verdicts.{verdict_alike}
use Rattle.std.specs.Prelude.{Ok}

-- what an accepted join shows
pub record Joining (task : ℕ) (share : Share) (p : Tables) : Type 0 where
  pub known : task < task_count
  pub absent : is_absent (state_of (get_or p.tasks task absent_entry).state) ≡ true
  pub ordered : (is_upside_down share.small || is_upside_down share.large) ≡ false

pub joining : (task : ℕ) (share : Share) (p : Tables) → verdict_by (tests_of (Join task share) []) p ≡ Ok tt → Joining task share p
unfolding tests_of
joining task share p v =
    let (known, (absent, (ordered, (free, end)))) = all_passed [] [] _ p v in
    record { known = leb-false task_count task known; absent = not-false _ absent; ordered = ordered }

pub join_stays : (task : ℕ) (share : Share) (p : Tables) → Stays p (joined_pool task share p)
unfolding joined_pool
join_stays task share p = same_stays refl refl refl

module _ (task : ℕ) (share : Share) {p : Tables} (fit : Fit p) (j : Joining task share p) where
  fit_joined : Fit (joined_pool task share p)
  unfolding joined_pool is_fit_task
  fit_joined =
      let f = fit_running p fit task joined_entry refl refl refl (λ present. absurd (true≢false (sym j.absent ∙ present))) in
      record {
        tasks = f.tasks;
        unticked = f.unticked;
        entries = f.entries;
        blocks = f.blocks;
        distinct = f.distinct;
        once = f.once;
        allowed = f.allowed;
        listed = f.listed;
        counted = f.counted;
      }

  module _ {small large : List ℕ} {L : Ledger} (reads : Reads p small large L) where
    was_absent : is_absent (task_at L.memory.clocks task).state ≡ true
    unfolding record_view view_of
    was_absent = rw (state_alike p.tasks L.memory.clocks reads.alike.tasks task) at j.absent

    clocks_joined : ClocksAlike (set p.tasks task joined_entry) p.global (entered task joined L.memory.clocks)
    unfolding entered record_view view_of counter_range
    clocks_joined = record { tasks = rw (map_set task_of, map_set wrapped_task, reads.alike.tasks); global = reads.alike.global }

    others_stay : (i : ℕ) → is_absent (task_at L.memory.clocks i).state ≡ false
        → (task_at (entered task joined L.memory.clocks) i).clock ≡ (task_at L.memory.clocks i).clock
    unfolding entered
    others_stay i present =
        at_set (λ (t : Task). t.clock ≡ (task_at L.memory.clocks i).clock) L.memory.clocks.tasks task i absent_task
        (λ e. absurd (true≢false (sym was_absent ∙ rw e at present))) refl

    pub join_reads : Reads (joined_pool task share p) small large (carried (Join task share) [] L)
    unfolding joined_pool entered record_view view_of memory_after expirations_after
    join_reads =
        let same : ClocksAlike p.tasks p.global L.memory.clocks = record { tasks = reads.alike.tasks; global = reads.alike.global } in
        reads_with p small large L fit reads _ _ _ _ _ _ _ (ap (λ (s : List Share). set s task share) reads.alike.shares) (pins_carried L.memory L.expirations (Join task share) [] tt reads.pins) clocks_joined
        (still_alike same p.limits p.blocks p.expirations fit.entries L.expirations reads.alike.expirations
        (entered task joined L.memory.clocks) clocks_joined others_stay refl)
        (ap (read_from 0 (object_in small large)) (sym (none_freed p.given p.expirations p.blocks fit.blocks))) refl

-- a ledger has as many tasks as its record
clocks_counted : {p : Tables} {small large : List ℕ} {L : Ledger} → Reads p small large L → length p.tasks ≡ task_count → length L.memory.clocks.tasks ≡ task_count
unfolding record_view view_of
clocks_counted {p} {small} {large} {L} reads n =
    sym (length-map L.memory.clocks.tasks wrapped_task) ∙ sym (ap (λ (ts : List Task). length ts) reads.alike.tasks) ∙ length-map p.tasks task_of ∙ n

pub join_fits : (task : ℕ) (share : Share) (p : Tables) → Typed p → is_well_formed p ≡ true → verdict_by (tests_of (Join task share) []) p
    ≡ Ok tt → is_well_formed (joined_pool task share p) ≡ true
unfolding joined_pool memory_after tests_of verdict
join_fits task share p types w v =
    let fit = fit_parts p w in
    let j = joining task share p v in
    let (L, reads) = fit_tables_read p types fit [] [] in
    let clear : verdict_on L (Join task share) []
    ≡ none = accepted_none _ (verdict_alike types fit reads (tests_of (Join task share) []) (λ i j. refl) ∙ v) in
    fit_whole _ (fit_joined task share fit j)
    (kept_shared (join_reads task share fit j reads) (simp length-set types.shares)
    (shares_filter _
    (shares_joined L.memory task share L.expirations [] (passed (facts_in L) (tests_of (Join task share) []) clear)
    (clocks_counted reads types.tasks) (shared_kept reads types.shares (shared_part p w)))))
