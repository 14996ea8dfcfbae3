-- How the entries of a record age at an event with an advance test: by the ledger's rule, which looks at what is compared of an expiration
-- alone.
use Prim.Native.Nat.{ℕ, ◌+◌, ◌≤◌, ◌<◌}
use native.Mathlib.Omega.{arith}
use mathlib.Core.Bool.{Bool, true, cond, ◌&&◌}
use mathlib.Core.List.{List, [], map, append-nil}
use mathlib.Core.Path.{◌≡◌, refl, ap, ◌∙◌}
use borrow.Author.Tests.{eqb-true, ne_eqb}
use lib.Dec.{eqb}
use lib.ListN.{length, get_or}
use Rattle.lists.specs.Tests.{all}
use Rattle.lists.specs.Tables.{read_by}
use Rattle.lists.proofs.Cases.{by_test}
use Rattle.lists.proofs.All.{all_imp, all_true}
use Rattle.lists.proofs.Tables.{read_by_same, read_by_map, read_by_read_by}
use Rattle.ledger.specs.Limits.{task_count, counter_range}
use Rattle.ledger.specs.Tasks.{Clocks, task_at, is_tested, advances, clocks_after}
use Rattle.ledger.specs.Compared.{wrapped}
use Rattle.ledger.proofs.Aging.{is_ending, setter_after, aged, OneOff, local_ages, global_ages}
use Rattle.ledger.specs.declared.Event.{Event}
use Rattle.ledger.specs.declared.Event.TheVariants.{Leave, Block, Resume, Tick, View}
use Rattle.ledger.specs.declared.Limits.{Limits}
use Rattle.record.specs.Codes.{due_by, due_of, setter_of, units_left, absent_entry, free_block}
use Rattle.record.specs.Reading.{shown_due, shown_entry}
use Rattle.record.specs.WellFormed.{is_fit_due, is_fit_entry}
use Rattle.record.proofs.Facts.{fit_local, fit_global}
use Rattle.record.specs.declared.TaskEntry.{TaskEntry}
use Rattle.record.specs.Tables.{BlockEntry, ExpirationEntry}
use Rattle.record.specs.declared.GlobalTime.{GlobalTime}
use Rattle.record.specs.declared.Due.{Due}
use Rattle.record.specs.declared.Due.TheVariants.{Free, Local, Global, Pinned, Unknown}
use Rattle.steps.specs.Events.{next_time, leaver_of, late_entry, is_lasting, kept_entry, passed_entry}
use Rattle.steps.proofs.Late.{late_setter, late_due, late_due_lem}
use Rattle.steps.proofs.ReadTasks.{ClocksAlike, state_alike, clock_alike}

-- by a counter that goes on from its last value to 0, one of the units left goes too
left_steps : (due now : ℕ) → 1 ≤ units_left due (wrapped now) → OneOff (λ n. units_left due (wrapped n)) now
unfolding counter_range
left_steps due now ahead = omega arith

-- and one that is put off keeps them
stays : (due now : ℕ) → units_left (next_time due) (wrapped (now + 1)) ≡ units_left due (wrapped now)
unfolding counter_range
stays due now = omega arith

-- the leaver is the event's task, or none of the tasks that there are
leaver_ends : (event : Event) (task setter : ℕ) → setter < task_count → eqb setter (leaver_of event task) ≡ (is_ending event && eqb setter task)
leaver_ends Leave task setter known = refl
leaver_ends Block task setter known = ne_eqb setter task_count (λ e. omega arith)
leaver_ends Resume task setter known = ne_eqb setter task_count (λ e. omega arith)
leaver_ends View task setter known = ne_eqb setter task_count (λ e. omega arith)
leaver_ends Tick task setter known = ne_eqb setter task_count (λ e. omega arith)

-- and so is the setter that it leaves
leaver_left : (event : Event) (task setter : ℕ) → late_setter (leaver_of event task) setter ≡ setter_after event task setter
leaver_left event task setter = by event
  where
    none : late_setter task_count setter ≡ setter
    none = by_test (eqb setter task_count) (λ e. rw (e, eqb-true setter task_count e)) (λ e. rw e)

    by : (event : Event) → late_setter (leaver_of event task) setter ≡ setter_after event task setter
    by Leave = refl
    by Block = none
    by Resume = none
    by View = none
    by Tick = none

-- an entry that lasts shows what it shows, and any other nothing
shown_kept : (leaver : ℕ) (tasks : List TaskEntry) (global : GlobalTime) (blocks : List BlockEntry) (e : ExpirationEntry)
    → shown_entry tasks global blocks (kept_entry leaver tasks global e)
    ≡ cond (is_lasting leaver (get_or tasks (setter_of (due_of e)) absent_entry) global (due_of e)) (shown_entry tasks global blocks e) []
unfolding due_by shown_due
shown_kept leaver tasks global blocks e =
    by_test (is_lasting leaver (get_or tasks (setter_of (due_of e)) absent_entry) global (due_of e)) (λ q. rw q) (λ q. rw q)

-- the record's side
module _ (event : Event) (task : ℕ) {tasks entries : List TaskEntry} {global time : GlobalTime} {c : Clocks}
    (same : ClocksAlike tasks global c) (after : ClocksAlike entries time (clocks_after event task c))
    (tested : is_tested event ≡ true) (listed : task < length c.tasks) (limits : Limits) where
  -- a due of the record, before it is judged
  abbrev late : Due → Due
  late d = late_due (leaver_of event task) (advances event task c) entries d

  record_due : (used : Bool) (handle : ℕ) (d : Due) → is_fit_due limits (get_or tasks (setter_of d) absent_entry) global used d ≡ true
      → cond (is_lasting (leaver_of event task) (get_or entries (setter_of (late d)) absent_entry) time (late d)) (shown_due entries time handle (late d)) []
      ≡ read_by (aged event task c) (shown_due tasks global handle d)
  unfolding shown_due
  record_due used handle Free fit = refl
  record_due used handle (Local setter at) fit =
      let f = fit_local limits (get_or tasks setter absent_entry) global used setter at fit in
      let now = clock_alike tasks c same.tasks setter in
      let ahead = left_steps at.0 (task_at c setter).clock (rw now at f.ahead) in
      rw (leaver_ends event task setter f.known, clock_alike entries (clocks_after event task c) after.tasks setter, now, append-nil)
      (local_ages event task c tested listed (λ n. units_left at.0 (wrapped n)) setter handle ahead)
  record_due used handle (Global setter at) fit =
      let ahead = left_steps at.0 c.global (rw same.global at (fit_global limits (get_or tasks setter absent_entry) global used setter at fit).ahead) in
      let left = setter_after event task setter in
      rw (leaver_left event task setter, state_alike entries (clocks_after event task c) after.tasks left, after.global, same.global, append-nil)
      (global_ages event task c tested listed (λ put n. units_left (cond put (next_time at.0) at.0) (wrapped n)) setter handle ahead (stays at.0 c.global))
  record_due used handle (Pinned due) fit = refl
  record_due used handle Unknown fit = refl

  shown_late : (blocks : List BlockEntry) (e : ExpirationEntry)
      → shown_entry entries time blocks (passed_entry (leaver_of event task) (advances event task c) entries time e)
      ≡ (let d = late (due_of e) in
      cond (is_lasting (leaver_of event task) (get_or entries (setter_of d) absent_entry) time d)
      (shown_due entries time (get_or blocks e.block free_block).handle d) [])
  shown_late blocks e =
      shown_kept (leaver_of event task) entries time blocks (late_entry (leaver_of event task) (advances event task c) entries e)
      ∙ ap (λ d. cond (is_lasting (leaver_of event task) (get_or entries (setter_of d) absent_entry) time d)
      (shown_due entries time (get_or blocks e.block free_block).handle d) []) (late_due_lem (leaver_of event task) (advances event task c) entries e)

  pub record_ages : (blocks : List BlockEntry) (xs : List ExpirationEntry) → all (is_fit_entry limits tasks global blocks) xs ≡ true
      → read_by (shown_entry entries time blocks) (map (passed_entry (leaver_of event task) (advances event task c) entries time) xs)
      ≡ read_by (aged event task c) (read_by (shown_entry tasks global blocks) xs)
  record_ages blocks xs fit =
      rw (read_by_map, read_by_read_by)
      (read_by_same _ _ xs
      (all_imp (λ e f. shown_late blocks e ∙ record_due _ _ (due_of e) f) xs (all_true (is_fit_entry limits tasks global blocks) xs fit)))
