-- An event does the same to the record's expirations as to the ledger's.
use Prim.Native.Nat.{ℕ, ◌<◌}
use mathlib.Core.Bool.{Bool, true, false, true≢false, false≢true, ◌&&◌, and-eq-true_iff}
use mathlib.Core.List.{List, map, Permᴰ}
use mathlib.Core.Path.{◌≡◌, refl}
use borrow.Author.Tests.{eqb-true, ltb-true, ltb-false}
use lib.Dec.{eqb, ltb}
use lib.ListN.{length, get_or, get_or-eq_default}
use Rattle.lists.specs.Tests.{all, All}
use Rattle.lists.specs.Tables.{read_by}
use Rattle.lists.proofs.Cases.{by_test}
use Rattle.lists.proofs.All.{all_imp, all_true, map_all, map_same}
use Rattle.lists.proofs.Tables.{read_by_same, all_read_by}
use Rattle.lists.proofs.Permutations.{read_by_perm, all_perm}
use Rattle.ledger.specs.Tasks.{Task, Clocks, absent_task, task_at, is_absent, moved, is_tested, advances, clocks_after}
use Rattle.ledger.specs.Expirations.{Expiration, remaining, lasting}
use Rattle.ledger.specs.Expirations.{DueTime, by_local, by_global, pinned}
use Rattle.ledger.specs.Compared.{Left, local_left, global_left, pinned_left, Shown, left_of, shown}
use Rattle.ledger.specs.Refusals.{verdict}
use Rattle.ledger.specs.Rules.{tests_of}
use Rattle.ledger.specs.declared.State.{State}
use Rattle.ledger.specs.declared.State.TheVariants.{Absent, Running, Waiting, Viewing}
use Rattle.ledger.specs.declared.Event.{Event}
use Rattle.ledger.specs.declared.Event.TheVariants.{Leave, Block, Resume, Tick, View}
use Rattle.record.specs.Codes.{state_of, due_of, setter_of, absent_entry}
use Rattle.record.specs.Reading.{shown_due, shown_entry}
use Rattle.record.specs.WellFormed.{is_fit_due, is_fit_entry}
use Rattle.record.proofs.Facts.{fit_local}
use Rattle.record.specs.declared.TaskEntry.{TaskEntry}
use Rattle.record.specs.Tables.{BlockEntry, ExpirationEntry}
use Rattle.record.specs.declared.GlobalTime.{GlobalTime}
use Rattle.record.specs.declared.Due.{Due}
use Rattle.record.specs.declared.Due.TheVariants.{Free, Local, Global, Pinned, Unknown}
use Rattle.steps.specs.Events.{verdict_of, leaver_of, passed_entry}
use Rattle.ledger.specs.declared.Limits.{Limits}
use Rattle.steps.proofs.ReadTasks.{ClocksAlike, state_alike, clock_alike}
use Rattle.ledger.proofs.Aging.{aged, clock_after_lem, ledger_ages}
use Rattle.steps.proofs.Aging.{record_ages}
use Rattle.std.specs.Prelude.{Ok}

-- an event with an advance test is refused to an absent task
tested_present : (event : Event) (s : State) → is_tested event ≡ true → verdict_of event s ≡ Ok tt → is_absent s ≡ false
unfolding verdict tests_of
tested_present Leave Absent tested accepted = cc
tested_present Block Absent tested accepted = cc
tested_present Resume Absent tested accepted = cc
tested_present View Absent tested accepted = absurd (false≢true tested)
tested_present Tick Absent tested accepted = cc
tested_present event Running tested accepted = refl
tested_present event Waiting tested accepted = refl
tested_present event Viewing tested accepted = refl

-- and so to one that there is not
accepted_listed : (event : Event) (task : ℕ) (c : Clocks) → is_tested event ≡ true → verdict_of event (task_at c task).state ≡ Ok tt
    → task < length c.tasks
accepted_listed event task c tested accepted =
    by_test (ltb task (length c.tasks)) (ltb-true task (length c.tasks))
    (λ e. let past = get_or-eq_default c.tasks absent_task {n = task} (ltb-false task (length c.tasks) e) in
    absurd (true≢false (tested_present event Absent tested (rw past at accepted))))

-- an event with no advance test ends nothing
lasting_all : (event : Event) (task : ℕ) (advanced : Bool) (c : Clocks) (xs : List Expiration) → is_tested event ≡ false → lasting event task advanced c xs ≡ xs
unfolding lasting
lasting_all Leave task advanced c xs untested = absurd (true≢false untested)
lasting_all Block task advanced c xs untested = absurd (true≢false untested)
lasting_all Resume task advanced c xs untested = refl
lasting_all View task advanced c xs untested = refl
lasting_all Tick task advanced c xs untested = absurd (true≢false untested)

-- and leaves its task's clock, unless the task was absent
moved_stays : (event : Event) (t : Task) (s : State) → is_tested event ≡ false → verdict_of event s ≡ Ok tt → is_absent s ≡ false
    → (moved event t).clock ≡ t.clock
unfolding moved verdict tests_of
moved_stays Leave t s untested accepted present = absurd (true≢false untested)
moved_stays Block t s untested accepted present = absurd (true≢false untested)
moved_stays Resume t s untested accepted present = refl
moved_stays View t Absent untested accepted present = absurd (true≢false present)
moved_stays View t Running untested accepted present = cc
moved_stays View t Waiting untested accepted present = cc
moved_stays View t Viewing untested accepted present = cc
moved_stays Tick t s untested accepted present = absurd (true≢false untested)

-- the setter of a local expiration is not absent
abbrev SetterPresent : Clocks → Left → Type 0
SetterPresent c (local_left setter units) = is_absent (task_at c setter).state ≡ false
SetterPresent c (global_left setter units) = Unit
SetterPresent c pinned_left = Unit

abbrev AllPresent : Clocks → List Shown → Type 0
AllPresent c xs = All (λ (x : Shown). SetterPresent c x.left) xs

-- Clocks that leave the time of every task that is not absent, and the global time, leave the units of every expiration whose setter is not
-- absent.
module _ (c after : Clocks) (stays : (i : ℕ) → is_absent (task_at c i).state ≡ false → (task_at after i).clock ≡ (task_at c i).clock) (still : after.global ≡ c.global) where
  ledger_stays : (d : DueTime) → SetterPresent c (left_of c d) → left_of after d ≡ left_of c d
  unfolding left_of remaining
  ledger_stays (by_local setter at) present = rw (stays setter present)
  ledger_stays (by_global setter at) present = rw still
  ledger_stays pinned present = refl

  shown_stays : (y : Expiration) → SetterPresent c (left_of c y.due) → shown after y ≡ shown c y
  shown_stays y present = rw (ledger_stays y.due present)

  record_stays : {tasks entries : List TaskEntry} {global time : GlobalTime} → ClocksAlike tasks global c → ClocksAlike entries time after
      → (handle : ℕ) (d : Due) → AllPresent c (shown_due tasks global handle d) → shown_due entries time handle d ≡ shown_due tasks global handle d
  unfolding shown_due
  record_stays same then handle Free present = refl
  record_stays {tasks} {entries} same then handle (Local setter at) (present, _) =
      rw (clock_alike entries after then.tasks setter, clock_alike tasks c same.tasks setter, stays setter present)
  record_stays same then handle (Global setter at) present = rw (then.global, same.global, still)
  record_stays same then handle (Pinned due) present = refl
  record_stays same then handle Unknown present = refl

-- a fit expiration's setter is not absent
fit_present : (limits : Limits) {tasks : List TaskEntry} {global : GlobalTime} {c : Clocks} → ClocksAlike tasks global c
    → (used : Bool) (handle : ℕ) (d : Due) → is_fit_due limits (get_or tasks (setter_of d) absent_entry) global used d ≡ true
    → AllPresent c (shown_due tasks global handle d)
unfolding shown_due
fit_present limits same used handle Free fit = tt
fit_present limits {tasks} {global} {c} same used handle (Local setter at) fit =
    (rw (state_alike tasks c same.tasks setter) at (fit_local limits _ global used setter at fit).present, tt)
fit_present limits same used handle (Global setter at) fit = (tt, tt)
fit_present limits same used handle (Pinned due) fit = (tt, tt)
fit_present limits same used handle Unknown fit = tt

-- From a record and a ledger that show the same expirations: no setter is absent, in the record and so in the ledger.
module _ {tasks : List TaskEntry} {global : GlobalTime} {c : Clocks} (same : ClocksAlike tasks global c)
    (limits : Limits) (blocks : List BlockEntry) (xs : List ExpirationEntry) (fit : all (is_fit_entry limits tasks global blocks) xs ≡ true)
    (ys : List Expiration) (alike : Permᴰ (read_by (shown_entry tasks global blocks) xs) (map (shown c) ys)) where
  entries_present : All (λ (e : ExpirationEntry). AllPresent c (shown_entry tasks global blocks e)) xs
  entries_present = all_imp (λ e. fit_present limits same _ _ (due_of e)) xs (all_true (is_fit_entry limits tasks global blocks) xs fit)

  ledger_present : All (λ (y : Expiration). SetterPresent c (left_of c y.due)) ys
  ledger_present = map_all _ (shown c) ys (all_perm _ alike (all_read_by _ _ xs entries_present))

  -- so clocks of which those stay show the same still
  pub still_alike : {entries : List TaskEntry} {time : GlobalTime} (after : Clocks) → ClocksAlike entries time after
      → ((i : ℕ) → is_absent (task_at c i).state ≡ false → (task_at after i).clock ≡ (task_at c i).clock) → after.global ≡ c.global
      → Permᴰ (read_by (shown_entry entries time blocks) xs) (map (shown after) ys)
  still_alike {entries} {time} after then stays still =
      rw (
        read_by_same (shown_entry entries time blocks) (shown_entry tasks global blocks) xs (all_imp (λ e. record_stays c after stays still same then _ (due_of e)) xs entries_present),
        map_same (shown after) (shown c) ys (all_imp (shown_stays c after stays still) ys ledger_present),
      )
      alike

-- An accepted event: from a record and a ledger that show the same expirations, to entries and a time that read as the ledger's clocks
-- after it.
module _ (event : Event) (task : ℕ) {tasks entries : List TaskEntry} {global time : GlobalTime} {c : Clocks}
    (same : ClocksAlike tasks global c) (after : ClocksAlike entries time (clocks_after event task c))
    (accepted : verdict_of event (state_of (get_or tasks task absent_entry).state) ≡ Ok tt)
    (limits : Limits) (blocks : List BlockEntry) (xs : List ExpirationEntry) (fit : all (is_fit_entry limits tasks global blocks) xs ≡ true)
    (ys : List Expiration) (alike : Permᴰ (read_by (shown_entry tasks global blocks) xs) (map (shown c) ys)) where
  accepts : verdict_of event (task_at c task).state ≡ Ok tt
  accepts = rw (state_alike tasks c same.tasks task) at accepted

  -- with an advance test
  pub expirations_alike : is_tested event ≡ true
      → Permᴰ (read_by (shown_entry entries time blocks) (map (passed_entry (leaver_of event task) (advances event task c) entries time) xs))
      (map (shown (clocks_after event task c)) (lasting event task (advances event task c) (clocks_after event task c) ys))
  expirations_alike tested =
      let listed = accepted_listed event task c tested accepts in
      rw (record_ages event task same after tested listed limits blocks xs fit, ledger_ages event task c tested listed ys)
      (read_by_perm (aged event task c) alike)

  -- with none: it leaves its task's clock
  clock_stays : is_tested event ≡ false → (i : ℕ) → is_absent (task_at c i).state ≡ false → (task_at (clocks_after event task c) i).clock ≡ (task_at c i).clock
  clock_stays untested i present =
      rw (clock_after_lem event task c i)
      (by_test (eqb i task && ltb task (length c.tasks))
      (λ e. let own = eqb-true i task ((and-eq-true_iff _ _).0 e).0 in
      rw e (moved_stays event (task_at c i) (task_at c i).state untested (rw own accepts) present))
      (λ e. rw e))

  time_stays : is_tested event ≡ false → (clocks_after event task c).global ≡ c.global
  unfolding clocks_after advances
  time_stays untested = rw untested

  pub untested_expirations_alike : is_tested event ≡ false
      → Permᴰ (read_by (shown_entry entries time blocks) xs)
      (map (shown (clocks_after event task c)) (lasting event task (advances event task c) (clocks_after event task c) ys))
  untested_expirations_alike untested =
      rw (lasting_all event task (advances event task c) (clocks_after event task c) ys untested)
      (still_alike same limits blocks xs fit ys alike (clocks_after event task c) after (clock_stays untested) (time_stays untested))
