-- Tables by clock: an entry is within its clock's units exactly where it is due in time and its setter is not absent.
use Rattle.std.proofs.Common.{◌≡◌, ℕ, zero, suc, ◌+◌, ◌-◌, ◌*◌, ◌/◌, ◌%◌, ◌<◌, ◌≤◌, Bool, true, false, cond, not, ◌&&◌, eqb, ltb, leb, ◌≢◌, List, [], ◌∷◌, length, get_or, set, replicate, refl, ap, ◌∙◌, arith, length-set, get_or-set_other, get_or-set_same, ltb-false, ltb-true, le-ltb, lt-ltb, eq-eqb, ne_eqb, eqb-true, le-leb, leb-false, leb-true}
use mathlib.Core.Bool.{and-eq-true_iff}
use borrow.Author.Tests.{eqb-false, lt-leb}
use lib.ListN.{length-replicate, get_or-replicate, get_or-eq_default}
use Rattle.lists.specs.Tests.{all}
use Rattle.lists.proofs.All.{all_get_or}
use Rattle.lists.proofs.Cases.{by_test, same_test}
use Rattle.lists.proofs.Filling.{Laid}
use Rattle.ledger.specs.Limits.{counter_range, is_allowed}
use Rattle.ledger.proofs.Figures.{allowed}
use Rattle.ledger.specs.Tasks.{is_absent}
use Rattle.ledger.specs.declared.Limits.{Limits}
use Rattle.record.specs.Codes.{state_of, is_global_clock, due_by, units_left, absent_entry, free_entry}
use Rattle.record.specs.Reading.{HeadTyped}
use Rattle.record.specs.Tables.{ExpirationEntry, entries_of}
use Rattle.record.specs.WellFormed.{is_ahead, is_fit_due}
use Rattle.record.specs.declared.GlobalTime.{GlobalTime}
use Rattle.record.specs.declared.Head.{Head}
use Rattle.record.specs.declared.TaskEntry.{TaskEntry}
use Rattle.record.proofs.Columns.{length_entries, entry_at}
use Rattle.fitness.specs.Checks.{left_from, next_local, next_global, no_time, Firsts, units_of, Units, is_in_units, is_timely}
use Rattle.fitness.specs.declared.times.Time.{Time}
use Rattle.fitness.specs.declared.times.Time.TheVariants.{None, Local, Global}

-- what is put at the clocks of tasks
abbrev pub next_of : List TaskEntry → ℕ → Time
next_of tasks t = next_local (get_or tasks t absent_entry).clock

abbrev pub units_at : List TaskEntry → ℕ → ℕ → ℕ
units_at tasks most t = units_of most (get_or tasks t absent_entry).state

pub firsts_end : {tasks : List TaskEntry} {global : GlobalTime} (last : Time) → last ≡ next_global global → {i : ℕ} {out : List Time}
    → Laid no_time (next_of tasks) 16 16 (set (replicate 50 last) 49 no_time) i out → 16 ≤ i → Firsts tasks global out
firsts_end last e m h =
    record {
      by_task = λ t l. m.so t (omega arith);
      by_global = λ k a b.
          m.rest k (λ t l e. absurd (omega arith))
          ∙ get_or-set_other (replicate 50 last) 49 k no_time no_time (λ e. absurd (omega arith))
          ∙ get_or-replicate 50 k last no_time (omega arith)
          ∙ e;
      by_pinned = m.rest 49 (λ t l e. absurd (omega arith)) ∙ get_or-set_same (replicate 50 last) 49 no_time no_time (rw length-replicate (omega arith));
    }

-- the units of a state by a product: a task that there is has one share of them
pub share : (most state : ℕ) → state < 4 → most * ((state + 3) / 4) ≡ units_of most state
share most zero l = omega arith
share most (suc zero) l = omega arith
share most (suc (suc zero)) l = omega arith
share most (suc (suc (suc zero))) l = omega arith
share most (suc (suc (suc (suc state)))) l = absurd (omega arith)

pub share_below : (most state : ℕ) → state < 4 → most ≤ 32 → most * ((state + 3) / 4) < 65536
share_below most zero l m = omega arith
share_below most (suc zero) l m = omega arith
share_below most (suc (suc zero)) l m = omega arith
share_below most (suc (suc (suc zero))) l m = omega arith
share_below most (suc (suc (suc (suc state)))) l m = absurd (omega arith)

-- the table before the tasks: a free entry's units, those of a departed setter and those of a pinned one
abbrev units_start : ℕ → List ℕ
units_start global = set (set (set (replicate 50 0) 0 4294967296) 48 global) 49 1

-- those of the first tasks stand at both their codes, and elsewhere what stood there before
pub record UnitsTo (local global : ℕ) (tasks : List TaskEntry) (i : ℕ) (out : List ℕ) : Type 0 where
  pub size : length out ≡ 50
  pub by_task : (t : ℕ) → t < i → get_or out (t + 16) 0 ≡ units_at tasks local t
  pub by_global : (t : ℕ) → t < i → get_or out (t + 32) 0 ≡ units_at tasks global t
  pub rest : (k : ℕ) → ((t : ℕ) → t < 32 → k ≢ t + 16) → get_or out k 0 ≡ get_or (units_start global) k 0

pub units_start_lem : {local global : ℕ} {tasks : List TaskEntry} → UnitsTo local global tasks 0 (units_start global)
units_start_lem = record { size = refl; by_task = λ t l. absurd (omega arith); by_global = λ t l. absurd (omega arith); rest = λ k o. refl }

module _ {local global : ℕ} {tasks : List TaskEntry} {i : ℕ} {out : List ℕ} (m : UnitsTo local global tasks i out) where
  pub units_turn : i < 16 → UnitsTo local global tasks (i + 1) (set (set out (i + 16) (units_at tasks local i)) (i + 32) (units_at tasks global i))
  units_turn h =
      let locals = set out (i + 16) (units_at tasks local i) in
      let size : length locals ≡ 50 = simp length-set m.size in
      record {
        size = simp length-set m.size;
        by_task = λ t l.
            get_or-set_other locals (i + 32) (t + 16) (units_at tasks global i) 0 (λ e. absurd (omega arith))
            ∙ by_test (eqb t i)
            (λ s. rw (eqb-true t i s) (get_or-set_same out (i + 16) (units_at tasks local i) 0 (omega (arith, m.size))))
            (λ s. get_or-set_other out (i + 16) (t + 16) (units_at tasks local i) 0 (λ e. eqb-false t i s (omega arith)) ∙ m.by_task t (omega (arith, eqb-false t i s)));
        by_global = λ t l.
            by_test (eqb t i)
            (λ s. rw (eqb-true t i s) (get_or-set_same locals (i + 32) (units_at tasks global i) 0 (omega (arith, size))))
            (λ s.
            get_or-set_other locals (i + 32) (t + 32) (units_at tasks global i) 0 (λ e. eqb-false t i s (omega arith))
            ∙ get_or-set_other out (i + 16) (t + 32) (units_at tasks local i) 0 (λ e. absurd (omega arith))
            ∙ m.by_global t (omega (arith, eqb-false t i s)));
        rest = λ k o.
            get_or-set_other locals (i + 32) k (units_at tasks global i) 0 (λ e. o (i + 16) (omega arith) (omega arith))
            ∙ get_or-set_other out (i + 16) k (units_at tasks local i) 0 (o i (omega arith))
            ∙ m.rest k o;
      }

  pub units_end : (limits : Limits) → local ≡ limits.extension + 1 → global ≡ limits.extension + 2 → 16 ≤ i → Units limits tasks out
  unfolding counter_range
  units_end limits l g h =
      record {
        size = m.size;
        free = m.rest 0 (λ t l e. absurd (omega arith));
        unknown = λ k a b.
            m.rest k (λ t l e. absurd (omega arith))
            ∙ get_or-set_other (set (set (replicate 50 0) 0 4294967296) 48 global) 49 k 1 0 (λ e. absurd (omega arith))
            ∙ get_or-set_other (set (replicate 50 0) 0 4294967296) 48 k global 0 (λ e. absurd (omega arith))
            ∙ get_or-set_other (replicate 50 0) 0 k 4294967296 0 (λ e. absurd (omega arith))
            ∙ get_or-replicate 50 k 0 0 (omega arith);
        by_task = λ t b. rw (← l) (m.by_task t (omega arith));
        by_global = λ t b. rw (← g) (m.by_global t (omega arith));
        by_departed = rw (← g) (m.rest 48 (λ t l e. absurd (omega arith)));
        by_pinned = m.rest 49 (λ t l e. absurd (omega arith));
      }

left_below : (due : ℕ) (first : Time) → left_from due first < counter_range
unfolding counter_range
left_below due (None number) = omega arith
left_below due (Local at) = omega arith
left_below due (Global at) = omega arith

zero_below : 0 < counter_range
unfolding counter_range
zero_below = omega arith

-- from the next time on there is one unit less than from now on
ahead_next : (due now most : ℕ) → now < counter_range → most < counter_range → ltb (units_left due ((now + 1) % counter_range)) most ≡ is_ahead most (units_left due now)
unfolding counter_range
ahead_next due now most n m =
    same_test _ _
    (λ e.
    let less = ltb-true (units_left due ((now + 1) % counter_range)) most e in
    (and-eq-true_iff _ _).1 (le-leb 1 (units_left due now) (omega arith), le-leb (units_left due now) most (omega arith)))
    (λ e.
    let (least, last) = (and-eq-true_iff (leb 1 (units_left due now)) _).0 e in
    lt-ltb _ most (omega (arith, leb-true 1 (units_left due now) least, leb-true (units_left due now) most last)))

-- the same of a task that may be absent
units_ahead : (due now most : ℕ) (absent : Bool) → now < counter_range → most < counter_range
    → ltb (units_left due ((now + 1) % counter_range)) (cond absent 0 most) ≡ (not absent && is_ahead most (units_left due now))
units_ahead due now most true n m = le-ltb (units_left due ((now + 1) % counter_range)) 0 (omega arith)
units_ahead due now most false n m = ahead_next due now most n m

-- from 0 on there are as many units as the number says
none_left : (due : ℕ) → due < counter_range → ltb (units_left due 0) 1 ≡ eqb due 0
unfolding counter_range
none_left due below =
    same_test _ _
    (λ e. eq-eqb due 0 (omega (arith, ltb-true (units_left due 0) 1 e)))
    (λ e. lt-ltb (units_left due 0) 1 (omega (arith, eqb-true due 0 e)))

few : (limits : Limits) → is_allowed limits ≡ true → limits.extension + 2 < counter_range
unfolding counter_range
few limits may = omega (arith, (allowed limits may).most_extension_lem)

-- the due numbers of entries are those of their column
pub dues_below : (clocks named dues : List ℕ) → length clocks ≡ 256 → length named ≡ 256 → length dues ≡ 256
    → ((k : ℕ) → k < 256 → get_or dues k 0 < counter_range)
    → (k : ℕ) → k < length (entries_of clocks named dues) → (get_or (entries_of clocks named dues) k free_entry).due < counter_range
dues_below clocks named dues a b d below k l =
    rw (entry_at clocks named dues a b d k) (below k (omega (arith, length_entries clocks named dues a b d)))

module _ {h : Head} (typed : HeadTyped h) {firsts : List Time} {units : List ℕ} (f : Firsts h.tasks h.global firsts) (u : Units h.limits h.tasks units)
    (may : is_allowed h.limits ≡ true) where
  -- the task that an entry's code is of, where the codes of the tasks start at a
  abbrev setter : ExpirationEntry → ℕ → TaskEntry
  setter e a = get_or h.tasks (e.clock - a) absent_entry

  -- by a task's clock
  local_timely : (e : ExpirationEntry) → 16 ≤ e.clock → e.clock < 32 → is_in_units firsts units e ≡ is_timely h.limits h.tasks h.global e
  unfolding is_fit_due due_by
  local_timely e least below =
      let place : e.clock ≡ e.clock - 16 + 16 = omega arith in
      let first : get_or firsts e.clock no_time ≡ next_local (setter e 16).clock = ap (λ k. get_or firsts k no_time) place ∙ f.by_task (e.clock - 16) (omega arith) in
      let unit : get_or units e.clock 0 ≡ units_of (h.limits.extension + 1) (setter e 16).state = ap (λ k. get_or units k 0) place ∙ u.by_task (e.clock - 16) (omega arith) in
      let now = all_get_or (λ (x : TaskEntry). x.clock.0 < counter_range) absent_entry zero_below h.tasks typed.clocks (e.clock - 16) in
      rw
      (first, unit, ne_eqb e.clock 0 (omega arith), lt-leb 32 e.clock below, le-leb 16 e.clock least, lt-ltb e.clock 32 below, lt-ltb (e.clock - 16) 16 (omega arith))
      (units_ahead e.due (setter e 16).clock.0 (h.limits.extension + 1) (is_absent (state_of (setter e 16).state)) now (omega (arith, few h.limits may)))

  -- by the global time, of a task
  global_timely : (e : ExpirationEntry) → 32 ≤ e.clock → e.clock < 48 → is_in_units firsts units e ≡ is_timely h.limits h.tasks h.global e
  unfolding is_fit_due due_by
  global_timely e least below =
      let place : e.clock ≡ e.clock - 32 + 32 = omega arith in
      let unit : get_or units e.clock 0 ≡ units_of (h.limits.extension + 2) (setter e 32).state = ap (λ k. get_or units k 0) place ∙ u.by_global (e.clock - 32) (omega arith) in
      rw
      (f.by_global e.clock least (omega arith), unit, ne_eqb e.clock 0 (omega arith), le-leb 32 e.clock least, le-leb e.clock 48 (omega arith), ne_eqb (e.clock - 32) 16 (omega arith))
      (units_ahead e.due h.global.0 (h.limits.extension + 2) (is_absent (state_of (setter e 32).state)) typed.global (few h.limits may))

  -- and of a departed setter
  departed_timely : (e : ExpirationEntry) → e.clock ≡ 48 → is_in_units firsts units e ≡ is_timely h.limits h.tasks h.global e
  unfolding is_fit_due due_by
  departed_timely e d =
      rw (d, u.by_departed, f.by_global 48 (omega arith) (omega arith)) (ahead_next e.due h.global.0 (h.limits.extension + 2) typed.global (few h.limits may))

  -- a pinned one has the number 0
  pinned_timely : (e : ExpirationEntry) → e.due < counter_range → e.clock ≡ 49 → is_in_units firsts units e ≡ is_timely h.limits h.tasks h.global e
  unfolding is_fit_due due_by
  pinned_timely e below p = rw (p, u.by_pinned, f.by_pinned) (none_left e.due below)

  -- by a code that there is not
  no_units : (k : ℕ) → eqb k 0 ≡ false → eqb k 49 ≡ false → is_global_clock k ≡ false → (leb 16 k && ltb k 32) ≡ false → get_or units k 0 ≡ 0
  no_units k z p g l =
      by_test (ltb k 16)
      (λ t. u.unknown k (omega (arith, eqb-false k 0 z)) (ltb-true k 16 t))
      (λ t.
      let not_local : 32 ≤ k = ltb-false k 32 (rw (le-leb 16 k (ltb-false k 16 t)) at l) in
      get_or-eq_default units 0 {n = k} (omega (arith, u.size, eqb-false k 49 p, leb-false k 48 (rw (le-leb 32 k not_local) at g))))

  timely : (e : ExpirationEntry) → e.due < counter_range → is_in_units firsts units e ≡ is_timely h.limits h.tasks h.global e
  unfolding is_fit_due due_by
  timely e below =
      by_test (eqb e.clock 0)
      (λ z. rw (eqb-true e.clock 0 z, u.free) (lt-ltb _ counter_range (left_below e.due (get_or firsts 0 no_time))))
      (λ z.
      by_test (eqb e.clock 49)
      (λ p. pinned_timely e below (eqb-true e.clock 49 p))
      (λ p.
      by_test (is_global_clock e.clock)
      (λ g.
      let (least, most) = (and-eq-true_iff (leb 32 e.clock) (leb e.clock 48)).0 g in
      by_test (eqb e.clock 48)
      (λ d. departed_timely e (eqb-true e.clock 48 d))
      (λ d. global_timely e (leb-true 32 e.clock least) (omega (arith, leb-true e.clock 48 most, eqb-false e.clock 48 d))))
      (λ g.
      by_test (leb 16 e.clock && ltb e.clock 32)
      (λ l.
      let (least, below) = (and-eq-true_iff (leb 16 e.clock) (ltb e.clock 32)).0 l in
      local_timely e (leb-true 16 e.clock least) (ltb-true e.clock 32 below))
      (λ l. rw (no_units e.clock z p g l, z, p, g, l) (le-ltb (left_from e.due (get_or firsts e.clock no_time)) 0 (omega arith))))))

  pub all_timely : (xs : List ExpirationEntry) → ((k : ℕ) → k < length xs → (get_or xs k free_entry).due < counter_range)
      → all (is_in_units firsts units) xs ≡ all (is_timely h.limits h.tasks h.global) xs
  all_timely [] below = refl
  all_timely (x ∷ xs) below = rw (timely x (below 0 (omega arith)), all_timely xs (λ k l. below (suc k) (omega arith)))
