-- How expirations age at an event with an advance test: by one rule, which looks at what is compared of them alone.
use Prim.Native.Nat.{ℕ, ◌+◌, ◌-◌, ◌<◌}
use native.Mathlib.Omega.{arith}
use mathlib.Core.Bool.{Bool, true, false, false≢true, cond, not, ◌&&◌, ◌||◌, and-eq-true_iff, and-true, and-false}
use mathlib.Core.List.{List, [], ◌∷◌, map, map-map}
use mathlib.Core.Path.{◌≡◌, refl, ap, ◌∙◌}
use borrow.Author.Tests.{eqb-true, lt-ltb}
use lib.Dec.{eqb, ltb}
use lib.ListN.{length, get_or, set, get_or-map}
use Rattle.lists.specs.Tests.{filter}
use Rattle.lists.specs.Tables.{read_by}
use Rattle.lists.proofs.Cases.{by_test}
use Rattle.lists.proofs.All.{all_every, map_same}
use Rattle.lists.proofs.Filters.{filter_and, filter_map}
use Rattle.lists.proofs.Tables.{read_by_same, map_filter_as_read, read_by_map, get_or_set}
use Rattle.ledger.specs.Tasks.{Task, Clocks, absent_task, task_at, is_waiting, moved, is_tested, unticked, tasks_after, advances, clocks_after}
use Rattle.ledger.specs.Expirations.{departed, Expiration, remaining, is_pinned, is_live, is_set_by, put_off, deserted, each_due, lasting}
use Rattle.ledger.specs.Expirations.{DueTime, by_local, by_global, pinned}
use Rattle.ledger.specs.Compared.{Left, local_left, global_left, pinned_left, Shown, left_of, shown}
use Rattle.ledger.specs.declared.Event.{Event}
use Rattle.ledger.specs.declared.Event.TheVariants.{Leave, Block, Resume, Tick, View}

-- what an event leaves of the units of its task's local expirations
abbrev pub units_after : Event → ℕ → ℕ
units_after Leave units = 0
units_after Block units = units
units_after Resume units = units
units_after View units = units
units_after Tick units = units - 1

-- an expiration with these units left, unless it is ended or there are none
abbrev pub if_left : Bool → ℕ → (ℕ → Left) → ℕ → List Shown
if_left ended handle kind units = cond (not ended && ltb 0 units) (record { handle = handle; left = kind units } ∷ []) []

-- whether an event ends its task's local expirations
abbrev pub is_ending : Event → Bool
is_ending Leave = true
is_ending Block = false
is_ending Resume = false
is_ending View = false
is_ending Tick = false

-- the setter that an event leaves of a global one
abbrev pub setter_after : Event → ℕ → ℕ → ℕ
setter_after event task setter = cond (is_ending event && eqb setter task) departed setter

-- an expiration after an event, by whether the global time advanced and by who waits then: what an advance puts off keeps its units
abbrev pub aged_left_by : Event → ℕ → Bool → (ℕ → Bool) → ℕ → Left → List Shown
aged_left_by event task advanced waits handle (local_left setter units) =
    if_left false handle (local_left setter) (cond (eqb setter task) (units_after event units) units)
aged_left_by event task advanced waits handle (global_left setter units) =
    let after = setter_after event task setter in
    if_left false handle (global_left after) (cond (advanced && waits after) units (cond advanced (units - 1) units))
aged_left_by event task advanced waits handle pinned_left = record { handle = handle; left = pinned_left } ∷ []

-- whether a task waits after an event
abbrev pub waits_after : Event → ℕ → Clocks → ℕ → Bool
waits_after event task c setter = is_waiting (task_at (clocks_after event task c) setter).state

-- whether the event's advance puts off what this task set
abbrev is_late : Event → ℕ → Clocks → ℕ → Bool
is_late event task c setter = advances event task c && waits_after event task c setter

abbrev pub aged_left : Event → ℕ → Clocks → ℕ → Left → List Shown
aged_left event task c = aged_left_by event task (advances event task c) (waits_after event task c)

-- what an event with an advance test makes of an expiration, by what is compared of it alone
abbrev pub aged_by : Event → ℕ → Bool → (ℕ → Bool) → Shown → List Shown
aged_by event task advanced waits x = aged_left_by event task advanced waits x.handle x.left

abbrev pub aged : Event → ℕ → Clocks → Shown → List Shown
aged event task c x = aged_left event task c x.handle x.left

-- units by a time, of which one goes as the time goes on by one
abbrev pub OneOff : (ℕ → ℕ) → ℕ → Type 0
OneOff units now = units (now + 1) ≡ units now - 1

-- any task's clock after an event of one of them
pub clock_after_lem : (event : Event) (task : ℕ) (c : Clocks) (i : ℕ)
    → (task_at (clocks_after event task c) i).clock
    ≡ cond (eqb i task && ltb task (length c.tasks)) (moved event (task_at c i)).clock (task_at c i).clock
unfolding clocks_after tasks_after
clock_after_lem event task c i = marked (advances event task c) ∙ one_set
  where
    after : List Task
    after = set c.tasks task (moved event (task_at c task))

    marked : (advanced : Bool) → (get_or (cond advanced (map unticked after) after) i absent_task).clock ≡ (get_or after i absent_task).clock
    marked true = ap (λ (t : Task). t.clock) (get_or-map unticked after i absent_task)
    marked false = refl

    one_set : (get_or after i absent_task).clock
        ≡ cond (eqb i task && ltb task (length c.tasks)) (moved event (task_at c i)).clock (task_at c i).clock
    one_set =
        rw (get_or_set c.tasks task i (moved event (task_at c task)) absent_task)
        (by_test (eqb i task && ltb task (length c.tasks)) (λ e. rw (e, eqb-true i task ((and-eq-true_iff _ _).0 e).0)) (λ e. rw e))

-- a local expiration ages, by its setter and by whether that is the event's task
setter_ages : (units : ℕ → ℕ) (t : Task) → OneOff units t.clock → (event : Event) → is_tested event ≡ true
    → (own : Bool) (handle : ℕ) (kind : ℕ → Left)
    → if_left (is_ending event && own) handle kind (units (cond own (moved event t).clock t.clock))
    ≡ if_left false handle kind (cond own (units_after event (units t.clock)) (units t.clock))
unfolding moved
setter_ages units t step event tested false handle kind = rw and-false
setter_ages units t step Leave tested true handle kind = refl
setter_ages units t step Block tested true handle kind = refl
setter_ages units t step Resume tested true handle kind = refl
setter_ages units t step View tested true handle kind = absurd (false≢true tested)
setter_ages units t step Tick tested true handle kind = rw step

-- a due that is not due yet
abbrev is_live_due : Clocks → DueTime → Bool
is_live_due c due = is_pinned due || ltb 0 (remaining c due)

-- a due of the ledger after an event, before it is judged
abbrev late_after : Event → ℕ → Bool → Clocks → DueTime → DueTime
late_after event task advanced c (by_local setter at) = by_local setter at
late_after event task advanced c (by_global setter at) =
    let after = setter_after event task setter in
    by_global after (at + cond (advanced && is_waiting (task_at c after).state) 1 0)
late_after event task advanced c pinned = pinned

late_leave : (task : ℕ) (advanced : Bool) (c : Clocks) (d : DueTime) → put_off advanced c (deserted task d) ≡ late_after Leave task advanced c d
unfolding put_off deserted
late_leave task advanced c (by_local setter at) = refl
late_leave task advanced c (by_global setter at) = refl
late_leave task advanced c pinned = refl

late_block : (task : ℕ) (advanced : Bool) (c : Clocks) (d : DueTime) → put_off advanced c d ≡ late_after Block task advanced c d
unfolding put_off
late_block task advanced c (by_local setter at) = refl
late_block task advanced c (by_global setter at) = refl
late_block task advanced c pinned = refl

late_tick : (task : ℕ) (advanced : Bool) (c : Clocks) (d : DueTime) → put_off advanced c d ≡ late_after Tick task advanced c d
unfolding put_off
late_tick task advanced c (by_local setter at) = refl
late_tick task advanced c (by_global setter at) = refl
late_tick task advanced c pinned = refl

-- those that are made so, where they are not due then
live_of : (c : Clocks) (f g : DueTime → DueTime) → ((d : DueTime) → f d ≡ g d) → (xs : List Expiration)
    → filter (is_live c) (each_due f xs) ≡ each_due g (filter (λ (x : Expiration). is_live_due c (g x.due)) xs)
live_of c f g same xs =
    let due : (DueTime → DueTime) → Expiration → Expiration = λ h x. record { handle = x.handle; due = h x.due } in
    ap (filter (is_live c)) (map_same (due f) (due g) xs (all_every _ (λ x. rw (same x.due)) xs)) ∙ filter_map (is_live c) (due g) xs

-- what lasts in the ledger: what the event does not end and what is not due
lasting_filter : (event : Event) (task : ℕ) (advanced : Bool) (c : Clocks) (xs : List Expiration) → is_tested event ≡ true
    → (let late = late_after event task advanced c in
    lasting event task advanced c xs
    ≡ each_due late (filter (λ (x : Expiration). not (is_ending event && is_set_by task x.due) && is_live_due c (late x.due)) xs))
unfolding lasting
lasting_filter Leave task advanced c xs tested =
    let others : List Expiration = filter (λ (x : Expiration). not (is_set_by task x.due)) xs in
    ap (filter (is_live c)) (map-map _ _ others)
    ∙ live_of c (λ d. put_off advanced c (deserted task d)) (late_after Leave task advanced c) (late_leave task advanced c) others
    ∙ ap (each_due (late_after Leave task advanced c)) (filter_and _ (λ (x : Expiration). not (is_set_by task x.due)) xs)
lasting_filter Block task advanced c xs tested = live_of c _ (late_after Block task advanced c) (late_block task advanced c) xs
lasting_filter Resume task advanced c xs tested = absurd (false≢true tested)
lasting_filter View task advanced c xs tested = absurd (false≢true tested)
lasting_filter Tick task advanced c xs tested = live_of c _ (late_after Tick task advanced c) (late_tick task advanced c) xs

-- An event with an advance test, of a task that there is: whatever counts the units, they age alike.
module _ (event : Event) (task : ℕ) (c : Clocks) (tested : is_tested event ≡ true) (listed : task < length c.tasks) where
  pub local_ages : (units : ℕ → ℕ) (setter handle : ℕ) → OneOff units (task_at c setter).clock
      → if_left (is_ending event && eqb setter task) handle (local_left setter) (units (task_at (clocks_after event task c) setter).clock)
      ≡ aged_left event task c handle (local_left setter (units (task_at c setter).clock))
  local_ages units setter handle step =
      rw (clock_after_lem event task c setter, lt-ltb task (length c.tasks) listed, and-true)
      (setter_ages units (task_at c setter) step event tested (eqb setter task) handle (local_left setter))

  -- units by whether the expiration is put off, and by the time: put off, all stay as the time goes on by one
  pub global_ages : (units : Bool → ℕ → ℕ) (setter handle : ℕ) → OneOff (units false) c.global → units true (c.global + 1) ≡ units false c.global
      → (let after = setter_after event task setter in
      if_left false handle (global_left after) (units (is_late event task c after) (clocks_after event task c).global))
      ≡ aged_left event task c handle (global_left setter (units false c.global))
  unfolding clocks_after
  global_ages units setter handle step stay =
      let waits = is_waiting (task_at (clocks_after event task c) (setter_after event task setter)).state in
      ap (if_left false handle (global_left (setter_after event task setter))) (by (advances event task c) waits)
    where
      by : (advanced waits : Bool)
          → units (advanced && waits) (cond advanced (c.global + 1) c.global)
          ≡ cond (advanced && waits) (units false c.global) (cond advanced (units false c.global - 1) (units false c.global))
      by true true = stay
      by true false = step
      by false waits = refl

  -- the ledger's side
  ledger_due : (handle : ℕ) (d : DueTime)
      → (let after = clocks_after event task c in
      let late = late_after event task (advances event task c) after d in
      cond (not (is_ending event && is_set_by task d) && is_live_due after late) (record { handle = handle; left = left_of after late } ∷ []) [])
      ≡ aged_left event task c handle (left_of c d)
  unfolding left_of remaining
  ledger_due handle (by_local setter at) = local_ages (λ now. at - now) setter handle (omega arith)
  ledger_due handle (by_global setter at) =
      let none : at + 0 ≡ at = omega arith in
      rw and-false (rw none at (global_ages (λ put now. at + cond put 1 0 - now) setter handle (omega arith) (omega arith)))
  ledger_due handle pinned = rw and-false

  pub ledger_ages : (xs : List Expiration)
      → map (shown (clocks_after event task c)) (lasting event task (advances event task c) (clocks_after event task c) xs)
      ≡ read_by (aged event task c) (map (shown c) xs)
  ledger_ages xs =
      rw (lasting_filter event task (advances event task c) (clocks_after event task c) xs tested, map-map, map_filter_as_read, read_by_map)
      (read_by_same _ _ xs (all_every _ (λ x. ledger_due x.handle x.due) xs))
