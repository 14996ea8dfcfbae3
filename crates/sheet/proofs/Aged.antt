-- The passes of an event age each row as the ledger ages what the row is compared as.
use Prim.Native.Nat.{ℕ, ◌+◌, ◌-◌, ◌≤◌, ◌<◌}
use native.Mathlib.Omega.{arith}
use mathlib.Core.Bool.{Bool, true, false, false≢true, cond, not, ◌&&◌, and-false}
use mathlib.Core.List.{List, [], ◌∷◌, map, map-id, map-map}
use mathlib.Core.Path.{◌≡◌, refl, sym, ap, ◌∙◌}
use borrow.Author.Tests.{eq-eqb, ne_eqb, eqb-true, eqb-false, lt-ltb, le-ltb, ltb-true, ltb-false, le-leb, lt-leb}
use lib.Dec.{eqb, ltb}
use Rattle.lists.specs.Tables.{read_by}
use Rattle.lists.specs.Tests.{filter, All}
use Rattle.lists.proofs.All.{all_imp}
use Rattle.lists.proofs.Cases.{by_test, same_test}
use Rattle.lists.proofs.Tables.{read_by_same, read_by_map, map_filter_as_read}
use Rattle.ledger.specs.Compared.{Left, local_left, global_left, pinned_left, Shown}
use Rattle.ledger.specs.Limits.{task_count}
use Rattle.ledger.specs.Tasks.{is_tested}
use Rattle.ledger.proofs.Aging.{units_after, if_left, is_ending, setter_after, aged_left_by, aged_by}
use Rattle.ledger.specs.declared.Event.{Event}
use Rattle.ledger.specs.declared.Event.TheVariants.{Leave, Block, Resume, Tick, View}
use Rattle.record.specs.declared.TaskEntry.{TaskEntry}
use Rattle.sheet.specs.Rows.{Row, row_of, rows, shown_row, is_left, global_code, pinned_code}
use Rattle.sheet.specs.Passes.{units_by, spent_of, spent_global, deserted_by}
use Rattle.sheet.specs.Aged.{most_units, FitRow, cost_of, waits_in, put_off_below, advanced_units, aged_clocks, aged_units, aged_row}
use Rattle.sheet.specs.declared.aging.Passing.{Passing}
use Rattle.sheet.proofs.Columns.{rows_timed, rows_clocked, units_join}

-- a row of which units are left, or none
as_left : (handle : ℕ) (kind : ℕ → Left) (u : ℕ) → cond (not (eqb u 0)) (record { handle = handle; left = kind u } ∷ []) [] ≡ if_left false handle kind u
as_left handle kind u =
    by_test (eqb u 0)
    (λ e. rw (e, eqb-true u 0 e))
    (λ e. rw (e, lt-ltb 0 u (let d = eqb-false u 0 e in omega arith)))

cost_so : (event : Event) → is_tested event ≡ true → (u : ℕ) → u ≤ most_units → u - cost_of event ≡ units_after event u
cost_so Leave t u h = omega (arith, h)
cost_so Block t u h = omega arith
cost_so Resume t u h = absurd (false≢true t)
cost_so View t u h = absurd (false≢true t)
cost_so Tick t u h = refl

-- whoever set it: by its place among the codes, or by its number
same_setter : (clock task : ℕ) → global_code ≤ clock → eqb (clock - global_code) task ≡ eqb clock (global_code + task)
same_setter clock task l =
    same_test (eqb (clock - global_code) task) (eqb clock (global_code + task))
    (λ e. let q = eqb-true (clock - global_code) task e in eq-eqb clock (global_code + task) (omega (arith, q, l)))
    (λ e. let q = eqb-true clock (global_code + task) e in eq-eqb (clock - global_code) task (omega (arith, q)))

module _ (p : Passing) (tasks : List TaskEntry) (event : Event) (tested : is_tested event ≡ true) (known : p.task < task_count)
    (cost : p.cost ≡ cost_of event) (leaves : p.leaves ≡ is_ending event) (nobody : waits_in tasks task_count ≡ false) where
  abbrev aged : ℕ → Left → List Shown
  aged = aged_left_by event p.task p.advanced (waits_in tasks)

  abbrev one : Row → List Shown
  one r = cond (is_left r) (shown_row r ∷ []) []

  either : {A : Type 0} (b : Bool) {x y z : A} → x ≡ z → y ≡ z → cond b x y ≡ z
  either true e f = e
  either false e f = f

  -- a row by the local time of a task
  local_row : (clock place u : ℕ) → clock < global_code → aged_row p tasks (row_of clock place u) ≡ row_of clock place (cond (eqb clock p.task) (u - p.cost) u)
  unfolding aged_row
  local_row clock place u l =
      rw (ne_eqb clock (global_code + p.task) (λ q. omega (arith, q, l)))
      (rw (either p.leaves {z = clock} refl refl, lt-leb global_code clock l)
      (ap (row_of clock place) (either p.advanced refl refl)))

  local_aged : (clock place u : ℕ) → ltb clock global_code ≡ true → u ≤ most_units
      → one (aged_row p tasks (row_of clock place u)) ≡ aged (place + 1) (local_left clock u)
  unfolding shown_row
  local_aged clock place u k h =
      rw (local_row clock place u (ltb-true clock global_code k), k, as_left (place + 1) (local_left clock) (cond (eqb clock p.task) (u - p.cost) u), cost, cost_so event tested u h)

  -- one by the global time
  global_units_lem : (clock u : ℕ) → global_code ≤ clock → clock < pinned_code
      → cond p.advanced (spent_global clock (put_off_below task_count tasks clock u)) u
      ≡ cond (p.advanced && waits_in tasks (clock - global_code)) u (cond p.advanced (u - 1) u)
  global_units_lem clock u l h =
      rw (le-leb global_code clock l, lt-ltb clock pinned_code h)
      (by_test (ltb clock (global_code + task_count))
      (λ e. rw e (by p.advanced (waits_in tasks (clock - global_code))))
      (λ e.
      let last : clock - global_code ≡ task_count = omega (arith, ltb-false clock (global_code + task_count) e, h) in
      rw (e, last, nobody) (by p.advanced false)))
    where
      by : (advanced waits : Bool) → cond advanced (cond waits (u + 1) u - 1) u ≡ cond (advanced && waits) u (cond advanced (u - 1) u)
      by true true = omega arith
      by true false = refl
      by false waits = refl

  -- its clock, after a leave
  abbrev clock_after : ℕ → ℕ
  clock_after clock = cond p.leaves (deserted_by p.task clock) clock

  clock_within : (clock : ℕ) → global_code ≤ clock → clock < pinned_code
      → (global_code ≤ clock_after clock) × (clock_after clock < pinned_code) × (clock_after clock - global_code ≡ setter_after event p.task (clock - global_code))
  clock_within clock l h =
      rw (leaves, same_setter clock p.task l)
      (by_test (is_ending event)
      (λ e. rw e
      (by_test (eqb clock (global_code + p.task)) (λ d. rw d (omega arith, omega arith, refl)) (λ d. rw d (l, h, refl))))
      (λ e. rw e (l, h, refl)))

  global_row : (clock place u : ℕ) → global_code ≤ clock
      → aged_row p tasks (row_of clock place u)
      ≡ row_of (clock_after clock) place (cond p.advanced (spent_global (clock_after clock) (put_off_below task_count tasks (clock_after clock) u)) u)
  unfolding aged_row
  global_row clock place u l = rw (ne_eqb clock p.task (λ q. omega (arith, q, l, known)))

  global_shown : (clock place v : ℕ) → global_code ≤ clock → clock < pinned_code → one (row_of clock place v) ≡ if_left false (place + 1) (global_left (clock - global_code)) v
  unfolding shown_row
  global_shown clock place v l h = rw (le-ltb clock global_code l, lt-ltb clock pinned_code h) (as_left (place + 1) (global_left (clock - global_code)) v)

  global_aged : (clock place u : ℕ) → ltb clock global_code ≡ false → ltb clock pinned_code ≡ true
      → one (aged_row p tasks (row_of clock place u)) ≡ aged (place + 1) (global_left (clock - global_code) u)
  global_aged clock place u k j =
      let low = ltb-false clock global_code k in
      let (l, h, e) = clock_within clock low (ltb-true clock pinned_code j) in
      let units = cond p.advanced (spent_global (clock_after clock) (put_off_below task_count tasks (clock_after clock) u)) u in
      ap one (global_row clock place u low)
      ∙ global_shown (clock_after clock) place units l h
      ∙ ap (if_left false (place + 1) (global_left (clock_after clock - global_code))) (global_units_lem (clock_after clock) u l h)
      ∙ ap (λ (t : ℕ). if_left false (place + 1) (global_left t) (cond (p.advanced && waits_in tasks t) u (cond p.advanced (u - 1) u))) e

  -- and a pinned one
  pinned_row : (clock place u : ℕ) → pinned_code ≤ clock → aged_row p tasks (row_of clock place u) ≡ row_of clock place u
  unfolding aged_row
  pinned_row clock place u l =
      rw (ne_eqb clock (global_code + p.task) (λ q. omega (arith, q, l, known)), ne_eqb clock p.task (λ q. omega (arith, q, l, known)))
      (rw (either p.leaves {z = clock} refl refl, le-ltb clock pinned_code l, le-ltb clock (global_code + task_count) (omega (arith, l)), and-false)
      (ap (row_of clock place) (either p.advanced refl refl)))

  pinned_aged : (clock place u : ℕ) → ltb clock global_code ≡ false → ltb clock pinned_code ≡ false → 1 ≤ u
      → one (aged_row p tasks (row_of clock place u)) ≡ aged (place + 1) pinned_left
  unfolding shown_row
  pinned_aged clock place u k j h = rw (pinned_row clock place u (ltb-false clock pinned_code j), k, j, ne_eqb u 0 (λ q. omega (arith, q, h)))

  row_aged : (r : Row) → FitRow r → one (aged_row p tasks r) ≡ aged (shown_row r).handle (shown_row r).left
  unfolding shown_row
  row_aged r f =
      by_test (ltb r.clock global_code)
      (λ k. rw k (local_aged r.clock r.place r.units k f.most))
      (λ k. by_test (ltb r.clock pinned_code)
      (λ j. rw (k, j) (global_aged r.clock r.place r.units k j))
      (λ j. rw (k, j) (pinned_aged r.clock r.place r.units k j f.some)))

  pub rows_aged : (rs : List Row) → All FitRow rs
      → map shown_row (filter is_left (map (aged_row p tasks) rs)) ≡ read_by (aged_by event p.task p.advanced (waits_in tasks)) (map shown_row rs)
  rows_aged rs h =
      map_filter_as_read shown_row is_left (map (aged_row p tasks) rs) ∙ read_by_map one (aged_row p tasks) rs
      ∙ read_by_same _ _ rs (all_imp row_aged rs h) ∙ sym (read_by_map _ shown_row rs)

-- the columns of an event make the rows of it
spent_rows : (p : Passing) (cs ps us : List ℕ) → rows cs ps (units_by (spent_of p.task p.cost) cs us)
    ≡ map (λ (r : Row). row_of r.clock r.place (spent_of p.task p.cost r.clock r.units)) (rows cs ps us)
spent_rows p cs ps us = rows_timed (λ c q u. spent_of p.task p.cost c u) cs ps us

left_rows : (p : Passing) (cs ps us : List ℕ)
    → rows (aged_clocks p cs) ps us ≡ map (λ (r : Row). row_of (cond p.leaves (deserted_by p.task r.clock) r.clock) r.place r.units) (rows cs ps us)
left_rows p cs ps us =
    by_test p.leaves (λ e. rw e (rows_clocked (deserted_by p.task) cs ps us)) (λ e. rw e (sym (map-id (rows cs ps us))))

advanced_rows : (advanced : Bool) (tasks : List TaskEntry) (cs ps us : List ℕ)
    → rows cs ps (advanced_units advanced tasks cs us)
    ≡ map (λ (r : Row). row_of r.clock r.place (cond advanced (spent_global r.clock (put_off_below task_count tasks r.clock r.units)) r.units)) (rows cs ps us)
advanced_rows true tasks cs ps us =
    ap (rows cs ps) (units_join spent_global (put_off_below task_count tasks) cs us)
    ∙ rows_timed (λ c q u. spent_global c (put_off_below task_count tasks c u)) cs ps us
advanced_rows false tasks cs ps us = sym (map-id (rows cs ps us))

pub rows_of_event : (p : Passing) (tasks : List TaskEntry) (cs ps us : List ℕ)
    → rows (aged_clocks p cs) ps (aged_units p tasks cs us) ≡ map (aged_row p tasks) (rows cs ps us)
unfolding aged_row
rows_of_event p tasks cs ps us =
    let u = units_by (spent_of p.task p.cost) cs us in
    advanced_rows p.advanced tasks (aged_clocks p cs) ps u
    ∙ ap (map _) (left_rows p cs ps u ∙ ap (map _) (spent_rows p cs ps us) ∙ map-map _ _ (rows cs ps us))
    ∙ map-map _ _ (rows cs ps us)
