-- What a sweep leaves is a table again.
use Prim.Native.Nat.{ℕ, suc, ◌+◌, ◌-◌, ◌≤◌, ◌<◌}
use native.Mathlib.Omega.{arith}
use mathlib.Core.Bool.{Bool, true, false, cond, ◌&&◌, and-false}
use mathlib.Core.List.{List, [], ◌∷◌, map}
use mathlib.Core.Path.{◌≡◌, refl, sym, ap, subst, ◌∙◌}
use borrow.Author.Tests.{eqb-true, eqb-false, eq-eqb, ne_eqb, not-true, le-leb, lt-leb, le-ltb, ltb-true, ltb-false}
use lib.Dec.{eqb, leb, ltb}
use lib.ListN.{length, drop, get_or-eq_default}
use Rattle.lists.specs.Tables.{read_by}
use Rattle.lists.specs.Tests.{filter, All}
use Rattle.lists.proofs.All.{all_imp, all_map, all_filter}
use Rattle.lists.proofs.Cases.{by_test, same_test}
use Rattle.lists.proofs.Tables.{length_map_from}
use Rattle.ledger.specs.Compared.{Shown}
use Rattle.ledger.specs.Limits.{task_count}
use Rattle.ledger.specs.Tasks.{is_tested, is_waiting}
use Rattle.ledger.proofs.Aging.{aged_by}
use Rattle.ledger.specs.declared.Event.{Event}
use Rattle.record.specs.Codes.{state_of, absent_entry}
use Rattle.record.specs.declared.TaskEntry.{TaskEntry}
use Rattle.sheet.specs.Rows.{Row, row_of, rows, shown_row, left_by, is_left, global_code, pinned_code}
use Rattle.sheet.specs.Passes.{units_by, spent_of, spent_global, deserted_by, unpinned_of, unpinned_in}
use Rattle.sheet.specs.Kept.{kept, Counts, Sweepable, Sweeps}
use Rattle.sheet.specs.Aged.{most_units, FitRow, Table, Passes, lefts_in, passing_of, waits_in, put_off_below, advanced_units, aged_clocks, aged_units, aged_row}
use Rattle.sheet.specs.Sheet.{is_pin, unpinned}
use Rattle.sheet.specs.declared.aging.Passing.{Passing}
use Rattle.sheet.proofs.Columns.{rows_kept, rows_timed}
use Rattle.sheet.proofs.Aged.{rows_aged, rows_of_event}
use Rattle.sheet.proofs.PutOff.{aged_size}

kept_size : (us xs ys : List ℕ) → length xs ≡ length us → length ys ≡ length us → length (kept us xs) ≡ length (kept us ys)
kept_size [] xs ys n m = refl
kept_size (u ∷ us) [] ys n m = absurd (omega (arith, n))
kept_size (u ∷ us) (x ∷ xs) [] n m = absurd (omega (arith, m))
kept_size (u ∷ us) (x ∷ xs) (y ∷ ys) n m =
    let rest = kept_size us xs ys (omega (arith, n)) (omega (arith, m)) in
    by_test (eqb u 0) (λ e. rw e rest) (λ e. rw e (ap suc rest))

module _ (f : List Shown → List Shown) {cs ps us counts ds vs cs' ps' us' counts' : List ℕ} {r : ℕ} (clocked : length ds ≡ length vs) (placed : length ps ≡ length vs) where
  pub swept : length vs ≡ length us → All (λ (x : Row). x.units ≤ most_units) (rows ds ps vs) → map shown_row (filter is_left (rows ds ps vs)) ≡ f (lefts_in cs ps us)
      → Sweeps ds ps vs counts r cs' ps' us' counts' → Passes f cs ps us counts r cs' ps' us' counts'
  swept n most shown s =
      let c = s.compacts in
      let same = rows_kept ds ps vs clocked placed in
      let parts : rows (drop r cs') (drop r ps') (drop r us') ≡ filter is_left (rows ds ps vs) = rw (c.clocks_kept, c.places_kept, c.units_kept) same in
      record {
        within = omega (arith, c.within, n);
        table =
            record {
              clocked = rw (c.clocks_kept, c.units_kept) (kept_size vs ds vs clocked refl);
              placed = rw (c.places_kept, c.units_kept) (kept_size vs ps vs placed refl);
              fit = subst (All FitRow) (sym parts) (all_filter is_left left_fit (rows ds ps vs) most);
              counted = subst (λ (qs : List ℕ). Counts qs counts') (sym c.places_kept) s.counted;
            };
        lefts = ap (map shown_row) parts ∙ shown;
      }
    where
      left_fit : (x : Row) → is_left x ≡ true → x.units ≤ most_units → FitRow x
      left_fit x e h = let ne = eqb-false x.units 0 (not-true _ e) in record { some = omega (arith, ne); most = h }

-- An event.
aged_below : (tasks : List TaskEntry) (clock v : ℕ) → spent_global clock (put_off_below task_count tasks clock v) ≤ v
aged_below tasks clock v =
    by_test (leb global_code clock)
    (λ e.
    by_test (ltb clock pinned_code)
    (λ d. rw (e, d) (by_test (ltb clock (global_code + task_count) && waits_in tasks (clock - global_code)) (λ b. rw b (omega arith)) (λ b. rw b (omega arith))))
    (λ d. rw (e, d, le-ltb clock (global_code + task_count) (omega (arith, ltb-false clock pinned_code d))) (omega arith)))
    (λ e. rw e (omega arith))

aged_most : (p : Passing) (tasks : List TaskEntry) (r : Row) → FitRow r → (aged_row p tasks r).units ≤ most_units
unfolding aged_row
aged_most p tasks r f =
    let clock = cond p.leaves (deserted_by p.task r.clock) r.clock in
    let units = spent_of p.task p.cost r.clock r.units in
    let less : units ≤ most_units = by_test (eqb r.clock p.task) (λ e. rw e (omega (arith, f.most))) (λ e. rw e f.most) in
    by_test p.advanced (λ e. rw e (omega (arith, less, aged_below tasks clock units))) (λ e. rw e less)

units_size : (f : ℕ → ℕ → ℕ) (cs us : List ℕ) → length (units_by f cs us) ≡ length us
units_size f cs us = length_map_from 0 _ us

aged_units_size : (p : Passing) (tasks : List TaskEntry) (cs us : List ℕ) → length (aged_units p tasks cs us) ≡ length us
aged_units_size p tasks cs us = by p.advanced
  where
    ds : List ℕ
    ds = aged_clocks p cs

    vs : List ℕ
    vs = units_by (spent_of p.task p.cost) cs us

    by : (advanced : Bool) → length (advanced_units advanced tasks ds vs) ≡ length us
    by true =
        units_size spent_global ds (units_by (put_off_below task_count tasks) ds vs) ∙ units_size (put_off_below task_count tasks) ds vs
        ∙ units_size (spent_of p.task p.cost) cs us
    by false = units_size (spent_of p.task p.cost) cs us

nobody : (tasks : List TaskEntry) → length tasks ≡ task_count → waits_in tasks task_count ≡ false
nobody tasks n = ap (λ (e : TaskEntry). is_waiting (state_of e.state)) (get_or-eq_default tasks absent_entry (omega (arith, n)))

module _ (event : Event) (task : ℕ) (advanced : Bool) (tasks : List TaskEntry) (tested : is_tested event ≡ true) (known : task < task_count)
    (sixteen : length tasks ≡ task_count) {cs ps us counts : List ℕ} (t : Table cs ps us counts) where
  abbrev passing : Passing
  passing = passing_of event task advanced

  pub event_sweepable : {ds vs : List ℕ} → ds ≡ aged_clocks passing cs → vs ≡ aged_units passing tasks cs us → Sweepable ds ps vs counts
  event_sweepable e f =
      record {
        clocked = ap length e ∙ aged_size passing cs ∙ t.clocked ∙ sym (ap length f ∙ aged_units_size passing tasks cs us);
        placed = t.placed ∙ sym (ap length f ∙ aged_units_size passing tasks cs us);
        counted = t.counted;
      }

  pub event_passes : {ds vs cs' ps' us' counts' : List ℕ} {r : ℕ} → ds ≡ aged_clocks passing cs → vs ≡ aged_units passing tasks cs us
      → Sweeps ds ps vs counts r cs' ps' us' counts' → Passes (read_by (aged_by event task advanced (waits_in tasks))) cs ps us counts r cs' ps' us' counts'
  unfolding passing_of
  event_passes {ds} {vs} e f s =
      let rs = rows cs ps us in
      let aged : rows ds ps vs ≡ map (aged_row passing tasks) rs = rw (e, f) (rows_of_event passing tasks cs ps us) in
      let able = event_sweepable e f in
      swept (read_by (aged_by event task advanced (waits_in tasks))) able.clocked able.placed
      (ap length f ∙ aged_units_size passing tasks cs us)
      (subst (All (λ (x : Row). x.units ≤ most_units)) (sym aged) (all_map _ (aged_row passing tasks) rs (all_imp (aged_most passing tasks) rs t.fit)))
      (ap (λ (ys : List Row). map shown_row (filter is_left ys)) aged ∙ rows_aged passing tasks event tested known refl refl (nobody tasks sixteen) rs t.fit)
      s

-- A release.
pin_code : (clock units : ℕ) → is_pin (left_by clock units) ≡ leb pinned_code clock
pin_code clock units =
    by_test (ltb clock global_code)
    (λ e. rw (e, lt-leb pinned_code clock (omega (arith, ltb-true clock global_code e))))
    (λ e. by_test (ltb clock pinned_code)
    (λ d. rw (e, d, lt-leb pinned_code clock (ltb-true clock pinned_code d)))
    (λ d. rw (e, d, le-leb pinned_code clock (ltb-false clock pinned_code d))))

same_handle : (a b : ℕ) → eqb (a + 1) (b + 1) ≡ eqb a b
same_handle a b =
    same_test (eqb (a + 1) (b + 1)) (eqb a b)
    (λ e. let q = eqb-true (a + 1) (b + 1) e in eq-eqb a b (omega (arith, q)))
    (λ e. let q = eqb-true a b e in eq-eqb (a + 1) (b + 1) (omega (arith, q)))

abbrev unpinned_row : ℕ → Row → Row
unpinned_row place r = row_of r.clock r.place (unpinned_of place r.clock r.place r.units)

rows_unpinned : (place : ℕ) (rs : List Row) → All FitRow rs → map shown_row (filter is_left (map (unpinned_row place) rs)) ≡ unpinned (place + 1) (map shown_row rs)
unfolding shown_row
rows_unpinned place [] h = refl
rows_unpinned place (r ∷ rs) (h, hs) =
    rw (pin_code r.clock r.units, same_handle r.place place)
    (by_test (leb pinned_code r.clock)
    (λ e. rw e
    (by_test (eqb r.place place)
    (λ d. rw d (rows_unpinned place rs hs))
    (λ d. rw (d, some) (ap (λ (ys : List Shown). shown_row r ∷ ys) (rows_unpinned place rs hs)))))
    (λ e. rw (e, and-false, some) (ap (λ (ys : List Shown). shown_row r ∷ ys) (rows_unpinned place rs hs))))
  where
    some : eqb r.units 0 ≡ false
    some = ne_eqb r.units 0 (λ q. omega (arith, q, h.some))

module _ (place : ℕ) {cs ps us counts : List ℕ} (t : Table cs ps us counts) where
  pub release_sweepable : {vs : List ℕ} → vs ≡ unpinned_in place cs ps us → Sweepable cs ps vs counts
  release_sweepable f =
      record {
        clocked = t.clocked ∙ sym (ap length f ∙ length_map_from 0 _ us);
        placed = t.placed ∙ sym (ap length f ∙ length_map_from 0 _ us);
        counted = t.counted;
      }

  pub release_passes : {vs cs' ps' us' counts' : List ℕ} {r : ℕ} → vs ≡ unpinned_in place cs ps us
      → Sweeps cs ps vs counts r cs' ps' us' counts' → Passes (unpinned (place + 1)) cs ps us counts r cs' ps' us' counts'
  release_passes {vs} f s =
      let rs = rows cs ps us in
      let ended : rows cs ps vs ≡ map (unpinned_row place) rs = ap (rows cs ps) f ∙ rows_timed (unpinned_of place) cs ps us in
      let able = release_sweepable f in
      swept (unpinned (place + 1)) able.clocked able.placed (ap length f ∙ length_map_from 0 _ us)
      (subst (All (λ (x : Row). x.units ≤ most_units)) (sym ended) (all_map _ (unpinned_row place) rs (all_imp below rs t.fit)))
      (ap (λ (ys : List Row). map shown_row (filter is_left ys)) ended ∙ rows_unpinned place rs t.fit)
      s
    where
      below : (r : Row) → FitRow r → (unpinned_row place r).units ≤ most_units
      below r h = by_test (leb pinned_code r.clock && eqb r.place place) (λ e. rw e (omega arith)) (λ e. rw e h.most)
