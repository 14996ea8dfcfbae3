-- What is put off task by task.
use Prim.Native.Nat.{ℕ, ◌+◌, ◌-◌, ◌≤◌, ◌<◌}
use native.Mathlib.Omega.{arith}
use mathlib.Core.Bool.{Bool, true, false, cond, ◌&&◌, and-false}
use mathlib.Core.List.{List, map-id}
use mathlib.Core.Path.{◌≡◌, refl, sym, ap, subst, ◌∙◌}
use borrow.Author.Tests.{eqb-true, eqb-false, ltb-true, ltb-false, le-leb, lt-leb, lt-ltb, le-ltb, eq-eqb}
use lib.Dec.{eqb, leb, ltb}
use lib.ListN.{length, get_or, length-map}
use Rattle.lists.specs.Tests.{All}
use Rattle.lists.proofs.Cases.{by_test}
use Rattle.lists.proofs.Tables.{all_map_from, length_map_from, map_from_map}
use Rattle.ledger.specs.Limits.{task_count}
use Rattle.record.specs.declared.TaskEntry.{TaskEntry}
use Rattle.sheet.specs.Rows.{global_code}
use Rattle.sheet.specs.Passes.{units_by, put_off_of, spent_of, deserted_by}
use Rattle.sheet.specs.Aged.{most_units, waits_in, put_off_below, aged_clocks}
use Rattle.sheet.specs.declared.aging.Passing.{Passing}
use Rattle.sheet.proofs.Columns.{units_join, units_same}

module _ (tasks : List TaskEntry) where
  -- a clock beyond the first so many is left
  past : (n clock u : ℕ) → global_code + n ≤ clock → put_off_below n tasks clock u ≡ u
  past n clock u h = rw (le-ltb clock (global_code + n) h, and-false)

  before : (clock n u : ℕ) → clock < global_code → put_off_below n tasks clock u ≡ u
  before clock n u h = rw (lt-leb global_code clock h)

  -- the last of so many decides by itself
  here : (n u : ℕ) → put_off_below (n + 1) tasks (global_code + n) u ≡ cond (waits_in tasks n) (u + 1) u
  here n u =
      let same : global_code + n - global_code ≡ n = omega arith in
      rw (le-leb global_code (global_code + n) (omega arith), lt-ltb (global_code + n) (global_code + (n + 1)) (omega arith), same)

  elsewhere : (n clock u : ℕ) → eqb clock (global_code + n) ≡ false → put_off_below (n + 1) tasks clock u ≡ put_off_below n tasks clock u
  elsewhere n clock u e =
      by_test (ltb clock (global_code + n))
      (λ d. let l = ltb-true clock (global_code + n) d in rw (d, lt-ltb clock (global_code + (n + 1)) (omega (arith, l))))
      (λ d. let l = ltb-false clock (global_code + n) d in let ne = eqb-false clock (global_code + n) e in rw (d, le-ltb clock (global_code + (n + 1)) (omega (arith, l, ne))))

  -- one task more that does not wait, and one that does
  stays : (n clock u : ℕ) → waits_in tasks n ≡ false → put_off_below (n + 1) tasks clock u ≡ put_off_below n tasks clock u
  stays n clock u w =
      by_test (eqb clock (global_code + n))
      (λ e.
      subst (λ (c : ℕ). put_off_below (n + 1) tasks c u ≡ put_off_below n tasks c u) (sym (eqb-true clock (global_code + n) e))
      (here n u ∙ ap (λ (b : Bool). cond b (u + 1) u) w ∙ sym (past n (global_code + n) u (omega arith))))
      (λ e. elsewhere n clock u e)

  turns : (n clock u : ℕ) → waits_in tasks n ≡ true → put_off_of (global_code + n) clock (put_off_below n tasks clock u) ≡ put_off_below (n + 1) tasks clock u
  turns n clock u w =
      by_test (eqb clock (global_code + n))
      (λ e.
      subst (λ (c : ℕ). put_off_of (global_code + n) c (put_off_below n tasks c u) ≡ put_off_below (n + 1) tasks c u) (sym (eqb-true clock (global_code + n) e))
      (ap (put_off_of (global_code + n) (global_code + n)) (past n (global_code + n) u (omega arith))
      ∙ ap (λ (b : Bool). cond b (u + 1) u) (eq-eqb (global_code + n) (global_code + n) refl ∙ sym w) ∙ sym (here n u)))
      (λ e. rw e (sym (elsewhere n clock u e)))

  none : (c u : ℕ) → put_off_below 0 tasks c u ≡ u
  none c u = by_test (ltb c global_code) (λ e. before c 0 u (ltb-true c global_code e)) (λ e. past 0 c u (omega (arith, ltb-false c global_code e)))

-- after n tasks
pub record PutOff (tasks : List TaskEntry) (cs us : List ℕ) (n : ℕ) (out : List ℕ) : Type 0 where
  pub within : n ≤ task_count
  pub bounded : All (λ (u : ℕ). u ≤ most_units) us
  pub so : out ≡ units_by (put_off_below n tasks) cs us

pub put_off_start : (tasks : List TaskEntry) (cs us : List ℕ) → All (λ (u : ℕ). u ≤ most_units) us → PutOff tasks cs us 0 us
put_off_start tasks cs us h =
    record {
      within = omega arith;
      bounded = h;
      so = sym (units_same (put_off_below 0 tasks) (λ c u. u) (none tasks) cs us ∙ map_from_map 0 (λ u. u) us ∙ map-id us);
    }

module _ {tasks : List TaskEntry} {cs us out : List ℕ} {n : ℕ} (t : PutOff tasks cs us n out) where
  pub put_off_size : length out ≡ length us
  put_off_size = ap length t.so ∙ length_map_from 0 _ us

  -- no more than one more of each
  pub put_off_few : All (λ (u : ℕ). u < 255) out
  put_off_few = rw t.so (all_map_from (λ (u : ℕ). u < 255) 0 _ (λ k u b. one_more (get_or cs k 0) u b) us t.bounded)
    where
      one_more : (c u : ℕ) → u ≤ most_units → put_off_below n tasks c u < 255
      one_more c u b = by_test (leb global_code c && ltb c (global_code + n) && waits_in tasks (c - global_code)) (λ d. rw d (omega (arith, b))) (λ d. rw d (omega (arith, b)))

  module _ (more : n < task_count) {waits : Bool} (told : waits ≡ waits_in tasks n) where
    pub put_off_stays : waits ≡ false → PutOff tasks cs us (n + 1) out
    put_off_stays w =
        record { within = omega arith; bounded = t.bounded; so = t.so ∙ units_same _ _ (λ c u. sym (stays tasks n c u (sym told ∙ w))) cs us }

    pub put_off_turns : waits ≡ true → {out' : List ℕ} → out' ≡ units_by (put_off_of (global_code + n)) cs out → PutOff tasks cs us (n + 1) out'
    put_off_turns w f =
        record {
          within = omega arith;
          bounded = t.bounded;
          so =
              f ∙ ap (units_by (put_off_of (global_code + n)) cs) t.so ∙ units_join (put_off_of (global_code + n)) (put_off_below n tasks) cs us
              ∙ units_same _ _ (λ c u. turns tasks n c u (sym told ∙ w)) cs us;
        }

  pub put_off_end : task_count ≤ n → out ≡ units_by (put_off_below task_count tasks) cs us
  put_off_end h = let all : n ≡ task_count = omega (arith, h, t.within) in t.so ∙ ap (λ (k : ℕ). units_by (put_off_below k tasks) cs us) all

-- what is spent leaves no more, and as many
pub spent_few : (code cost : ℕ) (cs us : List ℕ) → All (λ (u : ℕ). u ≤ most_units) us → All (λ (u : ℕ). u ≤ most_units) (units_by (spent_of code cost) cs us)
spent_few code cost cs us h =
    all_map_from (λ (u : ℕ). u ≤ most_units) 0 _ (λ k u b. by_test (eqb (get_or cs k 0) code) (λ e. rw e (omega (arith, b))) (λ e. rw e b)) us h

pub aged_size : (p : Passing) (cs : List ℕ) → length (aged_clocks p cs) ≡ length cs
aged_size p cs = by_test p.leaves (λ e. rw e (length-map cs (deserted_by p.task))) (λ e. rw e)
