-- Global expirations before they are judged due: by their clocks, and as the table has them.
use Rattle.std.proofs.Common.{◌≡◌, ℕ, ◌+◌, ◌-◌, ◌<◌, ◌≤◌, Bool, true, false, ◌&&◌, eqb, leb, List, map, length, get_or, replicate, sym, refl, ap, ◌∙◌, arith, ext_get_or, eq-eqb, eqb-true, le-leb, leb-true}
use mathlib.Core.Bool.{false≢true, and-eq-true_iff, and-false}
use lib.ListN.{length-map, length-replicate, get_or-replicate, get_or-eq_default, get_or-map}
use Rattle.lists.proofs.Cases.{by_test, same_test}
use Rattle.ledger.specs.Limits.{task_count}
use Rattle.record.specs.Codes.{absent_entry, free_entry, is_global_clock, global_code, departed_code}
use Rattle.record.specs.Tables.{entries_of, SizedEntries, expiration_entries, byte_values}
use Rattle.record.specs.declared.TaskEntry.{TaskEntry}
use Rattle.steps.specs.Events.{is_put_off, late_entry}
use Rattle.endings.specs.Late.{leaver_in, late_in, deserted_at, put_off_at, is_waiting_at, PutOff, GlobalFlags}
use Rattle.expirations.specs.Places.{SomeBetween, Changed}
use Rattle.endings.specs.declared.Passing.{Passing}
use Rattle.expirations.proofs.Places.{split}
use Rattle.expirations.proofs.Tables.{size_of, entry_of}

global_range : (clock : ℕ) → is_global_clock clock ≡ true → (global_code ≤ clock) × (clock ≤ departed_code)
global_range clock g =
    let (least, most) = (and-eq-true_iff (leb global_code clock) (leb clock departed_code)).0 g in
    (leb-true global_code clock least, leb-true clock departed_code most)

-- of all clocks the leaver's alone
pub deserted_test : (clock task : ℕ) → task < task_count → (is_global_clock clock && eqb (clock - global_code) task) ≡ eqb clock (global_code + task)
deserted_test clock task known =
    same_test _ _
    (λ e.
    let (g, s) = (and-eq-true_iff (is_global_clock clock) _).0 e in
    let (least, most) = global_range clock g in
    eq-eqb clock (global_code + task) (omega (arith, eqb-true (clock - global_code) task s)))
    (λ e.
    rw (eqb-true clock (global_code + task) e, le-leb global_code (global_code + task) (omega arith), le-leb (global_code + task) departed_code (omega arith))
    (eq-eqb (global_code + task - global_code) task (omega arith)))

-- the flag of a task's clock
abbrev pub waiting_flag : List TaskEntry → ℕ → Bool → Bool
waiting_flag tasks clock flag = is_waiting_at tasks (clock - global_code)

module _ (tasks : List TaskEntry) (size : length tasks ≡ task_count) where
  -- one that departed does not wait
  departed_waits : is_waiting_at tasks task_count ≡ false
  departed_waits = rw (get_or-eq_default tasks absent_entry {n = task_count} (omega arith))

  -- where no task waits, nothing is put off
  pub none_put_off : {r : Bool} → SomeBetween (is_waiting_at tasks) 0 task_count r → r ≡ false → (clock : ℕ) → is_put_off tasks clock ≡ false
  none_put_off s e clock =
      by_test (is_global_clock clock)
      (λ g.
      let (least, most) = global_range clock g in
      rw g
      (split (clock - global_code) task_count
      (λ l. s.none e (clock - global_code) (omega arith) l)
      (λ l. let same : clock - global_code ≡ task_count = omega arith in rw same departed_waits)))
      (λ g. rw g)

  -- the flags, after all tasks
  pub put_off_flags : {flags : List Bool} → Changed false (waiting_flag tasks) global_code departed_code (replicate byte_values false) flags → PutOff tasks flags
  put_off_flags {flags} s =
      record {
        size = s.size ∙ length-replicate byte_values false;
        so = λ clock.
            by_test (is_global_clock clock)
            (λ g.
            let (least, most) = global_range clock g in
            rw g
            (split clock departed_code
            (λ n. s.inside clock least n)
            (λ n.
            let same : clock - global_code ≡ task_count = omega arith in
            rw same (s.after clock n ∙ blank clock ∙ sym departed_waits))))
            (λ g.
            rw g
            (split clock global_code
            (λ l. s.before clock l ∙ blank clock)
            (λ l.
            split clock departed_code
            (λ m. absurd (false≢true (sym g ∙ rw (le-leb global_code clock l, le-leb clock departed_code (omega arith)))))
            (λ m. s.after clock m ∙ blank clock))));
      }
    where
      blank : (k : ℕ) → get_or (replicate byte_values false) k false ≡ false
      blank k =
          split k byte_values
          (λ l. get_or-replicate byte_values k false false l)
          (λ l. get_or-eq_default (replicate byte_values false) false {n = k} (omega (arith, length-replicate byte_values false)))

-- they are of the global time's clocks alone
pub put_off_global : {tasks : List TaskEntry} {flags : List Bool} → PutOff tasks flags → GlobalFlags flags
put_off_global s = record { size = s.size; so = λ clock g. s.so clock ∙ rw g }

-- the table after both
module _ (t : Passing) (tasks : List TaskEntry) {cs ns ds cs' ds' : List ℕ} (sized : SizedEntries cs ns ds) (c : Changed 0 (deserted_at t) 0 expiration_entries cs cs')
    (d : Changed 0 (put_off_at t tasks cs') 0 expiration_entries ds ds') where
  late_sized : SizedEntries cs' ns ds'
  late_sized = record { of_clocks = c.size ∙ sized.of_clocks; of_named = sized.of_named; of_dues = d.size ∙ sized.of_dues }

  late_entries : entries_of cs' ns ds' ≡ late_in t tasks (entries_of cs ns ds)
  late_entries =
      let xs = entries_of cs ns ds in
      let late = late_entry (leaver_in t) t.advanced tasks in
      let size = size_of late_sized in
      ext_get_or free_entry (entries_of cs' ns ds') (map late xs)
      (size ∙ sym (length-map xs late ∙ size_of sized))
      (λ k m.
      entry_of late_sized k
      ∙ rw (d.inside k (omega arith) (omega arith), c.inside k (omega arith) (omega arith)) refl
      ∙ ap late (sym (entry_of sized k))
      ∙ sym (get_or-map late xs k free_entry)
      ∙ ap (get_or (map late xs) k) still_free)
    where
      still_free : late_entry (leaver_in t) t.advanced tasks free_entry ≡ free_entry
      still_free = rw and-false

  pub late_table : SizedEntries cs' ns ds' × (entries_of cs' ns ds' ≡ late_in t tasks (entries_of cs ns ds))
  late_table = (late_sized, late_entries)
