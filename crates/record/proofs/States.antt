-- The state that a code means, by tests of the code, and the advance test of a table of tasks.
use Rattle.std.proofs.Common.{◌≡◌, ℕ, Bool, true, false, not, ◌&&◌, ◌||◌, eqb, List, [], ◌∷◌, map, sym, refl, ap, eqb-true}
use mathlib.Core.Bool.{and-true, and-false, or_assoc, or-false}
use Rattle.lists.specs.Tests.{any}
use Rattle.lists.proofs.Cases.{by_test, not_and_not}
use Rattle.lists.proofs.Counts.{any_map, all_mapped}
use Rattle.lists.proofs.Implied.{all_not_any}
use Rattle.ledger.specs.Tasks.{Task, is_absent, is_running, is_waiting, is_viewing, is_active, all_ticked}
use Rattle.ledger.specs.declared.State.{State}
use Rattle.ledger.specs.declared.State.TheVariants.{Absent, Running, Waiting, Viewing}
use Rattle.record.specs.Codes.{state_of, task_of, is_running_entry, is_pending_entry}
use Rattle.record.specs.declared.TaskEntry.{TaskEntry}

-- what a state is asked comes out by which of the three codes it is
by_code : (code : ℕ) (P : Bool → Bool → Bool → State → Type 0) → P true false false Running → P false true false Waiting → P false false true Viewing
    → P false false false Absent → P (eqb code 1) (eqb code 2) (eqb code 3) (state_of code)
by_code code P one two three none =
    by_test (eqb code 1) (λ e. rw (eqb-true code 1 e) one)
    (λ d. by_test (eqb code 2) (λ e. rw (eqb-true code 2 e) two)
    (λ f. by_test (eqb code 3) (λ e. rw (eqb-true code 3 e) three) (λ e. rw (d, f, e) none)))

pub running_code : (code : ℕ) → eqb code 1 ≡ is_running (state_of code)
running_code code = by_code code (λ one two three s. one ≡ is_running s) refl refl refl refl

pub waiting_code : (code : ℕ) → eqb code 2 ≡ is_waiting (state_of code)
waiting_code code = by_code code (λ one two three s. two ≡ is_waiting s) refl refl refl refl

pub viewing_code : (code : ℕ) → eqb code 3 ≡ is_viewing (state_of code)
viewing_code code = by_code code (λ one two three s. three ≡ is_viewing s) refl refl refl refl

pub absent_code : (code : ℕ) → (not (eqb code 1) && not (eqb code 2) && not (eqb code 3)) ≡ is_absent (state_of code)
absent_code code = by_code code (λ one two three s. (not one && not two && not three) ≡ is_absent s) refl refl refl refl

pub active_code : (code : ℕ) → (eqb code 1 || eqb code 2) ≡ is_active (state_of code)
active_code code = by_code code (λ one two three s. (one || two) ≡ is_active s) refl refl refl refl

-- the advance test of the entries that are left: none of the earlier is pending, and some tells whether one of them runs
unfoldable pub ticked_from : Bool → List TaskEntry → Bool
ticked_from some es = (some || any is_running_entry es) && not (any is_pending_entry es)

pub ticked_start : (tasks : List TaskEntry) → ticked_from false tasks ≡ all_ticked (map task_of tasks)
unfolding ticked_from all_ticked
ticked_start tasks =
    let some = any_map (λ (t : Task). is_running t.state) task_of tasks in
    let every = all_mapped (λ (t : Task). not (is_running t.state) || t.ticked) task_of tasks in
    let none = all_not_any _ is_pending_entry (λ e. not_and_not (is_running_entry e) (eqb e.ticked 1)) tasks in
    rw (some, every, none)

pub ticked_turn : (some : Bool) (e : TaskEntry) {running pending : Bool} (es : List TaskEntry) → running ≡ is_running_entry e
    → pending ≡ is_pending_entry e → pending ≡ false → ticked_from some (e ∷ es) ≡ ticked_from (some || running) es
unfolding ticked_from
ticked_turn some e es r p h = rw (← p, h, ← r) (ap (λ (b : Bool). b && not (any is_pending_entry es)) (sym (or_assoc some _ _)))

pub ticked_stop : (some : Bool) (e : TaskEntry) {pending : Bool} (es : List TaskEntry) → pending ≡ is_pending_entry e → pending ≡ true
    → ticked_from some (e ∷ es) ≡ false
unfolding ticked_from
ticked_stop some e es p h = rw (← p, h) (and-false (some || any is_running_entry (e ∷ es)))

pub ticked_end : (some : Bool) → ticked_from some [] ≡ some
unfolding ticked_from
ticked_end some = rw (or-false some, and-true some)
