-- What an event makes of an expiration before it is judged due: a setter that leaves is departed (E21), and where it waits at an advance
-- one is put off (E20).
use Prim.Native.Nat.{ℕ, ◌-◌}
use native.Mathlib.Omega.{arith}
use mathlib.Core.Bool.{Bool, true, false, cond, ◌&&◌, and-false, and-eq-true_iff}
use mathlib.Core.List.{List, map}
use mathlib.Core.Path.{◌≡◌, refl, ap, ◌∙◌}
use borrow.Author.Tests.{eqb-true}
use lib.Dec.{eqb, leb, ltb}
use lib.ListN.{get_or}
use Rattle.lists.specs.Tables.{all_from}
use Rattle.lists.proofs.All.{all_every}
use Rattle.lists.proofs.Cases.{by_test}
use Rattle.lists.proofs.Counts.{any_map, any_same}
use Rattle.lists.proofs.Tables.{all_from_imp}
use Rattle.ledger.specs.Limits.{task_count}
use Rattle.ledger.specs.Tasks.{is_waiting}
use Rattle.ledger.specs.Expirations.{departed}
use Rattle.record.specs.Codes.{state_of, local_code, global_code, pinned_code, is_global_clock, due_by, due_of, is_dated, is_pinned_due, absent_entry}
use Rattle.record.specs.declared.TaskEntry.{TaskEntry}
use Rattle.record.specs.Tables.{BlockEntry, ExpirationEntry}
use Rattle.record.specs.WellFormed.{is_naming, is_fit_block}
use Rattle.record.specs.declared.Due.{Due}
use Rattle.record.specs.declared.Due.TheVariants.{Free, Local, Global, Pinned, Unknown}
use Rattle.record.proofs.Asked.{global_code_lem}
use Rattle.steps.specs.Events.{next_time, deserted_clock, late_entry}

abbrev pub late_setter : ℕ → ℕ → ℕ
late_setter leaver setter = cond (eqb setter leaver) departed setter

abbrev pub late_at : Bool → List TaskEntry → ℕ → ℕ → ℕ
late_at advanced tasks setter at = cond (advanced && is_waiting (state_of (get_or tasks setter absent_entry).state)) (next_time at) at

abbrev pub late_due : ℕ → Bool → List TaskEntry → Due → Due
late_due leaver advanced tasks Free = Free
late_due leaver advanced tasks (Local setter at) = Local setter at
late_due leaver advanced tasks (Global setter at) =
    Global (late_setter leaver setter) (record { 0 = late_at advanced tasks (late_setter leaver setter) at.0 })
late_due leaver advanced tasks (Pinned due) = Pinned due
late_due leaver advanced tasks Unknown = Unknown

-- an entry that does not go by the global time stays
late_same : (leaver : ℕ) (advanced : Bool) (tasks : List TaskEntry) (e : ExpirationEntry) → is_global_clock e.clock ≡ false
    → late_entry leaver advanced tasks e ≡ e
late_same leaver advanced tasks e g = rw (g, g, and-false)

-- the entry has that due
pub late_due_lem : (leaver : ℕ) (advanced : Bool) (tasks : List TaskEntry) (e : ExpirationEntry)
    → due_of (late_entry leaver advanced tasks e) ≡ late_due leaver advanced tasks (due_of e)
unfolding due_by
late_due_lem leaver advanced tasks e =
    by_test (is_global_clock e.clock)
    (λ g.
    by_test (eqb (e.clock - global_code) leaver)
    (λ own. rw (g, global_code_lem e.clock g, own))
    (λ other. rw (g, global_code_lem e.clock g, other, g, global_code_lem e.clock g)))
    (λ g.
    ap due_of (late_same leaver advanced tasks e g)
    ∙ by_test (eqb e.clock 0)
    (λ z. rw z)
    (λ z.
    by_test (leb local_code e.clock && ltb e.clock global_code)
    (λ l. rw (z, g, l))
    (λ l. by_test (eqb e.clock pinned_code) (λ p. rw (z, g, l, p)) (λ p. rw (z, g, l, p)))))

-- of task_count, which is no task, nothing is left: all stays where nobody leaves and no time advances
pub deserted_none : (clock : ℕ) → deserted_clock task_count clock ≡ clock
deserted_none clock =
    by_test (is_global_clock clock && eqb (clock - global_code) task_count)
    (λ e. let same : clock - global_code ≡ task_count = eqb-true _ _ ((and-eq-true_iff (is_global_clock clock) _).0 e).1 in rw e (omega (arith, same)))
    (λ e. rw e)

pub late_none : (tasks : List TaskEntry) (e : ExpirationEntry) → late_entry task_count false tasks e ≡ e
late_none tasks e = rw (deserted_none e.clock)

-- the entry names the block that it named
late_dated : (leaver : ℕ) (advanced : Bool) (tasks : List TaskEntry) (due : Due) → is_dated (late_due leaver advanced tasks due) ≡ is_dated due
late_dated leaver advanced tasks Free = refl
late_dated leaver advanced tasks (Local setter at) = refl
late_dated leaver advanced tasks (Global setter at) = refl
late_dated leaver advanced tasks (Pinned due) = refl
late_dated leaver advanced tasks Unknown = refl

late_names : (leaver : ℕ) (advanced : Bool) (tasks : List TaskEntry) (block : ℕ) (e : ExpirationEntry)
    → is_naming block (late_entry leaver advanced tasks e) ≡ is_naming block e
late_names leaver advanced tasks block e =
    ap (λ (dated : Bool). dated && eqb e.block block) (ap is_dated (late_due_lem leaver advanced tasks e) ∙ late_dated leaver advanced tasks (due_of e))

-- so the blocks are as fit by these entries as by those
pub late_blocks : (leaver : ℕ) (advanced : Bool) (tasks : List TaskEntry) (given : ℕ) (xs : List ExpirationEntry) (blocks : List BlockEntry)
    → all_from 0 (is_fit_block given xs) blocks ≡ true → all_from 0 (is_fit_block given (map (late_entry leaver advanced tasks) xs)) blocks ≡ true
unfolding is_fit_block
late_blocks leaver advanced tasks given xs blocks fit = all_from_imp _ _ same 0 blocks fit
  where
    same : (block : ℕ) (b : BlockEntry) → is_fit_block given xs block b ≡ true → is_fit_block given (map (late_entry leaver advanced tasks) xs) block b ≡ true
    same block b h =
        rw (any_map (is_naming block) (late_entry leaver advanced tasks) xs, any_same _ _ xs (all_every _ (late_names leaver advanced tasks block) xs)) h

-- pinned stays pinned, and nothing else becomes so
pub late_pinned : (leaver : ℕ) (advanced : Bool) (tasks : List TaskEntry) (due : Due) → is_pinned_due (late_due leaver advanced tasks due) ≡ is_pinned_due due
late_pinned leaver advanced tasks Free = refl
late_pinned leaver advanced tasks (Local setter at) = refl
late_pinned leaver advanced tasks (Global setter at) = refl
late_pinned leaver advanced tasks (Pinned due) = refl
late_pinned leaver advanced tasks Unknown = refl
