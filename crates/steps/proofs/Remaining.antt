-- The remaining life of the object in a block is the ledger's, and each figure of it is no more than an expiration can have.
use Prim.Native.Nat.{ℕ, max, ◌+◌, ◌≤◌}
use native.Mathlib.Omega.{arith}
use mathlib.Core.Bool.{Bool, true, false, cond}
use mathlib.Core.List.{List}
use mathlib.Core.Logic.{◌≢◌}
use mathlib.Core.Path.{◌≡◌, sym, ◌∙◌}
use borrow.Author.Tests.{eqb-true, eqb-false}
use lib.Dec.{eqb}
use lib.ListN.{get_or}
use Rattle.lists.specs.Most.{most}
use Rattle.lists.proofs.Cases.{by_test, cond_same}
use Rattle.lists.proofs.All.{all_every, all_imp, all_true}
use Rattle.lists.proofs.Most.{most_perm, most_same, most_read_by, most_within}
use Rattle.ledger.proofs.Figures.{allowed}
use Rattle.ledger.specs.Compared.{Left, view_of}
use Rattle.ledger.specs.Remaining.{remaining_life}
use Rattle.ledger.specs.Objects.{stands}
use Rattle.ledger.specs.Ledger.{Ledger}
use Rattle.ledger.specs.declared.Limits.{Limits}
use Rattle.ledger.proofs.Remaining.{local_units, global_units, most_shown, life_shown}
use Rattle.record.specs.Codes.{due_of, setter_of, absent_entry}
use Rattle.record.specs.Reading.{is_whole, shown_due, record_view, Reads}
use Rattle.record.specs.Tables.{Tables}
use Rattle.record.specs.WellFormed.{is_fit_due, is_fit_entry}
use Rattle.record.specs.declared.TaskEntry.{TaskEntry}
use Rattle.record.specs.declared.GlobalTime.{GlobalTime}
use Rattle.record.specs.declared.Due.{Due}
use Rattle.record.specs.declared.Due.TheVariants.{Free, Local, Global, Pinned, Unknown}
use Rattle.record.proofs.Facts.{Fit, fit_local, fit_global}
use Rattle.record.proofs.Distinct.{handle_at, same_handle}
use Rattle.steps.specs.Objects.{place_of}
use Rattle.steps.specs.Remaining.{left_local, left_global, units_on, life_in, LifeWithin}
use Rattle.steps.proofs.Finding.{found}

none_or_one : (n : ℕ) → max n 0 ≡ n
none_or_one n = omega arith

-- what an entry shows counts for the object with its block's handle, and for no other
module _ (tasks : List TaskEntry) (global : GlobalTime) (g h : ℕ) where
  local_shown : (task : ℕ) (due : Due)
      → most_shown (local_units task) h (shown_due tasks global g due) ≡ cond (eqb g h) (left_local task (get_or tasks task absent_entry).clock due) 0
  unfolding shown_due
  local_shown task Free = sym (cond_same (eqb g h) 0)
  local_shown task (Local setter at) =
      rw none_or_one (by_test (eqb setter task) (λ e. rw (eqb-true setter task e)) (λ e. rw e))
  local_shown task (Global setter at) = rw none_or_one
  local_shown task (Pinned due) = rw none_or_one
  local_shown task Unknown = sym (cond_same (eqb g h) 0)

  global_shown : (due : Due) → most_shown global_units h (shown_due tasks global g due) ≡ cond (eqb g h) (left_global global due) 0
  unfolding shown_due
  global_shown Free = sym (cond_same (eqb g h) 0)
  global_shown (Local setter at) = rw none_or_one
  global_shown (Global setter at) = rw none_or_one
  global_shown (Pinned due) = rw none_or_one
  global_shown Unknown = sym (cond_same (eqb g h) 0)

module _ {p : Tables} {small large : List ℕ} {L : Ledger} (fit : Fit p) (reads : Reads p small large L) where
  -- one figure, of the object in a block in use
  shown_alike : (shownUnits : Left → ℕ) (units : Due → ℕ) (block : ℕ) → handle_at p.blocks block ≢ 0
      → ((g h : ℕ) (due : Due) → most_shown shownUnits h (shown_due p.tasks p.global g due) ≡ cond (eqb g h) (units due) 0)
      → most (units_on units block) p.expirations
      ≡ most_shown shownUnits (handle_at p.blocks block) (view_of (is_whole p.limits small large) L).expirations
  unfolding record_view
  shown_alike shownUnits units block used same =
      most_same _ _ p.expirations
      (all_every _
      (λ e.
      rw (← same_handle p.blocks fit.distinct block e.block used)
      (sym (same (handle_at p.blocks e.block) (handle_at p.blocks block) (due_of e))))
      p.expirations)
      ∙ sym (most_read_by _ _ p.expirations)
      ∙ most_perm _ reads.alike.expirations

  block_life : (task block : ℕ) → handle_at p.blocks block ≢ 0
      → life_in task block p.tasks p.global p.expirations
      ≡ remaining_life task (handle_at p.blocks block) L.memory.clocks L.expirations
  unfolding life_in view_of
  block_life task block used =
      rw (
        shown_alike (local_units task) _ block used (λ g h. local_shown p.tasks p.global g h task),
        shown_alike global_units _ block used (λ g h. global_shown p.tasks p.global g h),
      )
      (sym (life_shown task (handle_at p.blocks block) L.memory.clocks L.expirations))

  -- of an object that stands, in the block that its handle finds
  pub life_alike : (task handle : ℕ) → eqb handle 0 ≡ false → stands L.expirations handle ≡ true
      → life_in task (place_of handle p.blocks) p.tasks p.global p.expirations
      ≡ remaining_life task handle L.memory.clocks L.expirations
  life_alike task handle nonzero standing =
      let its = (found fit reads handle nonzero standing).its in
      rw its at (block_life task (place_of handle p.blocks) (rw its (eqb-false handle 0 nonzero)))

-- in a well-formed record
module _ (limits : Limits) (tasks : List TaskEntry) (global : GlobalTime) (used : Bool) where
  local_within : (task : ℕ) (due : Due) → is_fit_due limits (get_or tasks (setter_of due) absent_entry) global used due ≡ true
      → left_local task (get_or tasks task absent_entry).clock due ≤ limits.extension + 1
  local_within task Free e = omega arith
  local_within task (Local setter at) e =
      by_test (eqb setter task)
      (λ s. rw (s, ← eqb-true setter task s) (fit_local limits _ global used setter at e).within)
      (λ s. rw s (omega arith))
  local_within task (Global setter at) e = omega arith
  local_within task (Pinned due) e = omega arith
  local_within task Unknown e = omega arith

  global_within : (due : Due) → is_fit_due limits (get_or tasks (setter_of due) absent_entry) global used due ≡ true → left_global global due ≤ limits.extension + 2
  global_within Free e = omega arith
  global_within (Local setter at) e = omega arith
  global_within (Global setter at) e = (fit_global limits _ global used setter at e).within
  global_within (Pinned due) e = omega arith
  global_within Unknown e = omega arith

-- one figure
most_fit : {p : Tables} → Fit p → (units : Due → ℕ) (n block : ℕ)
    → ((used : Bool) (due : Due) → is_fit_due p.limits (get_or p.tasks (setter_of due) absent_entry) p.global used due ≡ true → units due ≤ n)
    → most (units_on units block) p.expirations ≤ n
most_fit {p} fit units n block within =
    most_within _ n p.expirations
    (all_imp (λ e h. by_test (eqb e.block block) (λ t. rw t (within _ (due_of e) h)) (λ t. rw t (omega arith))) p.expirations
    (all_true (is_fit_entry p.limits p.tasks p.global p.blocks) p.expirations fit.entries))

pub life_within : {p : Tables} → Fit p → (task block : ℕ) → LifeWithin (life_in task block p.tasks p.global p.expirations)
unfolding life_in
life_within {p} fit task block =
    let few = (allowed p.limits fit.allowed).most_extension_lem in
    record {
      local = omega (arith, few, most_fit fit (left_local task (get_or p.tasks task absent_entry).clock) (p.limits.extension + 1) block (λ used. local_within p.limits p.tasks p.global used task));
      global = omega (arith, few, most_fit fit (left_global p.global) (p.limits.extension + 2) block (global_within p.limits p.tasks p.global));
    }
