-- Laws of a make: its tests in the two parts in which they are made, and what it decides by what the tasks have of the store.
use Prim.Native.Nat.{ℕ, ◌+◌, ◌-◌, ◌≤◌, ◌<◌}
use native.Mathlib.Omega.{arith}
use mathlib.Core.Bool.{Bool, true, false}
use mathlib.Core.List.{List, []}
use mathlib.Core.Path.{◌≡◌, sym, ap, ◌∙◌}
use borrow.Author.Tests.{le-leb, leb-true}
use lib.Dec.{leb}
use Rattle.lists.proofs.Cases.{same_test}
use Rattle.lists.proofs.Sums.{sum_at_lem}
use Rattle.ledger.specs.Limits.{task_count, is_small}
use Rattle.ledger.specs.Refusals.{verdict, as_verdict, Verdict}
use Rattle.ledger.specs.Rules.{tests_of}
use Rattle.ledger.specs.Shares.{blocks_in}
use Rattle.ledger.specs.declared.Call.TheVariants.{Make}
use Rattle.ledger.specs.declared.Kind.{Kind}
use Rattle.ledger.specs.declared.Limits.{Limits}
use Rattle.ledger.specs.declared.Share.{Share}
use Rattle.record.specs.Shares.{taken_in, unmet_in, all_unmet_in, taken_but, is_limited}
use Rattle.record.specs.Tables.{BlockEntry}
use Rattle.record.specs.declared.Head.{Head}
use Rattle.record.specs.declared.TaskEntry.{TaskEntry}
use Rattle.shares.specs.Holdings.{Holds}
use Rattle.shares.specs.declared.Holding.{Holding}
use Rattle.steps.specs.Facts.{is_filled}
use Rattle.steps.specs.Objects.{state_in}
use Rattle.steps.specs.Parts.{part_facts}
use Rattle.refusals.specs.Verdicts.{and_then, task_verdict, make_call_verdict, taking_verdict}
use Rattle.refusals.proofs.Verdicts.{then_assoc, then_accepted, both_accept, test_then, no_test, task_tests_lem, task_known}
use Rattle.objects.specs.Outcomes.{is_limited_by, is_filled_by, make_plan}
use Rattle.objects.specs.declared.Plan.{Plan}
use Rattle.std.specs.Prelude.{Ok}

module _ (limits : Limits) (task : ℕ) (kind : Kind) (extension size prefix : ℕ) (tasks : List TaskEntry) (given : ℕ) where
  pub call_known : make_call_verdict limits task kind extension size prefix tasks given ≡ Ok tt → task < task_count
  call_known e = task_known true task tasks (both_accept (task_verdict true task tasks) _ e).0

  pub make_tests : (limited full : Bool) (standing : ℕ)
      → and_then (make_call_verdict limits task kind extension size prefix tasks given) (taking_verdict limits limited full standing)
      ≡ as_verdict (verdict (part_facts limits (state_in tasks) given (λ (handle : ℕ). true) standing limited full false)
      (tests_of (Make task kind extension size prefix) []))
  unfolding tests_of
  make_tests limited full standing =
      sym (task_tests_lem (part_facts limits (state_in tasks) given (λ (handle : ℕ). true) standing limited full false) true task _
      ∙ simp (test_then, no_test, then_accepted, then_assoc))

module _ (task : ℕ) (kind : Kind) (extension size prefix : ℕ) (h : Head) (holding : Holding) (standing : ℕ) where
  abbrev first : Verdict
  first = make_call_verdict h.limits task kind extension size prefix h.tasks h.given

  abbrev last : Verdict
  last = taking_verdict h.limits (is_limited_by (is_small size) h.shares holding task) (is_filled_by (is_small size) h.limits h.shares holding task) standing

  -- the verdict is that of both parts
  pub planned_by_lem : {v w : Verdict} {place at : ℕ} → v ≡ first → and_then v last ≡ w → place ≡ at
      → ◌≡◌ {A = Plan} (record { verdict = w; place = place }) (make_plan task kind extension size prefix h at holding standing)
  unfolding make_plan
  planned_by_lem so e same =
      rw (
        same,
        sym e ∙ ap (λ (u : Verdict). and_then u last) so
            ∙ make_tests h.limits task kind extension size prefix h.tasks h.given (is_limited_by (is_small size) h.shares holding task) (is_filled_by (is_small size) h.limits h.shares holding task) standing,
      )

-- What the holding of a store says is what its blocks say.
module _ (store : Bool) (limits : Limits) (shares : List Share) (blocks : List BlockEntry) (holding : Holding) (holds : Holds store shares blocks holding) (task : ℕ) (known : task < task_count) where
  pub limited_by : is_limited_by store shares holding task ≡ is_limited store shares blocks task
  unfolding is_limited
  limited_by = rw (holds.so task known)

  -- one is no more than all
  one_of_all : unmet_in store shares blocks task ≤ all_unmet_in store shares blocks
  unfolding all_unmet_in
  one_of_all = sum_at_lem task_count task (unmet_in store shares blocks) known

  moved_over : (blocks taken all own : ℕ) → own ≤ all → leb (blocks + own) (taken + all) ≡ leb blocks (taken + (all - own))
  moved_over blocks taken all own l =
      same_test _ _
      (λ e. le-leb blocks (taken + (all - own)) (omega (arith, l, leb-true (blocks + own) (taken + all) e)))
      (λ e. le-leb (blocks + own) (taken + all) (omega (arith, l, leb-true blocks (taken + (all - own)) e)))

  pub filled_by : is_filled_by store limits shares holding task ≡ is_filled store limits shares blocks task
  unfolding taken_but
  filled_by =
      rw (holds.so task known, holds.spoken)
      (moved_over (blocks_in limits store) (taken_in store blocks) (all_unmet_in store shares blocks) (unmet_in store shares blocks task) one_of_all)
