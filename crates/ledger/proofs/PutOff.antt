-- Waiting eats none of a task's global expirations.
use Prim.Native.Nat.{ℕ, ◌+◌, ◌-◌, ◌≤◌}
use native.Mathlib.Omega.{arith}
use mathlib.Core.Bool.{Bool, true, false, true≢false, cond}
use mathlib.Core.List.{List, [], ◌∷◌}
use mathlib.Core.Path.{◌≡◌, refl, sym, ◌∙◌}
use borrow.Author.Tests.{lt-ltb, le-ltb, ltb-false, eqb-true, eq-eqb}
use lib.Dec.{eqb, ltb}
use lib.ListN.{length, get_or, get_or-eq_default, get_or-map}
use Rattle.lists.proofs.Cases.{by_test}
use Rattle.lists.proofs.Tables.{get_or_set}
use Rattle.ledger.specs.Limits.{task_count}
use Rattle.ledger.specs.Tasks.{Task, Clocks, task_at, absent_task, is_waiting, moved, unticked, tasks_after, advances, clocks_after}
use Rattle.ledger.specs.Expirations.{departed, Expiration, remaining, put_off, deserted, lasting}
use Rattle.ledger.specs.Kept.{ClocksKept}
use Rattle.ledger.specs.PutOff.{waiting_edges, global_one, left_of_one, LeftWith, waits_after, AdvanceLeaves, WaitingEatsNothing}
use Rattle.ledger.specs.declared.Event.{Event}
use Rattle.ledger.specs.declared.Event.TheVariants.{Leave, Block, Resume, Tick, View}
use Rattle.ledger.proofs.Edges.{waiting_edges_hold}
use Rattle.ledger.proofs.KeptTasks.{tasks_after_lem, sixteen_after}

-- no task has the number of the departed
no_departed : (tasks : List Task) → length tasks ≡ task_count → is_waiting (get_or tasks departed absent_task).state ≡ false
no_departed tasks n = rw (get_or-eq_default tasks absent_task {n = departed} (omega (arith, n)))

departed_after : (event : Event) (task : ℕ) (clocks : Clocks) → ClocksKept clocks → waits_after event task clocks departed ≡ false
departed_after event task clocks k = no_departed (clocks_after event task clocks).tasks (sixteen_after event task clocks k.sixteen)

-- the setter that an event leaves
abbrev setter_after : Event → ℕ → ℕ → ℕ
setter_after Leave task setter = cond (eqb setter task) departed setter
setter_after Block task setter = setter
setter_after Resume task setter = setter
setter_after View task setter = setter
setter_after Tick task setter = setter

-- what an event with an advance leaves of one: it is put off where its setter waits, and then judged
left_one : (event : Event) (task : ℕ) (clocks : Clocks) (handle setter at : ℕ) → advances event task clocks ≡ true
    → let after = clocks_after event task clocks in
    let who = setter_after event task setter in
    let x = global_one handle who (at + cond (is_waiting (task_at after who).state) 1 0) in
    left_of_one event task clocks (global_one handle setter at) ≡ cond (ltb 0 (remaining after x.due)) (x ∷ []) []
unfolding lasting put_off deserted advances
left_one Leave task clocks handle setter at e = rw e
left_one Block task clocks handle setter at e = rw e
left_one Resume task clocks handle setter at e = absurd (true≢false (sym e))
left_one View task clocks handle setter at e = absurd (true≢false (sym e))
left_one Tick task clocks handle setter at e = rw e

-- who has left does not wait
left_absent : (task : ℕ) (clocks : Clocks) → waits_after Leave task clocks task ≡ false
unfolding moved tasks_after
left_absent task clocks =
    tasks_after_lem (λ ts. is_waiting (get_or ts task absent_task).state ≡ false) (λ ts h. rw (get_or-map unticked ts task absent_task) h) Leave task clocks
    (rw (get_or_set clocks.tasks task task absent_task absent_task, eq-eqb task task refl)
    (by_test (ltb task (length clocks.tasks))
    (λ l. rw l)
    (λ l. rw (l, get_or-eq_default clocks.tasks absent_task {n = task} (ltb-false task (length clocks.tasks) l)))))

-- so a setter that waits is the setter still, and one that does not, or departs, does not wait
waits_on : (event : Event) (task : ℕ) (clocks : Clocks) (setter : ℕ) (waits : Bool) → waits_after event task clocks setter ≡ waits
    → waits_after event task clocks departed ≡ false → waits_after event task clocks (setter_after event task setter) ≡ waits
waits_on Leave task clocks setter waits w d =
    by_test (eqb setter task)
    (λ own. rw own (d ∙ sym (left_absent task clocks) ∙ rw (eqb-true setter task own) at w))
    (λ other. rw other w)
waits_on Block task clocks setter waits w d = w
waits_on Resume task clocks setter waits w d = w
waits_on View task clocks setter waits w d = w
waits_on Tick task clocks setter waits w d = w

-- At an advance:
module _ (event : Event) (task : ℕ) (clocks : Clocks) (kept : ClocksKept clocks) (advanced : advances event task clocks ≡ true) where
  -- the time after it is one later
  later : (clocks_after event task clocks).global ≡ clocks.global + 1
  unfolding clocks_after
  later = rw advanced

  module _ (handle setter at : ℕ) (waits : Bool) (w : waits_after event task clocks setter ≡ waits) where
    one : Expiration
    one = global_one handle (setter_after event task setter) (at + cond waits 1 0)

    units_of_lem : remaining (clocks_after event task clocks) one.due ≡ at + cond waits 1 0 - (clocks.global + 1)
    unfolding one remaining
    units_of_lem = rw later

    judged : left_of_one event task clocks (global_one handle setter at) ≡ cond (ltb 0 (remaining (clocks_after event task clocks) one.due)) (one ∷ []) []
    unfolding one
    judged = left_one event task clocks handle setter at advanced ∙ rw (waits_on event task clocks setter waits w (departed_after event task clocks kept))

    left_with : (n : ℕ) → remaining (clocks_after event task clocks) one.due ≡ n → 1 ≤ n → LeftWith event task clocks (global_one handle setter at) n
    unfolding one
    left_with n units some =
        record { one = one; left = judged ∙ rw (lt-ltb 0 (remaining (clocks_after event task clocks) one.due) (omega (arith, units, some))); object = refl; units = units }

  advance_leaves : AdvanceLeaves event task clocks
  unfolding remaining
  advance_leaves =
      record {
        waits = λ handle setter at w some. left_with handle setter at true w _ (units_of_lem handle setter at true w ∙ omega arith) some;
        counts = λ handle setter at w two. left_with handle setter at false w _ (units_of_lem handle setter at false w ∙ omega arith) (omega (arith, two));
        ends = λ handle setter at w last.
            judged handle setter at false w
            ∙ rw (le-ltb 0 (remaining (clocks_after event task clocks) (one handle setter at false w).due) (omega (arith, units_of_lem handle setter at false w, last)));
      }

pub waiting_eats_nothing : WaitingEatsNothing
unfolding waiting_edges
waiting_eats_nothing =
    record { every = advance_leaves; gone = λ clocks k. no_departed clocks.tasks k.sixteen; four = refl; rows = waiting_edges_hold }
