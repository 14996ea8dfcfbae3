-- The parts in which code makes its tests are the ledger's tests one after another.
use Prim.Native.Nat.{ℕ, ◌<◌}
use mathlib.Core.Bool.{Bool, true, false}
use mathlib.Core.List.{List, [], ◌∷◌, ◌++◌}
use mathlib.Core.Path.{◌≡◌, refl}
use borrow.Author.Tests.{leb-false}
use lib.Dec.{eqb, leb}
use Rattle.lists.proofs.Cases.{by_test, or_false_parts}
use Rattle.ledger.specs.Limits.{task_count}
use Rattle.ledger.specs.Tasks.{is_absent, is_waiting, is_viewing}
use Rattle.ledger.specs.Refusals.{Facts, Test, refusal_of, is_held, is_not_given, verdict, as_verdict, Verdict}
use Rattle.ledger.specs.declared.Refusal.{Refusal}
use Rattle.ledger.specs.declared.Refusal.TheVariants.{NoSuchTask, TaskAbsent, TaskWaiting, OnlyViews, HandleNotGiven, ObjectGone}
use Rattle.ledger.specs.declared.State.{State}
use Rattle.ledger.specs.declared.State.TheVariants.{Absent, Running, Waiting, Viewing}
use Rattle.record.specs.Tables.{block_entries}
use Rattle.record.specs.declared.TaskEntry.{TaskEntry}
use Rattle.steps.specs.Facts.{task_tests}
use Rattle.refusals.specs.Verdicts.{and_then, refuse_if, by_state, task_verdict, found_verdict}
use Rattle.std.specs.Prelude.{Result, Ok, Err}

-- verdicts one after another, in whatever grouping
pub then_assoc : {A : Type 0} (u v : Verdict) (w : Result A Refusal) → and_then (and_then u v) w ≡ and_then u (and_then v w)
then_assoc (Ok _) v w = refl
then_assoc (Err r) v w = refl

pub then_accepted : (v : Verdict) → and_then v (Ok tt) ≡ v
then_accepted (Ok _) = refl
then_accepted (Err r) = refl

-- a chain that accepts, accepts in each of its parts
pub both_accept : (v w : Verdict) → and_then v w ≡ Ok tt → (v ≡ Ok tt) × (w ≡ Ok tt)
both_accept (Ok _) w e = (refl, e)
both_accept (Err r) w e = (cc, cc)

-- what follows a verdict tells of it
pub next_refused : {A : Type 0} (v : Verdict) (x : A) {why : Refusal} → and_then v (Ok x) ≡ Err why → v ≡ Err why
next_refused (Ok _) x e = cc
next_refused (Err r) x e = cc

pub next_found : {A : Type 0} (v : Verdict) (x : A) {y : A} → and_then v (Ok x) ≡ Ok y → (v ≡ Ok tt) × (x ≡ y)
next_found (Ok _) x e = (refl, cc)
next_found (Err r) x e = (cc, cc)

pub not_refused : (b : Bool) (r : Refusal) → refuse_if b r ≡ Ok tt → b ≡ false
not_refused true r e = cc
not_refused false r e = refl

-- a test of the ledger, and those after it
pub test_then : (f : Facts) (t : Test) (ts : List Test) → as_verdict (verdict f (t ∷ ts))
    ≡ and_then (refuse_if (is_held f t) (refusal_of t)) (as_verdict (verdict f ts))
unfolding verdict
test_then f t ts = by_test (is_held f t) (λ e. rw e) (λ e. rw e)

pub no_test : (f : Facts) → as_verdict (verdict f []) ≡ Ok tt
unfolding verdict
no_test f = refl

pub tests_then : (f : Facts) (ts us : List Test) → as_verdict (verdict f (ts ++ us))
    ≡ and_then (as_verdict (verdict f ts)) (as_verdict (verdict f us))
tests_then f [] us = rw no_test
tests_then f (t ∷ ts) us = rw (test_then, tests_then f ts us, test_then f t ts, then_assoc)

-- 3 and 4 as tests, and 27 where the task is to act
to_look : (s : State) → by_state false s ≡ and_then (refuse_if (is_absent s) TaskAbsent) (refuse_if (is_waiting s) TaskWaiting)
to_look Absent = refl
to_look Running = refl
to_look Waiting = refl
to_look Viewing = refl

to_act : (s : State)
    → by_state true s ≡ and_then (refuse_if (is_absent s) TaskAbsent)
    (and_then (refuse_if (is_waiting s) TaskWaiting) (refuse_if (is_viewing s) OnlyViews))
to_act Absent = refl
to_act Running = refl
to_act Waiting = refl
to_act Viewing = refl

pub task_tests_lem : (f : Facts) (acts : Bool) (task : ℕ) (ts : List Test)
    → as_verdict (verdict f (task_tests acts task ts))
    ≡ and_then (and_then (refuse_if (leb task_count task) NoSuchTask) (by_state acts (f.state task))) (as_verdict (verdict f ts))
task_tests_lem f true task ts = simp (test_then, to_act, then_assoc)
task_tests_lem f false task ts = simp (test_then, to_look, then_assoc)

-- who may make a call is one of the tasks
pub task_known : (acts : Bool) (task : ℕ) (tasks : List TaskEntry) → task_verdict acts task tasks ≡ Ok tt → task < task_count
task_known acts task tasks v =
    leb-false task_count task (not_refused _ NoSuchTask (both_accept (refuse_if (leb task_count task) NoSuchTask) _ v).0)

-- 12 by the place alone, where 11 came before
pub found_by_place : (handle given place : ℕ)
    → and_then (refuse_if (is_not_given given handle) HandleNotGiven) (refuse_if (leb block_entries place) ObjectGone)
    ≡ found_verdict handle given place
found_by_place handle given place = by_test (eqb handle 0) (λ z. rw z) (λ n. rw n)

-- what is found lies in a block that there is
pub found_listed : (handle given place : ℕ) → found_verdict handle given place ≡ Ok tt → place < block_entries
found_listed handle given place v =
    leb-false _ _ (or_false_parts (eqb handle 0) _
    (not_refused _ _ (both_accept (refuse_if (is_not_given given handle) HandleNotGiven) _ v).1)).1
