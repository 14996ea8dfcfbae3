-- A round brings an advance: else every task that runs at its end would be ticked then, which from fresh on no ledger is.
use Prim.Native.Nat.{ℕ, zero, suc, ◌+◌, ◌≤◌, ◌<◌}
use native.Mathlib.Omega.{arith}
use mathlib.Core.Bool.{Bool, true, false, true≢false, false≢true, cond, not, ◌&&◌, ◌||◌, or-true}
use mathlib.Core.List.{List, [], ◌∷◌}
use mathlib.Core.Path.{◌≡◌, refl, sym, subst, ◌∙◌}
use borrow.Author.Tests.{ltb-true, ltb-false, lt-ltb, eqb-true}
use lib.Dec.{eqb, ltb}
use lib.ListN.{length, get_or, get_or-eq_default}
use Rattle.lists.specs.Tests.{any, all}
use Rattle.lists.specs.Tables.{all_from}
use Rattle.lists.proofs.Cases.{by_test, and₃, or_right}
use Rattle.lists.proofs.Tables.{all_from_at, get_or_set}
use Rattle.ledger.specs.Tasks.{Task, Clocks, task_at, absent_task, is_running, moved, all_ticked, tasks_after, advances, clocks_after}
use Rattle.ledger.specs.Ledger.{Ledger, Sent, after_sent, after_all}
use Rattle.ledger.specs.Awaited.{global_of}
use Rattle.ledger.specs.Kept.{Kept}
use Rattle.ledger.specs.Outlives.{Move, neither, joins, happens, releases, move_in, is_tick_of, is_start, count_of, is_round}
use Rattle.ledger.specs.declared.Event.{Event}
use Rattle.ledger.specs.declared.Event.TheVariants.{Leave, Block, Resume, Tick, View}
use Rattle.ledger.proofs.Awaited.{awaited}
use Rattle.ledger.proofs.Following.{clocks_by, clocks_moved}
use Rattle.ledger.proofs.Outlives.{is_done}
use Rattle.ledger.proofs.OutlivesTicks.{none_first}

-- an event that starts nobody leaves its task done: ticked, or not running
moved_done : (event : Event) (task : ℕ) (t : Task) → is_start (happens event task) ≡ false → is_done (moved event t) ≡ true
unfolding moved
moved_done Leave task t e = refl
moved_done Block task t e = refl
moved_done Resume task t e = absurd (true≢false e)
moved_done View task t e = refl
moved_done Tick task t e = or-true (not (is_running t.state))

ticks_self : (who : ℕ) (event : Event) (task : ℕ) → is_tick_of who (happens event task) ≡ true → eqb who task ≡ true
ticks_self who Leave task e = absurd (false≢true e)
ticks_self who Block task e = absurd (false≢true e)
ticks_self who Resume task e = absurd (false≢true e)
ticks_self who View task e = absurd (false≢true e)
ticks_self who Tick task e = e

or_false_right : (b : Bool) → (b || false) ≡ true → b ≡ true
or_false_right true e = refl
or_false_right false e = e

-- before the advance test: who was done or ticks now is done
done_moved : (clocks : Clocks) (event : Event) (task who : ℕ) → is_start (happens event task) ≡ false
    → (is_done (task_at clocks who) || is_tick_of who (happens event task)) ≡ true → is_done (get_or (tasks_after event task clocks) who absent_task) ≡ true
unfolding tasks_after
done_moved clocks event task who e h =
    let ts = clocks.tasks in
    rw (get_or_set ts task who (moved event (task_at clocks task)) absent_task)
    (by_test (eqb who task && ltb task (length ts)) (λ d. rw d (moved_done event task (task_at clocks task) e)) (λ d. rw d (other d)))
  where
    other : (eqb who task && ltb task (length clocks.tasks)) ≡ false → is_done (task_at clocks who) ≡ true
    other d =
        by_test (is_done (task_at clocks who)) (λ x. x)
        (λ x. let self = ticks_self who event task (rw x at h) in
        let past : ltb task (length clocks.tasks) ≡ false = rw self at d in
        rw (eqb-true who task self, get_or-eq_default clocks.tasks absent_task (ltb-false _ _ past)))

-- a call that advances nothing and starts nobody
done_step : (clocks : Clocks) (v : Move) (who : ℕ) → (clocks_by clocks v).global ≤ clocks.global → is_start v ≡ false
    → (is_done (task_at clocks who) || is_tick_of who v) ≡ true → is_done (task_at (clocks_by clocks v) who) ≡ true
unfolding clocks_after
done_step clocks neither who l e h = or_false_right (is_done (task_at clocks who)) h
done_step clocks (joins task share) who l e h = absurd (true≢false e)
done_step clocks (happens event task) who l e h =
    by_test (advances event task clocks)
    (λ a. let l' : clocks.global + 1 ≤ clocks.global = rw a at l in absurd (omega arith))
    (λ a. rw a (done_moved clocks event task who e h))
done_step clocks (releases handle) who l e h = or_false_right (is_done (task_at clocks who)) h

-- so it is over a list
done_all : (who : ℕ) (ss : List Sent) (L : Ledger) → global_of (after_all L ss) ≤ global_of L → count_of is_start L ss ≡ 0
    → (is_done (task_at L.memory.clocks who) || ltb 0 (count_of (is_tick_of who) L ss)) ≡ true → is_done (task_at (after_all L ss).memory.clocks who) ≡ true
unfolding after_all count_of
done_all who [] L l e h = or_false_right (is_done (task_at L.memory.clocks who)) h
done_all who (s ∷ ss) L l e h =
    let v = move_in L s.request s.bytes in
    let M = after_sent L s in
    let (sort, rest) = none_first (is_start v) _ e in
    let once = awaited.one L s.request s.bytes in
    let later = awaited.every M ss in
    let here : global_of M ≤ global_of L = omega (arith, l, later) in
    let there : global_of (after_all M ss) ≤ global_of M = omega (arith, l, once) in
    let still : (clocks_by L.memory.clocks v).global ≤ global_of L = subst (λ (clocks : Clocks). clocks.global ≤ global_of L) (clocks_moved L s.request s.bytes) here in
    by_test (is_done (task_at L.memory.clocks who) || is_tick_of who v)
    (λ x. done_all who ss M there rest
    (rw (subst (λ (clocks : Clocks). is_done (task_at clocks who) ≡ true) (sym (clocks_moved L s.request s.bytes)) (done_step L.memory.clocks v who still sort x))))
    (λ x. done_all who ss M there rest (or_right (is_done (task_at M.memory.clocks who)) (later_ticks (is_done (task_at L.memory.clocks who)) (is_tick_of who v) _ x h)))
  where
    later_ticks : (a b : Bool) (n : ℕ) → (a || b) ≡ false → (a || ltb 0 (cond b 1 0 + n)) ≡ true → ltb 0 n ≡ true
    later_ticks true b n x h = absurd (true≢false x)
    later_ticks false true n x h = absurd (true≢false x)
    later_ticks false false n x h = lt-ltb 0 n (omega (arith, ltb-true 0 (0 + n) h))

-- what every entry passes, all pass
all_each : (p : Task → Bool) (d : Task) (ts : List Task) → ((i : ℕ) → p (get_or ts i d) ≡ true) → all p ts ≡ true
all_each p d [] h = refl
all_each p d (t ∷ ts) h = rw (h zero, all_each p d ts (λ i. h (suc i)))

-- without an advance all that run would be ticked at the end of a round
all_done : (L : Ledger) (ss : List Sent) → global_of (after_all L ss) ≤ global_of L → is_round L ss ≡ true → all_ticked (after_all L ss).memory.clocks.tasks ≡ true
unfolding is_round all_ticked
all_done L ss l e =
    let ts = (after_all L ss).memory.clocks.tasks in
    let ticks : ℕ → Task → Bool = λ who t. not (is_running t.state) || ltb 0 (count_of (is_tick_of who) L ss) in
    let (starts, runs, each) = and₃ (eqb (count_of is_start L ss) 0) (any (λ (t : Task). is_running t.state) ts) (all_from 0 ticks ts) e in
    let none-starts = eqb-true (count_of is_start L ss) 0 starts in
    rw (
      runs,
      all_each is_done absent_task ts (λ who.
          by_test (not (is_running (get_or ts who absent_task).state))
          (λ stopped. rw stopped)
          (λ running. done_all who ss L l none-starts
          (or_right (is_done (task_at L.memory.clocks who)) (rw running at (all_from_at ticks absent_task (λ i. refl) ts each who))))),
    )

pub round_advances : (L : Ledger) (ss : List Sent) → Kept (after_all L ss) → is_round L ss ≡ true → global_of L < global_of (after_all L ss)
round_advances L ss k e =
    by_test (ltb (global_of L) (global_of (after_all L ss)))
    (λ l. ltb-true _ _ l)
    (λ l. absurd (true≢false (sym (all_done L ss (ltb-false _ _ l) e) ∙ k.clocks.unticked)))
