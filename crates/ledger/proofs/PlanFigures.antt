-- The turns that a channel began are the sum of its four figures: every turn moves both alike, whatever it is answered.
use Prim.Native.Nat.{ℕ, zero, suc, ◌+◌, ◌<◌}
use native.Mathlib.Nat.{not-suc-le-zero, le_of_suc-le-suc}
use native.Mathlib.Omega.{arith}
use mathlib.Core.Bool.{cond, ◌&&◌}
use mathlib.Core.List.{List, [], ◌∷◌, map}
use mathlib.Core.Path.{◌≡◌, refl, sym, ap, ◌∙◌}
use lib.ListN.{length, get_or, length-map}
use Rattle.std.specs.Prelude.{Option, Some, None, is_none}
use Rattle.lists.specs.Sums.{total, sum_below}
use Rattle.lists.proofs.Cases.{by_test}
use Rattle.ledger.specs.Ledger.{Ledger, fresh, after_all}
use Rattle.ledger.specs.Plans.{is_due, has_reply, is_over, turn_of, opened, with_poll, track_after, calls_of_turn, after_turn, step_calls, after_step, ready, stepped, run, calls_of, figures, no_channel, track_of, turns}
use Rattle.ledger.specs.declared.Limits.{Limits}
use Rattle.ledger.specs.declared.plans.Channel.{Channel}
use Rattle.ledger.specs.declared.plans.Poll.{Poll}
use Rattle.ledger.specs.declared.plans.Track.{Track}
use Rattle.ledger.proofs.Appended.{after_append}

-- the calls of a run leave its ledger
pub run_from : (limits : Limits) (plan : List Channel) (steps : ℕ)
    → after_all (fresh limits) (calls_of limits plan steps) ≡ (run limits plan steps).ledger
unfolding run stepped calls_of
run_from limits plan zero = refl
run_from limits plan (suc steps) =
    let w = run limits plan steps in
    after_append (calls_of limits plan steps) (step_calls w.ledger steps 0 w.tracks) (fresh limits)
    ∙ ap (λ (L : Ledger). after_all L (step_calls w.ledger steps 0 w.tracks)) (run_from limits plan steps)

-- the channel begins a turn
abbrev begun : ℕ → Track → ℕ
begun step t = cond (is_none t.poll && is_due t.channel step) 1 0

abbrev sum : Track → ℕ
sum t = total (figures t)

-- a make is one poll open or one refusal more
answered : (poll : Option Poll) (c : Channel) (a b r : ℕ)
    → sum (with_poll poll (record { channel = c; poll = None; replies = a; quits = b; refusals = r })) ≡ 1 + (a + (b + (r + (0 + 0))))
unfolding total
answered None c a b r = omega arith
answered (Some poll) c a b r = omega arith

turned : (L : Ledger) (step task : ℕ) (c : Channel) (poll : Option Poll) (a b r : ℕ)
    → let t : Track = record { channel = c; poll = poll; replies = a; quits = b; refusals = r } in
    sum (after_turn L step task t) ≡ begun step t + sum t
unfolding turn_of track_after total
turned L step task c None a b r =
    by_test (is_due c step) (λ e. rw e (answered (opened L step task c) c a b r)) (λ e. rw e (omega arith))
turned L step task c (Some poll) a b r =
    by_test (has_reply c step poll.begun)
    (λ e. rw e (omega arith))
    (λ e. by_test (is_over c step poll.begun) (λ d. rw (e, d) (omega arith)) (λ d. rw (e, d) (omega arith)))

-- a step is a turn of each
stepped_sum : (L : Ledger) (step task : ℕ) (ts : List Track) (i : ℕ) (d : Track) → i < length ts
    → sum (get_or (after_step L step task ts) i d) ≡ begun step (get_or ts i d) + sum (get_or ts i d)
unfolding after_step
stepped_sum L step task [] i d l = absurd (not-suc-le-zero l)
stepped_sum L step task (t ∷ ts) zero d l = turned L step task t.channel t.poll t.replies t.quits t.refusals
stepped_sum L step task (t ∷ ts) (suc i) d l = stepped_sum (after_all L (calls_of_turn L step task t)) step (suc task) ts i d
    (le_of_suc-le-suc l)

step_length : (L : Ledger) (step task : ℕ) (ts : List Track) → length (after_step L step task ts) ≡ length ts
unfolding after_step
step_length L step task [] = refl
step_length L step task (t ∷ ts) = ap suc (step_length (after_all L (calls_of_turn L step task t)) step (suc task) ts)

pub run_length : (limits : Limits) (plan : List Channel) (steps : ℕ) → length (run limits plan steps).tracks ≡ length plan
unfolding run stepped
run_length limits plan zero = length-map plan ready
run_length limits plan (suc steps) =
    let w = run limits plan steps in
    step_length w.ledger steps 0 w.tracks ∙ run_length limits plan steps

ready_sum : (plan : List Channel) (i : ℕ) → sum (get_or (map ready plan) i (ready no_channel)) ≡ 0
unfolding total
ready_sum [] i = refl
ready_sum (c ∷ plan) zero = refl
ready_sum (c ∷ plan) (suc i) = ready_sum plan i

pub counted : (limits : Limits) (plan : List Channel) (steps i : ℕ) → i < length plan
    → turns limits plan steps i ≡ total (figures (track_of (run limits plan steps) i))
unfolding run stepped sum_below
counted limits plan zero i l = sym (ready_sum plan i)
counted limits plan (suc steps) i l =
    let w = run limits plan steps in
    rw (counted limits plan steps i l) (sym (stepped_sum w.ledger steps 0 w.tracks i (ready no_channel)
    (rw (run_length limits plan steps) l)))
