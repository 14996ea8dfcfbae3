-- No count of a channel is larger than that of the steps, and no poll began after the last of them.
use Rattle.std.specs.Prelude.{Option, Some, None, is_none}
use Prim.Native.Nat.{ℕ, zero, suc, ◌≤◌}
use native.Mathlib.Omega.{arith}
use mathlib.Core.Bool.{true, cond, and-eq-true_iff}
use mathlib.Core.List.{List, [], ◌∷◌, map}
use mathlib.Core.Path.{◌≡◌}
use lib.ListN.{length}
use Rattle.lists.specs.Tests.{all, All}
use Rattle.ledger.specs.Limits.{task_count, is_within}
use Rattle.ledger.specs.Ledger.{Ledger, reply, after_all}
use Rattle.ledger.specs.Plans.{made_by, opened_by, opened, track_after, turn, calls_of_turn, after_step, ready, stepped, run}
use Rattle.ledger.specs.declared.Answer.{Answer}
use Rattle.ledger.specs.declared.Answer.TheVariants.{Refused, Done, Advanced, Handle, Bytes, Counted, Lasts}
use Rattle.ledger.specs.declared.Limits.{Limits}
use Rattle.ledger.specs.declared.plans.Channel.{Channel}
use Rattle.ledger.specs.declared.plans.Poll.{Poll}
use Rattle.ledger.specs.declared.plans.Track.{Track}
use Rattle.ledger.specs.declared.plans.Turn.{Turn}
use Rattle.ledger.specs.declared.plans.Turn.TheVariants.{Rests, Begins, Replied, Quits}
use Rattle.plan_text.specs.Texts.{is_channel, is_plan}
use Rattle.plan_text.proofs.Complete.{ranges}
use Rattle.planned.specs.Bounds.{PollBounded, Bounded}

one_at_most : (poll : Option Poll) → cond (is_none poll) 1 0 ≤ 1
one_at_most None = omega arith
one_at_most (Some poll) = omega arith

wider_poll : {k n : ℕ} → k ≤ n → (poll : Option Poll) → PollBounded k poll → PollBounded n poll
wider_poll l None b = tt
wider_poll l (Some poll) b = omega (arith, b, l)

pub wider : {k n : ℕ} → k ≤ n → (t : Track) → Bounded k t → Bounded n t
wider l t b =
    record {
      period = b.period;
      poll = wider_poll l t.poll b.poll;
      replies = omega (arith, b.replies, l);
      quits = omega (arith, b.quits, l);
      refusals = omega (arith, b.refusals, l);
    }

opened_bounded : (step : ℕ) (answer : Answer) → PollBounded (suc step) (opened_by step answer)
opened_bounded step (Handle h) = omega arith
opened_bounded step (Refused r) = tt
opened_bounded step Done = tt
opened_bounded step (Advanced b) = tt
opened_bounded step Bytes = tt
opened_bounded step (Counted u) = tt
opened_bounded step (Lasts life) = tt

-- a turn adds one at most
turn_bounded : (step : ℕ) (poll : Option Poll) → PollBounded (suc step) poll → (t : Track) → Bounded step t → (w : Turn)
    → Bounded (suc step) (track_after poll t w)
unfolding track_after
turn_bounded step poll o t b Rests = wider (omega arith) t b
turn_bounded step poll o t b Begins =
    record {
      period = b.period;
      poll = o;
      replies = omega (arith, b.replies);
      quits = omega (arith, b.quits);
      refusals = omega (arith, b.refusals, one_at_most poll);
    }
turn_bounded step poll o t b (Replied handle) =
    record {
      period = b.period;
      poll = tt;
      replies = omega (arith, b.replies);
      quits = omega (arith, b.quits);
      refusals = omega (arith, b.refusals);
    }
turn_bounded step poll o t b Quits =
    record {
      period = b.period;
      poll = tt;
      replies = omega (arith, b.replies);
      quits = omega (arith, b.quits);
      refusals = omega (arith, b.refusals);
    }

step_bounded : (ts : List Track) (L : Ledger) (step task : ℕ) → All (Bounded step) ts
    → All (Bounded (suc step)) (after_step L step task ts)
unfolding after_step
step_bounded [] L step task b = tt
step_bounded (t ∷ ts) L step task (b, bs) = (
  turn_bounded step (opened L step task t.channel) (opened_bounded step (reply L (made_by t.channel task) []).answer) t b
      (turn step t),
  step_bounded ts (after_all L (calls_of_turn L step task t)) step (suc task) bs,
)

ready_bounded : (plan : List Channel) → all is_channel plan ≡ true → All (Bounded 0) (map ready plan)
ready_bounded [] e = tt
ready_bounded (c ∷ plan) e =
    let (this, others) = (and-eq-true_iff (is_channel c) (all is_channel plan)).0 e in (
      record { period = (ranges c this).period.0; poll = tt; replies = omega arith; quits = omega arith; refusals = omega arith },
      ready_bounded plan others,
    )

pub run_bounded : (limits : Limits) (plan : List Channel) → is_plan plan ≡ true → (steps : ℕ)
    → All (Bounded steps) (run limits plan steps).tracks
unfolding run stepped is_plan
run_bounded limits plan e zero = ready_bounded plan ((and-eq-true_iff (is_within 1 task_count (length plan)) (all is_channel plan)).0 e).1
run_bounded limits plan e (suc steps) =
    let w = run limits plan steps in
    step_bounded w.tracks w.ledger steps 0 (run_bounded limits plan e steps)
