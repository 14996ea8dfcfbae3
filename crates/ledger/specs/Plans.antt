-- The rules G3 to G10 (order 13 of document 02): a cable plan, stepped over a ledger. What its channels do is a list of calls from fresh
-- like any other, the next one chosen by the answers so far.
use Rattle.std.specs.Prelude.{ℕ, zero, suc, ◌+◌, ◌%◌, Bool, cond, not, ◌&&◌, List, [], ◌∷◌, ◌++◌, map, eqb, ltb, get_or, Option, Some, None, is_none}
use Rattle.lists.specs.Sums.{sum_below}
use Rattle.ledger.specs.Limits.{small_size}
use Rattle.ledger.specs.Ledger.{Ledger, Sent, fresh, reply, after_all}
use Rattle.ledger.specs.Rows.{send, share_of, join_with, resume, tick, write}
use Rattle.ledger.specs.declared.Answer.{Answer}
use Rattle.ledger.specs.declared.Answer.TheVariants.{Refused, Done, Advanced, Handle, Bytes, Counted, Lasts}
use Rattle.ledger.specs.declared.Call.{Call}
use Rattle.ledger.specs.declared.Call.TheVariants.{Schedule, Make}
use Rattle.ledger.specs.declared.Event.{Event}
use Rattle.ledger.specs.declared.Event.TheVariants.{Block, Tick}
use Rattle.ledger.specs.declared.Kind.TheVariants.{Local}
use Rattle.ledger.specs.declared.Limits.{Limits}
use Rattle.ledger.specs.declared.Share.{Share}
use Rattle.ledger.specs.declared.plans.Channel.{Channel}
use Rattle.ledger.specs.declared.plans.Poll.{Poll}
use Rattle.ledger.specs.declared.plans.Track.{Track}
use Rattle.ledger.specs.declared.plans.Turn.{Turn}
use Rattle.ledger.specs.declared.plans.Turn.TheVariants.{Rests, Begins, Replied, Quits}

-- G5: the step is divisible by p
abbrev pub is_due : Channel → ℕ → Bool
is_due c step = eqb (step % c.period) 0

-- r steps after the poll began, where that step is before s
abbrev pub has_reply : Channel → ℕ → ℕ → Bool
has_reply c step begun = eqb step (begun + c.reply) && ltb step c.silent

-- w steps after it began; never where w is 0
abbrev pub is_over : Channel → ℕ → ℕ → Bool
is_over c step begun = not (eqb c.wait 0) && eqb step (begun + c.wait)

-- G5: what a channel does in its turn, by its own poll alone
unfoldable pub turn_of : Channel → ℕ → Option Poll → Turn
turn_of c step None = cond (is_due c step) Begins Rests
turn_of c step (Some poll) =
    cond (has_reply c step poll.begun) (Replied poll.handle) (cond (is_over c step poll.begun) Quits Rests)

-- G6: what it makes: 32 bytes with a local expiration and no prefix
abbrev pub made_by : Channel → ℕ → Call
made_by c task = Make task Local c.extension small_size 0

-- the poll that the answer opens: none where the make is refused
abbrev pub opened_by : ℕ → Answer → Option Poll
opened_by step (Handle handle) = Some (record { begun = step; handle = handle })
opened_by step (Refused r) = None
opened_by step Done = None
opened_by step (Advanced b) = None
opened_by step Bytes = None
opened_by step (Counted u) = None
opened_by step (Lasts life) = None

abbrev pub opened : Ledger → ℕ → ℕ → Channel → Option Poll
opened L step task c = opened_by step (reply L (made_by c task) []).answer

-- then the channel blocks, and ticks where it was refused
abbrev pub closing : Option Poll → Event
closing poll = cond (is_none poll) Tick Block

-- G6: the calls of a turn, by the poll that its make opens
unfoldable pub turn_calls : Option Poll → ℕ → Channel → Turn → List Sent
turn_calls poll task c Begins = send (made_by c task) [] ∷ send (Schedule (closing poll) task) [] ∷ []
turn_calls poll task c (Replied handle) = resume task ∷ write task handle 0 (1 ∷ []) ∷ tick task ∷ []
turn_calls poll task c Quits = resume task ∷ tick task ∷ []
turn_calls poll task c Rests = []

-- G7: what the channel has after a make, a reply and a give-up
abbrev pub with_poll : Option Poll → Track → Track
with_poll poll t =
    record {
      channel = t.channel;
      poll = poll;
      replies = t.replies;
      quits = t.quits;
      refusals = t.refusals + cond (is_none poll) 1 0;
    }

abbrev pub with_reply : Track → Track
with_reply t = record { channel = t.channel; poll = None; replies = t.replies + 1; quits = t.quits; refusals = t.refusals }

abbrev pub with_quit : Track → Track
with_quit t = record { channel = t.channel; poll = None; replies = t.replies; quits = t.quits + 1; refusals = t.refusals }

unfoldable pub track_after : Option Poll → Track → Turn → Track
track_after poll t Begins = with_poll poll t
track_after poll t (Replied handle) = with_reply t
track_after poll t Quits = with_quit t
track_after poll t Rests = t

-- the turn of the channel with this track
abbrev pub turn : ℕ → Track → Turn
turn step t = turn_of t.channel step t.poll

abbrev pub calls_of_turn : Ledger → ℕ → ℕ → Track → List Sent
calls_of_turn L step task t = turn_calls (opened L step task t.channel) task t.channel (turn step t)

abbrev pub after_turn : Ledger → ℕ → ℕ → Track → Track
after_turn L step task t = track_after (opened L step task t.channel) t (turn step t)

-- G8: a step takes the channels in the order of their tasks, from a task on
unfoldable pub step_calls : Ledger → ℕ → ℕ → List Track → List Sent
step_calls L step task [] = []
step_calls L step task (t ∷ ts) =
    let calls = calls_of_turn L step task t in
    calls ++ step_calls (after_all L calls) step (suc task) ts

unfoldable pub after_step : Ledger → ℕ → ℕ → List Track → List Track
after_step L step task [] = []
after_step L step task (t ∷ ts) = after_turn L step task t ∷ after_step (after_all L (calls_of_turn L step task t)) step (suc task) ts

-- G3: before step 0 all join, with no reserve and the limits 64 and 32, and nothing is open or counted
abbrev pub plan_share : Share
plan_share = share_of 0 64 0 32

unfoldable pub joins : ℕ → List Channel → List Sent
joins task [] = []
joins task (c ∷ plan) = join_with task plan_share ∷ joins (suc task) plan

abbrev pub ready : Channel → Track
ready c = record { channel = c; poll = None; replies = 0; quits = 0; refusals = 0 }

-- G9: a plan so many steps on: the ledger, and the tracks of its channels
pub record World : Type 0 where
  pub ledger : Ledger
  pub tracks : List Track

unfoldable pub stepped : ℕ → World → World
stepped step w =
    record {
      ledger = after_all w.ledger (step_calls w.ledger step 0 w.tracks);
      tracks = after_step w.ledger step 0 w.tracks;
    }

unfoldable pub run : Limits → List Channel → ℕ → World
run limits plan zero = record { ledger = after_all (fresh limits) (joins 0 plan); tracks = map ready plan }
run limits plan (suc steps) = stepped steps (run limits plan steps)

-- and all its calls
unfoldable pub calls_of : Limits → List Channel → ℕ → List Sent
calls_of limits plan zero = joins 0 plan
calls_of limits plan (suc steps) =
    let w = run limits plan steps in
    calls_of limits plan steps ++ step_calls w.ledger steps 0 w.tracks

-- G10: the four figures of a channel: replies, give-ups, refusals, and polls still open
abbrev pub figures : Track → List ℕ
figures t = t.replies ∷ t.quits ∷ t.refusals ∷ cond (is_none t.poll) 0 1 ∷ []

abbrev pub no_channel : Channel
no_channel = record { period = 0; reply = 0; silent = 0; wait = 0; extension = 0 }

abbrev pub track_of : World → ℕ → Track
track_of w i = get_or w.tracks i (ready no_channel)

-- G11: the turns that a channel began with no poll open at a step divisible by p, of the steps below a number. Only its own turn opens or
-- ends a poll of it, so that the poll when its turn comes is that when the step begins.
abbrev pub is_begun : World → ℕ → ℕ → Bool
is_begun w i step = is_none (track_of w i).poll && is_due (track_of w i).channel step

abbrev pub turns : Limits → List Channel → ℕ → ℕ → ℕ
turns limits plan steps i = sum_below steps (λ (step : ℕ). cond (is_begun (run limits plan step) i step) 1 0)
