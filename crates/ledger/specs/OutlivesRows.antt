-- U11: order 7 on lists of calls that are written out: both claims at work, that their figures are sharp, and that under other readings
-- they would be false.
use Rattle.std.specs.Prelude.{ℕ, ◌+◌, true, cond, List, [], ◌∷◌, map, ◌≡◌, length}
use Rattle.lists.specs.Tests.{All}
use Rattle.lists.specs.Tables.{read_by}
use Rattle.ledger.specs.Limits.{standard}
use Rattle.ledger.specs.Expirations.{Expiration}
use Rattle.ledger.specs.Ledger.{Ledger, Sent, fresh, after_sent, after_all}
use Rattle.ledger.specs.Outlives.{set_in, followed, is_tick_of, is_leave_of, count_of, Setting, when_set, is_round, never_waits, Stretch, are_rounds}
use Rattle.ledger.specs.Rows.{join, view, leave, block, resume, tick, make, refresh, batch, release}
use Rattle.ledger.specs.declared.Kind.TheVariants.{Local, Global, Pinned}

-- A part of the calls after the expiration was set: 2 for a round in which the setter never waits, 1 for one in which it does, 0 for no
-- round.
pub record Part : Type 0 where
  pub calls : List Sent
  pub sort : ℕ

abbrev pub round : List Sent → Part
round calls = record { calls = calls; sort = 2 }

abbrev pub waited : List Sent → Part
waited calls = record { calls = calls; sort = 1 }

abbrev pub loose : List Sent → Part
loose calls = record { calls = calls; sort = 0 }

-- A trial: the calls before, the call of task 0 that sets the expiration or expirations, how many it sets, the parts, the ticks of task 0
-- since, and how many of those are left.
pub record Trial : Type 0 where
  pub earlier : List Sent
  pub call : Sent
  pub set : ℕ
  pub parts : List Part
  pub ticks : ℕ
  pub left : ℕ

abbrev pub trial : List Sent → Sent → ℕ → List Part → ℕ → ℕ → Trial
trial earlier call set parts ticks left = record { earlier = earlier; call = call; set = set; parts = parts; ticks = ticks; left = left }

unfoldable pub trials : List Trial
trials =
    -- The first claim: e 1 outlives one tick of its setter, who was ticked when it set it.
    trial (join 0 ∷ join 1 ∷ tick 0 ∷ []) (make 0 Global 1 4) 1
    (round (tick 1 ∷ tick 0 ∷ tick 1 ∷ []) ∷ []) 1 1 ∷
    -- It is sharp: e 0 does not.
    trial (join 0 ∷ join 1 ∷ tick 0 ∷ []) (make 0 Global 0 4) 1
    (round (tick 1 ∷ tick 0 ∷ tick 1 ∷ []) ∷ []) 1 0 ∷
    -- The setter's own blocks bring three advances, and none of its ticks: each puts the expiration off. Judged by the state before the
    -- block, the second would end it.
    trial (join 0 ∷ join 1 ∷ []) (make 0 Global 0 4) 1
    (loose (tick 1 ∷ block 0 ∷ resume 0 ∷ tick 1 ∷ block 0 ∷ resume 0 ∷ tick 1 ∷ block 0 ∷ []) ∷ []) 0 1 ∷
    -- A refused tick does not count: task 0 waits.
    trial (join 0 ∷ join 1 ∷ []) (make 0 Global 0 4) 1
    (waited (block 0 ∷ tick 0 ∷ tick 1 ∷ tick 1 ∷ tick 1 ∷ []) ∷ []) 0 1 ∷
    -- A release ends the pinned one of its object, and not this one.
    trial (join 0 ∷ make 0 Pinned 0 4 ∷ []) (refresh 0 1 Global 1) 1
    (round (tick 0 ∷ release 0 1 ∷ []) ∷ []) 1 1 ∷
    -- The second claim: e 0 is gone after two rounds. A refused join, a refused resume, a view and calls that are no events break no round,
    -- a viewer need not tick in one, and the setter may wait between two.
    trial (join 0 ∷ join 1 ∷ []) (make 0 Global 0 4) 1
    (round (tick 0 ∷ join 0 ∷ view 2 ∷ tick 1 ∷ []) ∷ loose (block 0 ∷ resume 0 ∷ []) ∷ round (make 1 Local 0 4 ∷ tick 1 ∷ resume 1 ∷ tick 0 ∷ []) ∷ []) 2 0 ∷
    -- So are both expirations of a batch, and that of a refresh with e 1 after three.
    trial (join 0 ∷ make 0 Local 9 4 ∷ []) (batch 0 Global 0 (1 ∷ 1 ∷ [])) 2
    (round (tick 0 ∷ []) ∷ round (tick 0 ∷ []) ∷ []) 2 0 ∷
    trial (join 0 ∷ make 0 Local 9 4 ∷ []) (refresh 0 1 Global 1) 1
    (round (tick 0 ∷ []) ∷ round (tick 0 ∷ []) ∷ round (tick 0 ∷ []) ∷ []) 3 0 ∷
    -- It is sharp: after one round e 0 stands.
    trial (join 0 ∷ join 1 ∷ []) (make 0 Global 0 4) 1
    (round (tick 0 ∷ tick 1 ∷ []) ∷ []) 1 1 ∷
    -- A setter that has left does not wait, and who has its number since may.
    trial (join 0 ∷ join 1 ∷ []) (make 0 Global 0 4) 1
    (loose (leave 0 ∷ []) ∷ round (tick 1 ∷ []) ∷ loose (join 0 ∷ block 0 ∷ []) ∷ round (tick 1 ∷ []) ∷ []) 0 0 ∷
    -- Were the setter asked only at the end of a round, two rounds would not be enough: here it waits in the first, and leaves in it.
    trial (join 0 ∷ join 1 ∷ []) (make 0 Global 0 4) 1
    (loose (block 0 ∷ []) ∷ waited (tick 1 ∷ leave 0 ∷ []) ∷ round (tick 1 ∷ []) ∷ []) 0 1 ∷
    -- Nor would they be, were resumes allowed in a round: all that run have ticked in both, and only the second brings an advance.
    trial (join 0 ∷ join 1 ∷ []) (make 0 Global 0 4) 1
    (loose (tick 1 ∷ block 1 ∷ resume 1 ∷ tick 0 ∷ []) ∷ round (tick 0 ∷ tick 1 ∷ []) ∷ []) 2 1 ∷
    []

-- What the ledger makes of a trial: the expirations set, the sort of each part, the ticks, and what is left.
abbrev pub sorts : Ledger → List Expiration → List Part → List ℕ
sorts L xs [] = []
sorts L xs (r ∷ rs) = cond (is_round L r.calls) (cond (never_waits L r.calls xs) 2 1) 0 ∷ sorts (after_all L r.calls) (followed L r.calls xs) rs

abbrev pub all_calls : Trial → List Sent
all_calls t = read_by (λ (r : Part). r.calls) t.parts

abbrev pub set_by : Trial → List Expiration
set_by t = set_in (after_all (fresh standard) t.earlier) t.call.request t.call.bytes

abbrev pub ledger_of : Trial → Ledger
ledger_of t = after_sent (after_all (fresh standard) t.earlier) t.call

pub record TrialHolds (t : Trial) : Type 0 where
  pub set : length (set_by t) ≡ t.set
  pub parts : sorts (ledger_of t) (set_by t) t.parts ≡ map (λ (r : Part). r.sort) t.parts
  pub ticks : count_of (is_tick_of 0) (ledger_of t) (all_calls t) ≡ t.ticks
  pub left : length (followed (ledger_of t) (all_calls t) (set_by t)) ≡ t.left

pub record TrialsHold : Type 0 where
  pub twelve : length trials ≡ 12
  pub each : All TrialHolds trials

-- Neither claim is empty: there are a setting and calls that meet the premises of the first, with as many ticks as it allows, and a setting
-- and rounds that meet those of the second.
pub record ClaimsApply : Type 0 where
  pub ticks : (d : Setting) × (ss : List Sent)
      × (count_of (is_leave_of d.setter) (when_set d) ss ≡ 0) × (count_of (is_tick_of d.setter) (when_set d) ss ≡ d.extension)
  pub rounds : (d : Setting) × (rs : List Stretch) × (length rs ≡ d.extension + 2) × (are_rounds (when_set d) (d.expiration ∷ []) rs ≡ true)
