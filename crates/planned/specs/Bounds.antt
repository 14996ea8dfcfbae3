-- What the program's numbers keep to: no count of a channel is larger than that of the steps.
use Rattle.std.specs.Prelude.{ℕ, ◌≤◌, Option, Some, None}
use Rattle.ledger.specs.declared.plans.Poll.{Poll}
use Rattle.ledger.specs.declared.plans.Track.{Track}

-- G15: from step 0 to 9,999
abbrev pub step_count : ℕ
step_count = 10000

abbrev pub PollBounded : ℕ → Option Poll → Type 0
PollBounded most None = Unit
PollBounded most (Some poll) = poll.begun ≤ most

pub record Bounded (most : ℕ) (t : Track) : Type 0 where
  pub period : 1 ≤ t.channel.period
  pub poll : PollBounded most t.poll
  pub replies : t.replies ≤ most
  pub quits : t.quits ≤ most
  pub refusals : t.refusals ≤ most
