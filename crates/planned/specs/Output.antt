-- What the program `plan` writes, as one function of its input.
use Rattle.std.specs.Prelude.{ℕ, ◌+◌, ◌*◌, ◌≤◌, List, [], ◌∷◌, ◌++◌, ◌≡◌, length, take, Option, Some, None}
use Rattle.ledger.specs.Limits.{standard}
use Rattle.ledger.specs.Plans.{run, figures}
use Rattle.ledger.specs.declared.plans.Channel.{Channel}
use Rattle.ledger.specs.declared.plans.Track.{Track}
use Rattle.text.specs.Decimals.{number_line, places}
use Rattle.plan_text.specs.Reading.{plan_of}
use Rattle.planned.specs.Bounds.{step_count}
use Rattle.planned.specs.declared.output.Output.{Output}

-- four numbers, each with the character after it
abbrev pub longest_line : ℕ
longest_line = 4 * (places + 1)

-- G10, P5: a line for each channel: replies, give-ups, refusals, and polls still open
unfoldable pub lines_of : List Track → List ℕ
lines_of [] = []
lines_of (t ∷ ts) = number_line (figures t) ++ lines_of ts

-- G2: `bad plan` and LF
abbrev pub bad_plan : List ℕ
bad_plan = 98 ∷ 97 ∷ 100 ∷ 32 ∷ 112 ∷ 108 ∷ 97 ∷ 110 ∷ 10 ∷ []

abbrev pub output_by : Option (List Channel) → List ℕ
output_by None = bad_plan
output_by (Some plan) = lines_of (run standard plan step_count).tracks

-- G15: of the whole input
abbrev pub output_of : List ℕ → List ℕ
output_of text = output_by (plan_of text)

-- these bytes are written
pub record Shows (written : List ℕ) (r : Output) : Type 0 where
  pub bytes : take r.count r.bytes ≡ written
  pub most : r.count ≤ length r.bytes
