-- What the reader makes of a text, a byte at a time: None as soon as no plan begins as the text does.
use Rattle.std.specs.Prelude.{ℕ, ◌+◌, ◌-◌, ◌*◌, ◌≤◌, Bool, cond, ◌&&◌, ◌||◌, List, [], ◌∷◌, ◌++◌, ◌≡◌, eqb, leb, ltb, length, take, Option, Some, None, is_none, option_map, option_and_then}
use Rattle.ledger.specs.Limits.{task_count}
use Rattle.ledger.specs.declared.plans.Channel.{Channel}
use Rattle.text.specs.Decimals.{blank, line_feed}
use Rattle.plan_text.specs.declared.Line.{Line}
use Rattle.plan_text.specs.declared.Plan.{Plan}

abbrev pub new_line : Line
new_line = record { ended = 0; first = 0; second = 0; third = 0; fourth = 0; number = None }

-- no digit stands after a leading zero, and no number is above 65,535
abbrev pub number_with : Option ℕ → ℕ → Option ℕ
number_with None digit = Some digit
number_with (Some n) digit = cond (eqb n 0 || ltb 65535 (10 * n + digit)) None (Some (10 * n + digit))

abbrev pub with_digit : Line → ℕ → Option Line
with_digit line digit = option_map (λ n. record line { number = Some n }) (number_with line.number digit)

-- a blank stands after one of the first four numbers; the first two are at least 1
abbrev pub number_ended : Line → ℕ → Option Line
number_ended line n =
    cond (leb 4 line.ended || (ltb line.ended 2 && eqb n 0)) None
    (Some (record { ended = line.ended + 1; first = line.second; second = line.third; third = line.fourth; fourth = n; number = None }))

abbrev pub with_blank : Line → Option Line
with_blank line = option_and_then (number_ended line) line.number

-- all five numbers are there, and the last is at most 30
abbrev pub channel_with : Line → ℕ → Option Channel
channel_with line extension =
    cond (eqb line.ended 4 && leb extension 30)
    (Some (record { period = line.first; reply = line.second; silent = line.third; wait = line.fourth; extension = extension })) None

abbrev pub channel_of : Line → Option Channel
channel_of line = option_and_then (channel_with line) line.number

abbrev pub is_digit : ℕ → Bool
is_digit byte = leb 48 byte && leb byte 57

-- a byte more of a line that does not end with it
abbrev pub moved : Line → ℕ → Option Line
moved line byte = cond (eqb byte blank) (with_blank line) (cond (is_digit byte) (with_digit line (byte - 48)) None)

-- one channel more, where there is a task for it
abbrev pub with_channel : List Channel → Channel → Option (List Channel)
with_channel plan c = cond (ltb (length plan) task_count) (Some (plan ++ (c ∷ []))) None

-- no line is under way, and one at least has ended
abbrev pub plan_in : Line → List Channel → Option (List Channel)
plan_in line plan = cond (eqb line.ended 0 && is_none line.number && leb 1 (length plan)) (Some plan) None

-- the rest of a text; with LF a channel more
unfoldable pub read_from : Line → List Channel → List ℕ → Option (List Channel)
read_from line plan [] = plan_in line plan
read_from line plan (byte ∷ text) =
    cond (eqb byte line_feed)
    (option_and_then (λ more. read_from new_line more text) (option_and_then (with_channel plan) (channel_of line)))
    (option_and_then (λ next. read_from next plan text) (moved line byte))

-- G2: the plan of a text, if it is one
unfoldable pub plan_of : List ℕ → Option (List Channel)
plan_of text = read_from new_line [] text

-- the channels that a plan has
abbrev pub channels_of : Plan → List Channel
channels_of p = take p.count p.channels

-- A plan has no more channels than there are tasks, and an array of as many.
pub record Sized (p : Plan) : Type 0 where
  pub most : p.count ≤ task_count
  pub room : length p.channels ≡ task_count
