-- The rules G1 and G2 (order 13 of document 02): what a cable plan is, and its text. A text that is none of these is bad.
use Rattle.std.specs.Prelude.{ℕ, Bool, ◌&&◌, List, [], ◌∷◌, ◌++◌, leb, length}
use Rattle.lists.specs.Tests.{all}
use Rattle.text.specs.Decimals.{number_line}
use Rattle.ledger.specs.Limits.{task_count, is_within}
use Rattle.ledger.specs.declared.plans.Channel.{Channel}

-- G1: no number above 65,535, the first two at least 1, the last at most 30
unfoldable pub is_channel : Channel → Bool
is_channel c =
    is_within 1 65535 c.period && is_within 1 65535 c.reply && leb c.silent 65535 && leb c.wait 65535 && leb c.extension 30

-- G1: a channel for each task, and one at least
unfoldable pub is_plan : List Channel → Bool
is_plan plan = is_within 1 task_count (length plan) && all is_channel plan

abbrev pub numbers_of : Channel → List ℕ
numbers_of c = c.period ∷ c.reply ∷ c.silent ∷ c.wait ∷ c.extension ∷ []

-- G2: a line for each channel
unfoldable pub text_of : List Channel → List ℕ
text_of [] = []
text_of (c ∷ plan) = number_line (numbers_of c) ++ text_of plan
