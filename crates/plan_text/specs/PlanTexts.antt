-- The reader takes the texts of plans and no other.
use Rattle.std.specs.Prelude.{ℕ, ◌≤◌, true, List, [], ◌∷◌, ◌++◌, ◌≡◌, length, take, drop, replicate}
use Rattle.std.specs.Prelude.{None, Some}
use Rattle.lists.specs.Tests.{All}
use Rattle.ledger.specs.declared.plans.Channel.{Channel}
use Rattle.text.specs.Decimals.{line_feed, blank, numeral}
use Rattle.plan_text.specs.Texts.{is_plan, text_of}
use Rattle.plan_text.specs.Reading.{plan_of}

-- the plan `1 1 0 0 0`, and its text
abbrev pub least : Channel
least = record { period = 1; reply = 1; silent = 0; wait = 0; extension = 0 }

abbrev pub least_text : List ℕ
least_text = text_of (least ∷ [])

-- with other bytes between two places
abbrev pub between : ℕ → ℕ → List ℕ → List ℕ
between start end new = take start least_text ++ (new ++ drop end least_text)

-- texts that are bad, each by one thing
unfoldable pub bad_texts : List (List ℕ)
bad_texts =
    -- no input
    [] ∷
    -- no LF at the end
    take 9 least_text ∷
    -- a zero in front of a number
    between 4 4 (numeral 0) ∷
    -- two blanks
    between 4 4 (blank ∷ []) ∷
    -- a blank before the LF
    between 9 9 (blank ∷ []) ∷
    -- six numbers, and four
    between 9 9 (blank ∷ numeral 0) ∷
    between 7 9 [] ∷
    -- p is 0, and r
    between 0 1 (numeral 0) ∷
    between 2 3 (numeral 0) ∷
    -- a number of 65,536, and an extension of 31
    between 4 5 (numeral 65536) ∷
    between 8 9 (numeral 31) ∷
    -- CR
    between 9 9 (13 ∷ []) ∷
    -- an empty line, and one without its LF, after a whole one
    (least_text ++ (line_feed ∷ [])) ∷
    (least_text ++ take 9 least_text) ∷
    -- 17 lines
    text_of (replicate 17 least) ∷
    []

pub record IsBad (text : List ℕ) : Type 0 where
  pub told : plan_of text ≡ None

pub record PlanTexts : Type 0 where
  -- G2: the text of a plan is read as that plan,
  pub read : (plan : List Channel) → is_plan plan ≡ true → plan_of (text_of plan) ≡ Some plan
  -- what is read as a plan is its text,
  pub only : (text : List ℕ) (plan : List Channel) → plan_of text ≡ Some plan → (is_plan plan ≡ true) × (text ≡ text_of plan)
  -- and has at most 432 bytes: so 433 bytes of an input decide
  pub short : (plan : List Channel) → is_plan plan ≡ true → length (text_of plan) ≤ 432
  pub bad : All IsBad bad_texts
