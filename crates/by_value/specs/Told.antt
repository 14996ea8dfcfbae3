-- What a host is told of a reply: the number that an entry gives, and what the numbers and the buffer that the host lends then hold.
use Rattle.std.specs.Prelude.{ℕ, cond, List, [], ◌∷◌, ltb, length}
use Rattle.lists.specs.Blocks.{overwritten}
use Rattle.ledger.specs.Numbers.{answer_number, answer_values}
use Rattle.ledger.specs.Objects.{Reply}
use Rattle.ledger.specs.declared.Answer.{Answer}
use Rattle.ledger.specs.declared.Answer.TheVariants.{Refused, Done, Advanced, Handle, Bytes, Counted, Lasts}

-- a buffer too short: a number that is none of 01's
abbrev pub too_short : ℕ
too_short = 255

-- what a host lends beside the record and the stores
pub record Loans : Type 0 where
  pub numbers : List ℕ
  pub buffer : List ℕ

-- numbers alone, and no buffer
abbrev pub lent_numbers : List ℕ → Loans
lent_numbers numbers = record { numbers = numbers; buffer = [] }

-- a buffer, and a number for how many bytes go to it
abbrev pub buffered : ℕ → List ℕ → Loans
buffered count buffer = record { numbers = count ∷ []; buffer = buffer }

-- the number that it is given, and its loans as they are then
pub record Told : Type 0 where
  pub number : ℕ
  pub loans : Loans

-- numbers and bytes go to the start of what is lent_numbers for them, and the rest of it stays
abbrev pub filled : List ℕ → List ℕ → Loans → Loans
filled numbers bytes loans = record { numbers = overwritten 0 numbers loans.numbers; buffer = overwritten 0 bytes loans.buffer }

abbrev pub with_number : ℕ → Loans → Told
with_number number loans = record { number = number; loans = loans }

-- the numbers of a reply: its answer's values, and of a read how many bytes there are
abbrev pub numbers_of : Answer → List ℕ → List ℕ
numbers_of (Refused why) bytes = answer_values (Refused why)
numbers_of Done bytes = answer_values Done
numbers_of (Advanced b) bytes = answer_values (Advanced b)
numbers_of (Handle handle) bytes = answer_values (Handle handle)
numbers_of Bytes bytes = length bytes ∷ []
numbers_of (Counted usage) bytes = answer_values (Counted usage)
numbers_of (Lasts life) bytes = answer_values (Lasts life)

-- a reply by the call's own entry: a refusal has neither numbers nor bytes; nothing is copied where the bytes have no room
abbrev pub told_by : Reply → Loans → Told
told_by y loans =
    cond (ltb (length loans.buffer) (length y.bytes))
    (with_number too_short loans)
    (with_number (answer_number y.answer) (filled (numbers_of y.answer y.bytes) y.bytes loans))

-- the handle, where an answer tells it; else the number that was lent_numbers for it
abbrev pub handle_or : ℕ → Answer → ℕ
handle_or old (Refused why) = old
handle_or old Done = old
handle_or old (Advanced b) = old
handle_or old (Handle handle) = handle
handle_or old Bytes = old
handle_or old (Counted usage) = old
handle_or old (Lasts life) = old
