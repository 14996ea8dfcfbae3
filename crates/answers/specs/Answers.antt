-- The rules F27 to F32: the line of an answer.
use Rattle.std.specs.Prelude.{ℕ, ◌+◌, ◌*◌, ◌≤◌, ◌<◌, List, [], ◌∷◌, ◌++◌, length}
use Rattle.text.specs.Fields.{in_fields, width_of}
use Rattle.text.specs.Hex.{hex_of}
use Rattle.ledger.specs.Numbers.{answer_number, answer_values}
use Rattle.ledger.specs.declared.Answer.{Answer}
use Rattle.ledger.specs.declared.Answer.TheVariants.{Refused, Done, Advanced, Handle, Bytes, Counted, Lasts}
use Rattle.ledger.specs.Limits.{large_size}
use Rattle.record.specs.Reading.{block_bytes}
use Rattle.stores.specs.Places.{InBlock}

-- F31: the figures of a report
abbrev pub report_widths : List ℕ
report_widths = 1 ∷ 1 ∷ 2 ∷ 4 ∷ []

-- the widths of an answer's values in bytes
abbrev pub answer_widths : Answer → List ℕ
answer_widths (Refused refusal) = []
answer_widths Done = []
-- F29
answer_widths (Advanced advanced) = 1 ∷ []
-- F30
answer_widths (Handle handle) = 4 ∷ []
answer_widths Bytes = []
answer_widths (Counted usage) = report_widths
-- F32
answer_widths (Lasts life) = 1 ∷ 1 ∷ []

-- its values in bytes
unfoldable pub values_in : Answer → List ℕ
values_in answer = in_fields (answer_widths answer) (answer_values answer)

-- F28: the number of the answer, 0 or its refusal's, and what it tells
abbrev pub answer_head : Answer → List ℕ
answer_head answer = answer_number answer ∷ values_in answer

-- F27: in hexadecimal, with its LF; the bytes are those of a read
unfoldable pub answer_line : Answer → List ℕ → List ℕ
answer_line answer bytes = hex_of (answer_head answer ++ bytes) ++ (10 ∷ [])

-- room for any answer's line: two digits a byte of the widest head, which is report's, and of the largest object, and the LF
abbrev pub longest_answer : ℕ
longest_answer = 2 * (1 + width_of report_widths + large_size) + 1

-- The bytes that an answer shows lie in a block of the stores, and its line has room in a buffer from a place on.
pub record Showable (answer : Answer) (small large : List ℕ) (block count : ℕ) (out : List ℕ) (at : ℕ) : Type 0 where
  pub inside : 0 < count → InBlock small large block count
  pub room : at + length (answer_line answer (block_bytes small large block count)) ≤ length out
