-- What a script writes and leaves: the lines of the ledger's replies to its lines, from fresh on, and the ledger after them.
use Rattle.std.specs.Prelude.{ℕ, ◌≤◌, ◌<◌, true, List, [], ◌∷◌, ◌++◌, ◌≡◌, length, drop}
use Rattle.ledger.specs.Objects.{Reply}
use Rattle.ledger.specs.Ledger.{Ledger, fresh, reply_to_frame, after_frame}
use Rattle.ledger.specs.Limits.{is_allowed}
use Rattle.ledger.specs.declared.Limits.{Limits}
use Rattle.answers.specs.Answers.{answer_line, longest_answer}
use Rattle.frames.specs.Frames.{frame_of, payload_of}
use Rattle.text.specs.Lines.{lines_of}
use Rattle.text.specs.Hex.{Puts}
use Rattle.calls.specs.Served.{IsReplyTo}
use Rattle.record.specs.Reading.{fresh_pool, whole_small, whole_large}
use Rattle.record.specs.Pools.{is_well_formed, Reads}
use Rattle.record.specs.declared.Pool.{Pool}
use Rattle.script.specs.declared.Ran.{Ran}

-- the ledger's reply to a line, and the ledger after it
abbrev pub reply_to_line : Ledger → List ℕ → Reply
reply_to_line L line = reply_to_frame L (frame_of line) (payload_of line)

abbrev pub after_line : Ledger → List ℕ → Ledger
after_line L line = after_frame L (frame_of line) (payload_of line)

-- line by line
unfoldable pub replies_to_lines : Ledger → List (List ℕ) → List Reply
replies_to_lines L [] = []
replies_to_lines L (line ∷ lines) = reply_to_line L line ∷ replies_to_lines (after_line L line) lines

unfoldable pub after_lines : Ledger → List (List ℕ) → Ledger
after_lines L [] = L
after_lines L (line ∷ lines) = after_lines (after_line L line) lines

-- the lines of replies, one after the other
unfoldable pub answer_lines : List Reply → List ℕ
answer_lines [] = []
answer_lines (y ∷ ys) = answer_line y.answer y.bytes ++ answer_lines ys

-- P3: an answer line to each line
abbrev pub answers_to : Ledger → List (List ℕ) → List ℕ
answers_to L lines = answer_lines (replies_to_lines L lines)

-- P3: from a fresh pool of these figures on
abbrev pub output_of : Limits → List ℕ → List ℕ
output_of limits script = answers_to (fresh limits) (lines_of script)

-- A run can go on: the record is well-formed, the stores are as long as its blocks need, and the next line starts in the script or at its
-- end.
pub record Runnable (p : Pool) (small large script : List ℕ) (at : ℕ) : Type 0 where
  pub fit : is_well_formed p ≡ true
  pub small_whole : length small ≡ whole_small p.head.limits
  pub large_whole : length large ≡ whole_large p.head.limits
  pub within : at ≤ length script

-- Lines are carried out one after the other: each gets record and stores as the last one left them, and has its reply.
pub data LinesRun : Pool → List ℕ → List ℕ → List (List ℕ) → List Reply → Pool → List ℕ → List ℕ → Type 0 where
  done : {p : Pool} {small large : List ℕ} → LinesRun p small large [] [] p small large
  carried : {p p' p'' : Pool} {small small' small'' large large' large'' line : List ℕ} {lines : List (List ℕ)} {y : Reply} {ys : List Reply}
      → IsReplyTo (frame_of line) (payload_of line) p small large y p' small' large' → LinesRun p' small' large' lines ys p'' small'' large''
      → LinesRun p small large (line ∷ lines) (y ∷ ys) p'' small'' large''

-- A run goes on from a place, and can go on from the next one:
pub record Continues (p : Pool) (small large script : List ℕ) (at : ℕ) (r : Ran) (small' large' out out' : List ℕ) : Type 0 where
  pub runnable : Runnable r.pool small' large' script r.next
  -- lines are carried out, and the last one left the record that is given back and the stores;
  pub lines : List (List ℕ)
  pub replies : List Reply
  pub run : LinesRun p small large lines replies r.pool small' large'
  -- they are those of the script between the two places,
  pub between : lines_of (drop at script) ≡ lines ++ lines_of (drop r.next script)
  -- and the lines of their replies are what is written.
  pub put : Puts 0 (answer_lines replies) out out' r.written
  -- where lines are left and the buffer has room for any answer, at least one is carried out
  pub moves : at < length script → longest_answer ≤ length out → at < r.next

-- A script run in parts: each goes on where the last one ended, with the record and stores that it left, until the script ends.
pub data InParts (script : List ℕ) : Pool → List ℕ → List ℕ → ℕ → List ℕ → Pool → List ℕ → List ℕ → Type 0 where
  ended : {p : Pool} {small large : List ℕ} {at : ℕ} → length script ≤ at → InParts script p small large at [] p small large
  part : {p p'' : Pool} {small small' small'' large large' large'' out out' rest : List ℕ} {at : ℕ} {r : Ran}
      → (c : Continues p small large script at r small' large' out out') → InParts script r.pool small' large' r.next rest p'' small'' large''
      → InParts script p small large at (answer_lines c.replies ++ rest) p'' small'' large''

-- D5: for all figures that a site may choose, from a fresh record, with stores as long as the blocks need and any bytes in them: the whole
-- output is this function of figures and script, record and stores then read as the ledger after all lines, and the record is well-formed.
abbrev pub WholeOutput : Type 0
WholeOutput =
    (limits : Limits) → is_allowed limits ≡ true → (small large : List ℕ) → length small ≡ whole_small limits → length large ≡ whole_large limits
    → (script whole : List ℕ) (p' : Pool) (small' large' : List ℕ) → InParts script (fresh_pool limits) small large 0 whole p' small' large'
    → (whole ≡ output_of limits script) × Reads p' small' large' (after_lines (fresh limits) (lines_of script)) × (is_well_formed p' ≡ true)
