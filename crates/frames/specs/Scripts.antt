-- The frames of a script, and the calls that it has.
use Rattle.std.specs.Prelude.{ℕ, List, [], ◌∷◌, Ok, Err}
use Rattle.lists.specs.Tables.{read_by}
use Rattle.ledger.specs.Ledger.{Sent, Frame}
use Rattle.text.specs.Lines.{lines_of}
use Rattle.frames.specs.Frames.{frame_of, payload_of}

-- the call of a frame, with the bytes that come with it; a frame that is refused has none
abbrev pub sent_by : Frame → List ℕ → List Sent
sent_by (Ok (request, count)) bytes = record { request = request; bytes = bytes } ∷ []
sent_by (Err why) bytes = []

abbrev pub sent_in : List ℕ → List Sent
sent_in line = sent_by (frame_of line) (payload_of line)

-- the calls of lines, and of a script
abbrev pub calls_in : List (List ℕ) → List Sent
calls_in lines = read_by sent_in lines

abbrev pub calls_of : List ℕ → List Sent
calls_of script = calls_in (lines_of script)
