-- P1: what one step of a reader gives.
use Rattle.std.specs.Prelude.{ℕ, ◌-◌, ◌≤◌, ◌<◌, List, ◌≡◌, length, take, drop, Option, Some, None}
use denote.Ref.{Bor}
use Rattle.text.specs.Lines.{line_end, line_at}
use Rattle.text.specs.declared.lines.Line.{Line}
use Rattle.text.specs.declared.reader.Reader.{Reader}

-- the line at the reader's offset
abbrev pub next_line : Reader → Line
next_line reader = line_at reader.script.now reader.next

-- the line that starts at a place of a script
abbrev pub line_in : List ℕ → ℕ → List ℕ
line_in script at = take (line_end script at - at) (drop at script)

-- The line at the reader's place, and where the next one starts; none where the script ends.
abbrev pub Steps : Reader → Option (Bor (List ℕ)) → Reader → Type 0
Steps reader None after = (length reader.script.now ≤ reader.next) × (after ≡ reader)
Steps reader (Some line) after =
    (reader.next < length reader.script.now) × (line.now ≡ line_in reader.script.now reader.next)
    × (after.script ≡ reader.script) × (after.next ≡ (line_at reader.script.now reader.next).next)
