-- F24: the lines of a script, each up to its LF or the script's end.
use Rattle.std.specs.Prelude.{ℕ, ◌+◌, Bool, cond, List, [], ◌∷◌, eqb, ltb, length, drop}
use Rattle.lists.specs.Tables.{first_from}
use Rattle.text.specs.declared.lines.Line.{Line}

abbrev pub is_lf : ℕ → Bool
is_lf c = eqb c 10

-- a character in front of the first line; where there is no line, it is one that lacks its LF
abbrev pub in_front : ℕ → List (List ℕ) → List (List ℕ)
in_front c [] = (c ∷ []) ∷ []
in_front c (line ∷ lines) = (c ∷ line) ∷ lines

-- the lines of a script, without their LF
abbrev pub lines_of : List ℕ → List (List ℕ)
lines_of [] = []
lines_of (c ∷ script) = cond (is_lf c) ([] ∷ lines_of script) (in_front c (lines_of script))

-- where the line that starts at a place ends: at the next LF, or the script's end
abbrev pub line_end : List ℕ → ℕ → ℕ
line_end script at = first_from at is_lf (drop at script)

-- where the line after the one that ends at a place starts: after its LF, or at the script's end
abbrev pub line_after : List ℕ → ℕ → ℕ
line_after script end = cond (ltb end (length script)) (end + 1) end

-- the line that starts at a place
abbrev pub line_at : List ℕ → ℕ → Line
line_at script at = record { start = at; end = line_end script at; next = line_after script (line_end script at) }
