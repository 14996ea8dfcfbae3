-- What the program `poolrun` writes, as one function of its input.
use Rattle.std.specs.Prelude.{ℕ, nat_le, cond, List, [], ◌∷◌, length}
use Rattle.ledger.specs.Limits.{standard}
use Rattle.script.specs.Output.{output_of}

-- P2: the longest script that is run
abbrev pub longest_script : ℕ
longest_script = 65536

-- P4: `script too long` and LF
abbrev pub too_long : List ℕ
too_long = 115 ∷ 99 ∷ 114 ∷ 105 ∷ 112 ∷ 116 ∷ 32 ∷ 116 ∷ 111 ∷ 111 ∷ 32 ∷ 108 ∷ 111 ∷ 110 ∷ 103 ∷ 10 ∷ []

-- P2, P3, P4: for its whole input
abbrev pub written_for : List ℕ → List ℕ
written_for input = cond (nat_le (length input) longest_script) (output_of standard input) too_long
