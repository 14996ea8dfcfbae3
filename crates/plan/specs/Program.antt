-- What the program `plan` writes, as one function of its input.
use Rattle.std.specs.Prelude.{ℕ, ◌+◌, List, take}
use Rattle.planned.specs.Output.{output_of}

-- G2: the bytes of the longest plan
abbrev pub longest_plan : ℕ
longest_plan = 432

-- G15: a byte more tells a text that is too long from a plan
abbrev pub written_for : List ℕ → List ℕ
written_for input = output_of (take (longest_plan + 1) input)
