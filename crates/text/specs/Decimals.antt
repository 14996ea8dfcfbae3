-- P5: numbers in decimal, as programs read and print them.
use Rattle.std.specs.Prelude.{ℕ, zero, suc, ◌+◌, ◌/◌, ◌%◌, cond, List, [], ◌∷◌, ◌++◌, ltb}

abbrev pub blank : ℕ
blank = 32

abbrev pub line_feed : ℕ
line_feed = 10

-- a number of at most so many digits, with no zero in front
unfoldable pub numeral_of : ℕ → ℕ → List ℕ
numeral_of zero n = []
numeral_of (suc places) n = cond (ltb n 10) ((48 + n) ∷ []) (numeral_of places (n / 10) ++ ((48 + n % 10) ∷ []))

-- no program reads or prints one of more than five
abbrev pub places : ℕ
places = 5

abbrev pub numeral : ℕ → List ℕ
numeral n = numeral_of places n

-- a line of numbers: one blank between two, and LF at the end
unfoldable pub number_line : List ℕ → List ℕ
number_line [] = line_feed ∷ []
number_line (n ∷ []) = numeral n ++ (line_feed ∷ [])
number_line (n ∷ m ∷ more) = numeral n ++ (blank ∷ number_line (m ∷ more))
