-- F23: numbers in fields of several bytes, the highest first.
use Rattle.std.specs.Prelude.{ℕ, zero, suc, ◌+◌, ◌*◌, ◌/◌, ◌%◌, ◌^◌, ◌<◌, List, [], ◌∷◌, ◌++◌, get_or}

-- the number in so many bytes from a place on
abbrev pub field_at : ℕ → ℕ → List ℕ → ℕ
field_at at zero bytes = 0
field_at at (suc width) bytes = 256 * field_at at width bytes + get_or bytes (at + width) 0

-- fields of these widths, one after the other from a place on
abbrev pub fields_at : ℕ → List ℕ → List ℕ → List ℕ
fields_at at [] bytes = []
fields_at at (width ∷ widths) bytes = field_at at width bytes ∷ fields_at (at + width) widths bytes

-- a number in so many bytes
abbrev pub in_bytes : ℕ → ℕ → List ℕ
in_bytes zero value = []
in_bytes (suc width) value = in_bytes width (value / 256) ++ (value % 256 ∷ [])

-- numbers in fields of these widths
abbrev pub in_fields : List ℕ → List ℕ → List ℕ
in_fields [] values = []
in_fields (width ∷ widths) [] = []
in_fields (width ∷ widths) (value ∷ values) = in_bytes width value ++ in_fields widths values

-- the bytes of fields: a sum that computes where it stands, as the lengths of frames have to
abbrev pub width_of : List ℕ → ℕ
width_of [] = 0
width_of (width ∷ widths) = width + width_of widths

-- values that fit fields of these widths
abbrev pub FitFields : List ℕ → List ℕ → Type 0
FitFields [] [] = Unit
FitFields [] (value ∷ values) = ⊥
FitFields (width ∷ widths) [] = ⊥
FitFields (width ∷ widths) (value ∷ values) = (value < 256 ^ width) × FitFields widths values
