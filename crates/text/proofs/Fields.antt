-- Laws of fields, high byte first.
use Prim.Native.Nat.{ℕ, zero, suc, ◌+◌, ◌/◌, ◌%◌, ◌^◌, ◌<◌}
use native.Mathlib.Nat.{add-zero, zero-add, div-lt_iff_lt-mul, pow-suc}
use native.Mathlib.Omega.{arith}
use mathlib.Core.List.{List, [], ◌∷◌, ◌++◌, append_assoc}
use mathlib.Core.Path.{◌≡◌, refl, ap}
use lib.ListN.{length, get_or, length-append}
use lib.Seq.{get_or_at}
use Rattle.lists.specs.Tests.{All}
use Rattle.lists.proofs.All.{all_append}
use Rattle.text.specs.Fields.{field_at, fields_at, in_bytes, in_fields, width_of, FitFields}

-- a field of one byte
pub field_one : (at : ℕ) (bytes : List ℕ) → field_at at 1 bytes ≡ get_or bytes at 0
field_one at bytes = rw (zero-add, add-zero)

length_in_bytes : (width value : ℕ) → length (in_bytes width value) ≡ width
length_in_bytes zero value = refl
length_in_bytes (suc width) value = rw (length-append, length_in_bytes width (value / 256)) (omega arith)

pub length_in_fields : (widths values : List ℕ) → FitFields widths values → length (in_fields widths values) ≡ width_of widths
length_in_fields [] values h = refl
length_in_fields (w ∷ ws) [] h = absurd h
length_in_fields (w ∷ ws) (v ∷ vs) (h, hs) = rw (length-append, length_in_bytes w v, length_in_fields ws vs hs)

bytes_below : (width value : ℕ) → All (λ (b : ℕ). b < 256) (in_bytes width value)
bytes_below zero value = tt
bytes_below (suc width) value = all_append _ (in_bytes width (value / 256)) _ (bytes_below width (value / 256)) (omega arith, tt)

pub fields_below : (widths values : List ℕ) → All (λ (b : ℕ). b < 256) (in_fields widths values)
fields_below [] values = tt
fields_below (w ∷ ws) [] = tt
fields_below (w ∷ ws) (v ∷ vs) = all_append _ (in_bytes w v) _ (bytes_below w v) (fields_below ws vs)

-- a field holds the number that was put into it
field_in : (front rest : List ℕ) (width value : ℕ) → value < 256 ^ width
    → field_at (length front) width (front ++ (in_bytes width value ++ rest)) ≡ value
field_in front rest zero value h = omega arith
field_in front rest (suc width) value h =
    let high = in_bytes width (value / 256) in
    let low = value % 256 in
    let size : length (front ++ high) ≡ length front + width = rw (length-append, length_in_bytes width (value / 256)) in
    let last : get_or (front ++ (high ++ (low ∷ rest))) (length front + width) 0 ≡ low =
    rw (← append_assoc) (get_or_at (front ++ high) low rest 0 (length front + width) size) in
    rw (append_assoc high, last, field_in front (low ∷ rest) width (value / 256) ((div-lt_iff_lt-mul (omega arith)).1 (rw pow-suc at h)))
    (omega arith)

-- fields hold the values that were put into them
pub fields_in : (front rest widths values : List ℕ) → FitFields widths values
    → fields_at (length front) widths (front ++ (in_fields widths values ++ rest)) ≡ values
fields_in front rest [] [] h = refl
fields_in front rest [] (v ∷ vs) h = absurd h
fields_in front rest (w ∷ ws) [] h = absurd h
fields_in front rest (w ∷ ws) (v ∷ vs) (h, hs) =
    let next : length (front ++ in_bytes w v) ≡ length front + w = rw (length-append, length_in_bytes w v) in
    let later = fields_in (front ++ in_bytes w v) rest ws vs hs in
    rw (append_assoc (in_bytes w v), field_in front (in_fields ws vs ++ rest) w v h)
    (ap (λ (values : List ℕ). v ∷ values) (rw (next, append_assoc) at later))
