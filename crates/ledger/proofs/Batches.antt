-- The handles in a batch's bytes: how many there are, and the one at a place.
use Prim.Native.Nat.{ℕ, zero, suc, ◌+◌, ◌*◌, ◌/◌, ◌<◌}
use native.Mathlib.Nat.{suc-add}
use native.Mathlib.Omega.{arith}
use mathlib.Core.List.{List, [], ◌∷◌}
use mathlib.Core.Path.{◌≡◌, refl}
use lib.ListN.{length, get_or}
use Rattle.ledger.specs.Objects.{handles_of}

pub handles_count : (bytes : List ℕ) → length (handles_of bytes) ≡ length bytes / 4
unfolding handles_of
handles_count [] = refl
handles_count (a ∷ []) = refl
handles_count (a ∷ b ∷ []) = refl
handles_count (a ∷ b ∷ c ∷ []) = refl
handles_count (a ∷ b ∷ c ∷ d ∷ bytes) = omega (arith, handles_count bytes)

-- one handle more before it is four bytes more
four_more : (i : ℕ) → 4 * suc i ≡ suc (suc (suc (suc (4 * i))))
four_more i = omega arith

pub handle_at_lem : (bytes : List ℕ) (i : ℕ) → i < length bytes / 4
    → get_or (handles_of bytes) i 0
    ≡ 256 * (256 * (256 * get_or bytes (4 * i) 0 + get_or bytes (4 * i + 1) 0) + get_or bytes (4 * i + 2) 0) + get_or bytes (4 * i + 3) 0
unfolding handles_of
handle_at_lem [] i h = absurd (omega arith)
handle_at_lem (a ∷ []) i h = absurd (omega arith)
handle_at_lem (a ∷ b ∷ []) i h = absurd (omega arith)
handle_at_lem (a ∷ b ∷ c ∷ []) i h = absurd (omega arith)
handle_at_lem (a ∷ b ∷ c ∷ d ∷ bytes) zero h = refl
handle_at_lem (a ∷ b ∷ c ∷ d ∷ bytes) (suc i) h = simp (four_more, suc-add) (handle_at_lem bytes i (omega arith))
