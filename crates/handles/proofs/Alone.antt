-- A test of all blocks with their places.
use Prim.Native.Nat.{ℕ, suc, ◌+◌, ◌<◌}
use native.Mathlib.Nat.{zero-add, add-zero}
use native.Mathlib.Omega.{arith}
use mathlib.Core.Bool.{Bool, true, false, not, ◌&&◌, ◌||◌, and_assoc, and-true}
use mathlib.Core.List.{List, [], ◌∷◌}
use mathlib.Core.Path.{◌≡◌, sym, ap, ◌∙◌}
use lib.Dec.{eqb}
use lib.ListN.{length, get_or}
use Rattle.std.specs.List.{fold, zip, enumerate_from}
use Rattle.lists.specs.Tables.{all_from}
use Rattle.handles.specs.Handles.{is_alone_in}

abbrev pub alone_after : Bool → ℕ × (Bool × ℕ) → Bool
alone_after alone p = alone && (not p.1.0 || eqb p.1.1 p.0)

-- the blocks from i on
alone_from : (used us : List Bool) (parts : List ℕ) (i : ℕ) (alone : Bool) → length us ≡ length parts
    → ((k : ℕ) → k < length us → get_or us k false ≡ get_or used (i + k) false)
    → fold alone_after alone (enumerate_from i (zip us parts)) ≡ (alone && all_from i (is_alone_in used) parts)
alone_from used [] [] i alone e f = sym (and-true alone)
alone_from used [] (p ∷ parts) i alone e f = absurd (omega arith)
alone_from used (u ∷ us) [] i alone e f = absurd (omega arith)
alone_from used (u ∷ us) (p ∷ parts) i alone e f =
    let here : u ≡ get_or used i false = f 0 (omega arith) ∙ ap (λ (n : ℕ). get_or used n false) (add-zero i) in
    let one : i + 1 ≡ suc i = omega arith in
    rw (one, here)
    (alone_from used us parts (suc i) (alone && (not (get_or used i false) || eqb p i)) (omega arith)
    (λ k l. f (suc k) (omega arith) ∙ ap (λ (n : ℕ). get_or used n false) (omega arith))
    ∙ and_assoc alone (not (get_or used i false) || eqb p i) (all_from (suc i) (is_alone_in used) parts))

pub alone_folded : (used : List Bool) (parts : List ℕ) → length used ≡ length parts
    → fold alone_after true (enumerate_from 0 (zip used parts)) ≡ all_from 0 (is_alone_in used) parts
alone_folded used parts e = alone_from used used parts 0 true e (λ k l. rw zero-add)
