-- The calls that test 14, by the places of their variants among all.
use Prim.Native.Nat.{ℕ}
use mathlib.Core.Bool.{false, not, ◌||◌}
use mathlib.Core.List.{List, [], ◌∷◌}
use mathlib.Core.Path.{◌≡◌, refl}
use lib.Dec.{T, eqb}
use mir.Val.{has_key}
use types.Run.{OneOf, miss}
use denote.Enum.Declared.{tag_of}
use borrow.Author.Tests.{eqb-true}
use Rattle.lists.proofs.Cases.{refuted}
use Rattle.ledger.specs.declared.Call.{Call}
use Rattle.ledger.specs.declared.Call.TheVariants.{Join, Schedule, Make, Refresh, Read, Write, Batch, Release}
use Rattle.ledger.specs.declared.Request.{Request}
use Rattle.ledger.specs.declared.Request.TheVariants.{Use, Report, Remaining}
use Rattle.ledger.specs.contracts.Call.{the_type}
use Rattle.ledger.specs.contracts.Request.{the_type as the-request}
use Rattle.calls.specs.Contract.{is_stored}
use Rattle.tested.specs.Stored.{stored_as}

-- a call whose place among all is one of some has no other
pub no_other : (ks : List ℕ) (c : Call) (m : ℕ) → T (not (has_key ks m)) → OneOf ks (tag_of the_type c) → eqb (tag_of the_type c) m ≡ false
no_other ks c m h k = refuted (eqb (tag_of the_type c) m) (λ e. miss ks m h (rw (eqb-true (tag_of the_type c) m e) at k))

-- which of the three a call is, by that place; and it is one of them where it tests 14
pub by_place : (c : Call)
    → (eqb (stored_as c) 1 ≡ eqb (tag_of the_type c) 2)
    × (eqb (stored_as c) 2 ≡ eqb (tag_of the_type c) 4)
    × (eqb (stored_as c) 3 ≡ eqb (tag_of the_type c) 5)
    × ((eqb (stored_as c) 1 || eqb (stored_as c) 2 || eqb (stored_as c) 3) ≡ is_stored (Use c))
by_place (Join task share) = (refl, refl, refl, refl)
by_place (Schedule event task) = (refl, refl, refl, refl)
by_place (Make task kind extension size prefix) = (refl, refl, refl, refl)
by_place (Refresh task kind extension handle) = (refl, refl, refl, refl)
by_place (Read task handle) = (refl, refl, refl, refl)
by_place (Write task handle offset) = (refl, refl, refl, refl)
by_place (Batch task kind extension) = (refl, refl, refl, refl)
by_place (Release task handle) = (refl, refl, refl, refl)

-- a request that is none of these calls
pub no_call_lem : (request : Request) → OneOf (1 ∷ 2 ∷ []) (tag_of the-request request) → false ≡ is_stored request
no_call_lem (Use c) k = absurd (miss (1 ∷ 2 ∷ []) 0 tt k)
no_call_lem Report k = refl
no_call_lem (Remaining task handle) k = refl
