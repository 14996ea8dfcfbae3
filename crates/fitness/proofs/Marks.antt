-- Flags of bytes: those set so far, and those of the bytes that are left.
use Rattle.std.proofs.Common.{◌≡◌, ℕ, ◌+◌, ◌<◌, ◌≤◌, Bool, true, false, ◌||◌, eqb, List, [], ◌∷◌, ◌++◌, length, get_or, set, drop, replicate, sym, add-one, arith, length-set, get_or-set_other, get_or-set_same, eqb-true}
use mathlib.Core.Bool.{or-true, or-false}
use borrow.Author.Tests.{eqb-false}
use lib.ListN.{length-replicate, get_or-replicate, drop_of_length-le}
use lib.Seq.{drop-cons}
use Rattle.lists.specs.Tests.{any}
use Rattle.lists.proofs.Cases.{by_test}
use Rattle.fitness.specs.Checks.{is_byte, Marks}

-- each flag is set, or its byte is among the rest, where it is among all
pub record MarksLeft (bytes rest : List ℕ) (flags : List Bool) : Type 0 where
  pub size : length flags ≡ 256
  pub so : (k : ℕ) → k < 256 → (get_or flags k false || any (is_byte k) rest) ≡ any (is_byte k) bytes

pub left_start : (bytes : List ℕ) → MarksLeft bytes bytes (replicate 256 false)
left_start bytes = record { size = length-replicate 256 false; so = λ k l. rw (get_or-replicate 256 k false false l) }

-- the first of the rest sets its flag
left_turn : {bytes rest : List ℕ} {flags : List Bool} (x : ℕ) → MarksLeft bytes (x ∷ rest) flags → MarksLeft bytes rest (set flags x true)
left_turn {flags = flags} x m =
    record {
      size = simp length-set m.size;
      so = λ k l.
          by_test (eqb x k)
          (λ t. rw (eqb-true x k t, get_or-set_same flags k true false (omega (arith, m.size))) (rw (t, or-true) at (m.so k l)))
          (λ t. rw (get_or-set_other flags x k true false (λ e. eqb-false x k t (sym e))) (rw t at (m.so k l)));
    }

-- the same in a group
pub left_in : {bytes : List ℕ} (rest group : List ℕ) {flags : List Bool} {i at : ℕ} → MarksLeft bytes (drop i group ++ rest) flags → i < length group → at ≡ get_or group i 0
    → MarksLeft bytes (drop (i + 1) group ++ rest) (set flags at true)
left_in rest group {i = i} m h e = rw (e, add-one) (left_turn (get_or group i 0) (rw (drop-cons group i 0 h) at m))

-- past the group
pub left_past : {bytes : List ℕ} (rest group : List ℕ) {flags : List Bool} {i : ℕ} → MarksLeft bytes (drop i group ++ rest) flags → length group ≤ i → MarksLeft bytes rest flags
left_past rest group {i = i} m h = rw (drop_of_length-le group {i = i} h) at m

pub left_end : {bytes : List ℕ} {flags : List Bool} → MarksLeft bytes [] flags → Marks bytes flags
left_end m = record { so = λ k l. rw or-false at (m.so k l) }
