-- Laws of frames: 18, 19 and the request of a known operation, by the length of its line; then the operation by its number.
use Prim.Native.Nat.{ℕ, ◌-◌, ◌/◌, ◌≤◌, ◌<◌}
use native.Mathlib.Omega.{arith}
use mathlib.Core.Bool.{true, false, and-eq-true_iff, and-false}
use mathlib.Core.List.{List, [], ◌∷◌}
use mathlib.Core.Option.{none, some}
use mathlib.Core.Path.{◌≡◌, refl, ◌∙◌}
use borrow.Author.Tests.{leb-true, le-leb, lt-leb, ne_eqb}
use lib.Dec.{eqb, leb}
use lib.ListN.{length, get_or-eq_default}
use Rattle.std.specs.Prelude.{Result, Ok, Err}
use Rattle.lists.specs.Tests.{All}
use Rattle.lists.proofs.Cases.{by_test, refuted}
use Rattle.ledger.specs.Ledger.{Frame}
use Rattle.ledger.specs.Numbers.{kind_of}
use Rattle.ledger.specs.declared.Kind.{Kind}
use Rattle.ledger.specs.declared.Refusal.{Refusal}
use Rattle.ledger.specs.declared.Refusal.TheVariants.{UnknownOperation, WrongFrameLength, UnknownKind}
use Rattle.ledger.specs.declared.Request.{Request}
use Rattle.text.specs.Fields.{field_at, fields_at}
use Rattle.frames.specs.Frames.{Operation, widths_of, head_size, bytes_up_to, tail_of, is_tail, is_size_of, handed_on, request_of, frame_as, operations, operation_number, operation_in, frame_by, frame_in}
use Rattle.text.specs.Hex.{bytes_of}
use Rattle.text.proofs.Digits.{length_bytes}
use Rattle.text.proofs.Fields.{field_one}

-- the sizes of an operation
module _ (o : Operation) (size : ℕ) where
  pub sizes : is_size_of o size ≡ true → (head_size o ≤ size) × (is_tail (tail_of o) (size - head_size o) ≡ true)
  sizes e = let (low, tail) = (and-eq-true_iff (leb (head_size o) size) _).0 e in (leb-true (head_size o) size low, tail)

  pub of_size : head_size o ≤ size → is_tail (tail_of o) (size - head_size o) ≡ true → is_size_of o size ≡ true
  of_size low tail = rw (le-leb (head_size o) size low, tail)

  pub too_short_lem : size < head_size o → is_size_of o size ≡ false
  too_short_lem h = rw (lt-leb (head_size o) size h)

  pub wrong_tail : is_tail (tail_of o) (size - head_size o) ≡ false → is_size_of o size ≡ false
  wrong_tail e = rw (e, and-false)

-- only R19 stands for a byte that is no kind's
unknown_kind : (byte : ℕ) {why : Refusal} → kind_of byte ≡ Err why → why ≡ UnknownKind
unknown_kind byte k =
    by_test (eqb byte 0)
    (λ e. absurd (known (rw e at k)))
    (λ e. by_test (eqb byte 1) (λ f. absurd (known (rw (e, f) at k)))
    (λ f. by_test (eqb byte 2) (λ g. absurd (known (rw (e, f, g) at k))) (λ g. refused (rw (e, f, g) at k))))
  where
    known : {kind : Kind} {why : Refusal} → ◌≡◌ {A = Result Kind Refusal} (Ok kind) (Err why) → ⊥
    known e = let z : ◌≡◌ {A = ℕ} 0 1 = cc in omega arith

    refused : {why : Refusal} → ◌≡◌ {A = Result Kind Refusal} (Err UnknownKind) (Err why) → why ≡ UnknownKind
    refused e = cc

module _ (o : Operation) (line : List ℕ) where
  abbrev values_in : List ℕ
  values_in = fields_at 1 (widths_of o) (bytes_of line)

  pub wrong_size : is_size_of o (length line / 2) ≡ false → Err WrongFrameLength ≡ frame_as o (bytes_of line)
  unfolding frame_as
  wrong_size e = rw (length_bytes line, e)

  pub wrong_kind : is_size_of o (length line / 2) ≡ true → (byte : ℕ) {why : Refusal} {frame : Frame} → kind_of byte ≡ Err why → frame ≡ Err why
      → none ≡ request_of o values_in → frame ≡ frame_as o (bytes_of line)
  unfolding frame_as
  wrong_kind e byte k f r = rw (f, unknown_kind byte k, length_bytes line, e, ← r)

  pub right_size : is_size_of o (length line / 2) ≡ true → {request : Request} {count : ℕ} → some request ≡ request_of o values_in
      → count ≡ handed_on (tail_of o) (length line / 2 - head_size o) → Ok (request, count) ≡ frame_as o (bytes_of line)
  unfolding frame_as
  right_size e r n = rw (length_bytes line, e, ← r, n)

  -- of an operation that no bytes follow
  module _ (alone : tail_of o ≡ bytes_up_to 0) where
    pub other_size : {frame : Frame} → frame ≡ Err WrongFrameLength → (length line / 2 ≡ head_size o → ⊥) → frame ≡ frame_as o (bytes_of line)
    other_size e ne =
        e ∙ wrong_size (refuted _ (λ e. let (low, tail) = sizes o (length line / 2) e in
        ne (omega (arith, leb-true (length line / 2 - head_size o) 0 (rw alone at tail)))))

    pub own : length line / 2 ≡ head_size o → is_size_of o (length line / 2) ≡ true
    own e = of_size o (length line / 2) (omega arith) (rw alone (le-leb (length line / 2 - head_size o) 0 (omega arith)))

    pub own_size : length line / 2 ≡ head_size o → {request : Request} → some request ≡ request_of o values_in
        → Ok (request, 0) ≡ frame_as o (bytes_of line)
    own_size e r = right_size (own e) r (rw alone (omega arith))

-- by the operation's number, or none
pub by_number : (bytes : List ℕ) {byte : ℕ} (number : ℕ) → byte ≡ field_at 0 1 bytes → byte ≡ number
    → frame_by (operation_in operations number) bytes ≡ frame_in bytes
unfolding frame_in
by_number bytes number e n = rw (← n, e, field_one 0 bytes)

unknown : (os : List Operation) (number : ℕ) → All (λ (o : Operation). number ≡ operation_number o → ⊥) os → operation_in os number ≡ none
unknown [] number h = refl
unknown (o ∷ os) number (h, hs) = rw (ne_eqb number (operation_number o) h) (unknown os number hs)

pub unknown_operation : (bytes : List ℕ) {byte : ℕ} → byte ≡ field_at 0 1 bytes → All (λ (o : Operation). byte ≡ operation_number o → ⊥) operations
    → Err UnknownOperation ≡ frame_in bytes
unknown_operation bytes {byte} e h = rw (← by_number bytes byte e refl, unknown operations byte h)

pub no_operation : (line : List ℕ) → length line ≡ 0 → Err UnknownOperation ≡ frame_in (bytes_of line)
unfolding frame_in
no_operation line e = rw (get_or-eq_default (bytes_of line) 0 {n = 0} (rw (length_bytes line) (omega arith)))
