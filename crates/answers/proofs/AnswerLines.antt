-- The line of an answer as it is put into a buffer, and how long it is.
use Prim.Native.Nat.{ℕ, ◌+◌, ◌*◌, ◌%◌, ◌≤◌, ◌<◌}
use native.Mathlib.Omega.{arith}
use mathlib.Core.Bool.{Bool, true, false, cond}
use mathlib.Core.List.{List, [], ◌∷◌, ◌++◌}
use mathlib.Core.Path.{◌≡◌, refl, ap}
use mir.Val.{bool_byte}
use lib.ListN.{length, set, length-append}
use Rattle.ledger.specs.declared.Answer.{Answer}
use Rattle.ledger.specs.declared.Answer.TheVariants.{Refused, Done, Advanced, Handle, Bytes, Counted, Lasts}
use Rattle.ledger.specs.Limits.{large_size}
use Rattle.answers.specs.Answers.{values_in, answer_head, answer_line, longest_answer}
use Rattle.text.specs.Fields.{in_bytes}
use Rattle.text.specs.Hex.{hex_of, Puts}
use Rattle.text.proofs.Digits.{length_hex, hex_append}
use Rattle.lists.proofs.Blocks.{length_overwritten}
use Rattle.ledger.specs.Numbers.{answer_number}
use Rattle.text.proofs.Puts.{puts_on, puts_store, puts_hex}

bool_byte_lem : (b : Bool) → bool_byte b ≡ cond b 1 0 % 256
bool_byte_lem true = refl
bool_byte_lem false = refl

-- a head is one byte at least
pub head_one : (answer : Answer) → 2 ≤ 2 * length (answer_head answer)
head_one answer = omega arith

-- the values of an answer, by its kind
module _ {answer : Answer} where
  pub advanced_values : {advanced : Bool} → answer ≡ Advanced advanced → bool_byte advanced ∷ [] ≡ values_in answer
  unfolding values_in
  advanced_values e = rw (e, bool_byte_lem)

  pub handle_values : {handle : ℕ} → answer ≡ Handle handle → in_bytes 4 handle ≡ values_in answer
  unfolding values_in
  handle_values e = rw e

-- the number of an answer, and then its values
module _ (answer : Answer) {old first : List ℕ} {number next : ℕ} (fits : 2 * length (answer_head answer) ≤ length old) (n : number ≡ answer_number answer)
    (p : Puts 0 (hex_of (number ∷ [])) old first next) where
  same_size : length first ≡ length old
  same_size = rw p.bytes (length_overwritten 0 (hex_of (number ∷ [])) old (omega (arith, fits)))

  module _ {values : List ℕ} (e : values ≡ values_in answer) where
    pub room_after_number : next + 2 * length values ≤ length first
    room_after_number = rw e (omega (arith, fits, p.next, same_size))

    pub puts_values : {after : List ℕ} {end : ℕ} → Puts next (hex_of values) first after end → Puts 0 (hex_of (answer_head answer)) old after end
    puts_values q = rw (← e, ← n) (puts_hex (number ∷ []) values p q (omega (arith, fits, ap length e)))

  pub puts_number : [] ≡ values_in answer → Puts 0 (hex_of (answer_head answer)) old first next
  puts_number e = rw (← e, ← n) p

line_parts : (answer : Answer) (bytes : List ℕ) → answer_line answer bytes ≡ hex_of (answer_head answer) ++ hex_of bytes ++ (10 ∷ [])
unfolding answer_line
line_parts answer bytes = ap (λ (digits : List ℕ). digits ++ (10 ∷ [])) (hex_append (answer_head answer) bytes)

pub length_line : (answer : Answer) (bytes : List ℕ) → length (answer_line answer bytes) ≡ 2 * length (answer_head answer) + 2 * length bytes + 1
length_line answer bytes = rw line_parts (simp (length-append, length_hex))

-- head, bytes and LF, one after the other, are the line
module _ (answer : Answer) (bytes : List ℕ) {old first : List ℕ} {middle : ℕ} (fits : length (answer_line answer bytes) ≤ length old)
    (p : Puts 0 (hex_of (answer_head answer)) old first middle) where
  pub room_after_head : middle + 2 * length bytes < length old
  room_after_head = omega (arith, length_line answer bytes, p.next, length_hex (answer_head answer))

  module _ {second : List ℕ} {end : ℕ} (q : Puts middle (hex_of bytes) first second end) where
    pub room_after_bytes : end < length old
    room_after_bytes = omega (arith, room_after_head, q.next, length_hex bytes)

    pub puts_line : Puts 0 (answer_line answer bytes) old (set second end 10) (end + 1)
    puts_line =
        rw line_parts (puts_store (end + 1) 10 (puts_on p q (omega (arith, p.next, q.next, room_after_bytes))) room_after_bytes refl)

-- with the bytes of any object
pub line_within : (answer : Answer) (bytes : List ℕ) → length bytes ≤ large_size → length (answer_line answer bytes) ≤ longest_answer
unfolding values_in
line_within (Refused refusal) bytes few = omega (arith, length_line (Refused refusal) bytes)
line_within Done bytes few = omega (arith, length_line Done bytes)
line_within (Advanced advanced) bytes few = omega (arith, length_line (Advanced advanced) bytes)
line_within (Handle handle) bytes few = omega (arith, length_line (Handle handle) bytes)
line_within Bytes bytes few = omega (arith, length_line Bytes bytes)
line_within (Counted usage) bytes few = omega (arith, length_line (Counted usage) bytes)
line_within (Lasts life) bytes few = omega (arith, length_line (Lasts life) bytes)
