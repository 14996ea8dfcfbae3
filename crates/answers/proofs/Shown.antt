-- The bytes that an answer shows, and the room that its line needs.
use Prim.Native.Nat.{ℕ, zero, suc, ◌+◌, ◌-◌, ◌*◌, ◌≤◌, ◌<◌}
use native.Mathlib.Nat.{zero-add}
use native.Mathlib.Omega.{arith}
use mathlib.Core.List.{List, [], ◌∷◌, ◌++◌, append_assoc, append-nil}
use mathlib.Core.Path.{◌≡◌, refl}
use lib.ListN.{length, take, drop, length-take, length-drop, drop_of_length-le}
use lib.Seq.{take_all, drop-drop}
use Rattle.lists.specs.Blocks.{overwritten}
use Rattle.lists.proofs.Cases.{by_test}
use Rattle.ledger.specs.Limits.{capacity, small_size, large_size}
use Rattle.ledger.specs.declared.Answer.{Answer}
use Rattle.stores.specs.Places.{InBlock}
use Rattle.stores.proofs.Places.{most_bytes}
use Rattle.record.specs.Reading.{is_small_block, block_bytes}
use Rattle.answers.specs.Answers.{answer_line, longest_answer, Showable}
use Rattle.text.specs.Hex.{Puts}
use Rattle.answers.proofs.AnswerLines.{line_within}

at_most : (n : ℕ) (xs : List ℕ) → length (take n xs) ≤ n
at_most n xs = omega (arith, length-take n xs)

empty : (xs : List ℕ) → length xs ≤ 0 → xs ≡ []
empty [] h = refl
empty (x ∷ xs) h = absurd (omega arith)

pub shown_most : (small large : List ℕ) (block count : ℕ) → length (block_bytes small large block count) ≤ count
unfolding block_bytes
shown_most small large block count =
    by_test (is_small_block block)
    (λ e. rw e (at_most count (drop (block * small_size) small)))
    (λ e. rw e (at_most count (drop ((block - capacity.small) * large_size) large)))

pub shows_none : (small large : List ℕ) (block : ℕ) {count : ℕ} → count ≡ 0 → block_bytes small large block count ≡ []
shows_none small large block {count} e = empty (block_bytes small large block count) (omega (arith, e, shown_most small large block count))

pub few : {small large : List ℕ} {block : ℕ} (count : ℕ) → (0 < count → InBlock small large block count) → count ≤ large_size
few zero inside = omega arith
few {block = block} (suc n) inside = omega (arith, (inside (omega arith)).within, most_bytes block)

-- the bytes of a block have room
pub block_showable : (answer : Answer) {small large : List ℕ} {block count : ℕ} → (0 < count → InBlock small large block count)
    → (out : List ℕ) (at : ℕ) → at + longest_answer ≤ length out → Showable answer small large block count out at
block_showable answer {small} {large} {block} {count} inside out at room =
    record {
      inside = inside;
      room =
          let shown = block_bytes small large block count in
          let short : length shown ≤ large_size = omega (arith, few count inside, shown_most small large block count) in
          omega (arith, line_within answer shown short);
    }

-- an answer without bytes has room there too
pub short_line : (answer : Answer) (none out : List ℕ) (at : ℕ) → none ≡ [] → at + longest_answer ≤ length out → at + length (answer_line answer none) ≤ length out
short_line answer none out at e room = rw e (omega (arith, line_within answer [] (omega arith)))

-- a line at the start of a buffer's part from a place on, and the buffer when the part comes back
pub puts_from : (at : ℕ) {line out part : List ℕ} {n : ℕ} → Puts 0 line (take (length out - at) (drop at out)) part n
    → Puts at line out (take at out ++ (part ++ drop (length out - at) (drop at out))) (at + n)
unfolding overwritten
puts_from at {line} {out} p =
    let all : take (length out - at) (drop at out) ≡ drop at out = take_all (length out - at) (drop at out) (omega (arith, length-drop at out)) in
    let none : drop (length out - at) (drop at out) ≡ [] = drop_of_length-le (drop at out) {i = length out - at} (omega (arith, length-drop at out)) in
    record { bytes = rw (none, append-nil, p.bytes, all, zero-add, drop-drop, append_assoc, append_assoc); next = omega (arith, p.next) }
