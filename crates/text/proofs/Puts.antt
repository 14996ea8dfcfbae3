-- Digits put into a buffer, one after the other.
use Prim.Native.Nat.{ℕ, ◌+◌, ◌*◌, ◌/◌, ◌%◌, ◌≤◌, ◌<◌}
use native.Mathlib.Omega.{arith}
use mathlib.Core.List.{List, [], ◌∷◌, ◌++◌}
use mathlib.Core.Path.{◌≡◌}
use lib.ListN.{length, drop, set, length-append}
use Rattle.lists.specs.Blocks.{overwritten}
use Rattle.lists.proofs.Blocks.{length_overwritten, overwritten_on, set_overwritten}
use Rattle.text.specs.Hex.{digit_for, hex_of, Puts}
use Rattle.text.proofs.Digits.{length_hex, hex_append}

pub puts_on : {at middle end : ℕ} {a b old between after : List ℕ} → Puts at a old between middle → Puts middle b between after end
    → at + length a + length b ≤ length old → Puts at (a ++ b) old after end
puts_on {at} {a = a} {b} {old} p q h =
    record {
      bytes = rw (q.bytes, p.bytes, p.next) (overwritten_on at a b old h);
      next = omega (arith, p.next, q.next, length-append a b);
    }

pub puts_one : (xs : List ℕ) (i v : ℕ) → i < length xs → Puts i (v ∷ []) xs (set xs i v) (i + 1)
puts_one xs i v h = record { bytes = set_overwritten xs i v h; next = omega arith }

-- one more, stored at the place after them
pub puts_store : {at i : ℕ} {new old after : List ℕ} (end v : ℕ) → Puts at new old after i → i < length old → end ≡ i + 1
    → Puts at (new ++ (v ∷ [])) old (set after i v) end
puts_store {at} {i} {new} {old} {after} end v p h e =
    let size : length after ≡ length old = rw p.bytes (length_overwritten at new old (omega (arith, p.next))) in
    rw e (puts_on p (puts_one after i v (omega arith)) (omega (arith, p.next)))

-- a byte's two digits, one after the other
pub puts_byte : (xs : List ℕ) (at b : ℕ) → at + 2 ≤ length xs
    → Puts at (hex_of (b ∷ [])) xs (set (set xs at (digit_for (b / 16))) (at + 1) (digit_for (b % 16))) (at + 2)
puts_byte xs at b h =
    puts_store (at + 2) (digit_for (b % 16)) (puts_one xs at (digit_for (b / 16)) (omega arith)) (omega arith) (omega arith)

-- four bytes
pub puts_four : (xs : List ℕ) (at a b c d : ℕ) → at + 4 ≤ length xs
    → Puts at (a ∷ b ∷ c ∷ d ∷ []) xs (set (set (set (set xs at a) (at + 1) b) (at + 2) c) (at + 3) d) (at + 4)
puts_four xs at a b c d h =
    let two = puts_store (at + 2) b (puts_one xs at a (omega arith)) (omega arith) (omega arith) in
    let three = puts_store (at + 3) c two (omega arith) (omega arith) in
    puts_store (at + 4) d three (omega arith) (omega arith)

-- bytes after bytes
pub puts_hex : {at middle end : ℕ} {old between after : List ℕ} (xs ys : List ℕ) → Puts at (hex_of xs) old between middle
    → Puts middle (hex_of ys) between after end → at + 2 * length xs + 2 * length ys ≤ length old → Puts at (hex_of (xs ++ ys)) old after end
puts_hex xs ys p q h = rw (hex_append xs ys) (puts_on p q (omega (arith, length_hex xs, length_hex ys)))

-- new bytes at the start of a buffer lie in it
pub start_within : (new old : List ℕ) → length new ≤ length (overwritten 0 new old)
unfolding overwritten
start_within new old = omega (arith, length-append new (drop (0 + length new) old))

pub puts_within : {new old after : List ℕ} {n : ℕ} → Puts 0 new old after n → n ≤ length after
puts_within {new} {old} p = rw p.bytes (omega (arith, p.next, start_within new old))
