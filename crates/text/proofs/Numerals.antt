-- A number put into a buffer digit by digit.
use Prim.Native.Nat.{ℕ, zero, suc, ◌+◌, ◌-◌, ◌/◌, ◌%◌, ◌≤◌, ◌<◌}
use native.Mathlib.Omega.{arith}
use mathlib.Core.List.{List}
use mathlib.Core.Path.{◌≡◌, refl, sym}
use borrow.Author.Tests.{lt-ltb, le-ltb}
use lib.Dec.{ltb}
use lib.ListN.{length, set, length-append}
use Rattle.lists.proofs.Blocks.{length_overwritten, overwritten_nothing}
use Rattle.lists.proofs.Cases.{by_test}
use Rattle.text.specs.Decimals.{numeral_of}
use Rattle.text.specs.Hex.{Puts}
use Rattle.text.proofs.Puts.{puts_one, puts_store}

pub numeral_length : (places n : ℕ) → length (numeral_of places n) ≤ places
unfolding numeral_of
numeral_length zero n = omega arith
numeral_length (suc places) n =
    by_test (ltb n 10) (λ e. rw e (omega arith)) (λ e. rw (e, length-append) (omega (arith, numeral_length places (n / 10))))

-- there is room for one character more, before and after
pub room_left : (places n at next : ℕ) {old between : List ℕ} → Puts at (numeral_of places n) old between next → at + places < length old
    → (next < length old) × (next < length between)
room_left places n at next {old} {between} p h =
    let short = numeral_length places n in
    let same : length between ≡ length old = rw p.bytes (length_overwritten at (numeral_of places n) old (omega (arith, h, short))) in
    (omega (arith, h, p.next, short), omega (arith, h, p.next, short, same))

-- none where no digit is left
pub puts_none : (places n at : ℕ) (old : List ℕ) → places ≡ 0 → Puts at (numeral_of places n) old old at
unfolding numeral_of
puts_none places n at old e = rw e (record { bytes = sym (overwritten_nothing at old); next = omega arith })

-- the only digit
pub puts_digit : (places n at : ℕ) (old : List ℕ) → (places ≡ 0 → ⊥) → n < 10 → at < length old
    → Puts at (numeral_of places n) old (set old at (48 + n)) (at + 1)
unfolding numeral_of
puts_digit zero n at old some l h = absurd (some refl)
puts_digit (suc places) n at old some l h = rw (lt-ltb n 10 l) (puts_one old at (48 + n) h)

-- the last digit of more
pub puts_more : (places n at next : ℕ) {old between : List ℕ} → (places ≡ 0 → ⊥) → 10 ≤ n
    → Puts at (numeral_of (places - 1) (n / 10)) old between next → at + places ≤ length old
    → Puts at (numeral_of places n) old (set between next (48 + n % 10)) (next + 1)
unfolding numeral_of
puts_more zero n at next some l p h = absurd (some refl)
puts_more (suc places) n at next some l p h =
    rw (le-ltb n 10 l) (puts_store (next + 1) (48 + n % 10) (rw (less places) at p) (room_left places (n / 10) at next
    (rw (less places) at p) (omega (arith, h))).0 refl)
  where
    less : (places : ℕ) → suc places - 1 ≡ places
    less places = omega arith
