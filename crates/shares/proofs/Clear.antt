-- W20 by numbers: the limits of who is not active, joined.
use Prim.Native.Nat.{ℕ, zero, suc, ◌+◌, ◌-◌, ◌*◌, ◌/◌, ◌%◌, ◌<◌}
use native.Mathlib.Nat.{mul-zero, mul-one}
use native.Mathlib.Omega.{arith}
use mathlib.Core.Bool.{Bool, true, false, cond, ◌&&◌, ◌||◌, and-true, and-eq-true_iff}
use mathlib.Core.List.{List}
use mathlib.Core.Path.{◌≡◌, refl, ◌∙◌}
use borrow.Author.Tests.{eqb-true, eq-eqb, ltb-true}
use lib.Bits.{bit_or, or_zero_r, or_lt, or_add_and, and_le_l, and_le_r}
use lib.Dec.{eqb}
use lib.ListN.{get_or}
use Rattle.lists.specs.Tests.{all}
use Rattle.lists.proofs.Cases.{same_test}
use Rattle.lists.proofs.Tests.{passes_at}
use Rattle.ledger.specs.Tasks.{is_active}
use Rattle.record.specs.Codes.{state_of, absent_entry}
use Rattle.record.specs.WellFormed.{is_fit_task}
use Rattle.record.specs.declared.TaskEntry.{TaskEntry}

-- a fit task's state
pub fit_state : (tasks : List TaskEntry) (t : ℕ) → all is_fit_task tasks ≡ true → (get_or tasks t absent_entry).state < 4
unfolding is_fit_task
fit_state tasks t fits =
    let (low, clock) = (and-eq-true_iff _ _).0 (passes_at is_fit_task tasks t absent_entry fits refl) in
    let (low, ticked) = (and-eq-true_iff _ _).0 low in
    let (low, marks) = (and-eq-true_iff _ _).0 low in
    ltb-true _ _ low

-- by its number: 1 and 2 are active
pub idle : (state : ℕ) → state < 4 → 1 - (state + 1) / 2 % 2 ≡ cond (is_active (state_of state)) 0 1
idle zero l = refl
idle (suc zero) l = refl
idle (suc (suc zero)) l = refl
idle (suc (suc (suc zero))) l = refl
idle (suc (suc (suc (suc state)))) l = absurd (omega arith)

-- two numbers joined are 0 where both are
or_none : (a b : ℕ) → eqb (bit_or a b) 0 ≡ (eqb a 0 && eqb b 0)
or_none a b =
    same_test _ _
    (λ e.
    let none = eqb-true (bit_or a b) 0 e in
    (and-eq-true_iff _ _).1 (
      eq-eqb a 0 (omega (arith, none, or_add_and a b, and_le_r a b)),
      eq-eqb b 0 (omega (arith, none, or_add_and a b, and_le_l a b)),
    ))
    (λ e.
    let (x, y) = (and-eq-true_iff (eqb a 0) (eqb b 0)).0 e in
    eq-eqb (bit_or a b) 0 (omega (arith, eqb-true a 0 x, eqb-true b 0 y, or_add_and a b)))

-- one task more
pub none_over : (over small large : ℕ) (active : Bool)
    → eqb (bit_or over (bit_or small large * cond active 0 1)) 0 ≡ (eqb over 0 && (active || (eqb small 0 && eqb large 0)))
none_over over small large true = rw (mul-zero, or_zero_r over, and-true)
none_over over small large false = or_none over (bit_or small large * 1) ∙ rw (mul-one, or_none small large)

-- a number of 16 bits has room for them
pub limits_fit : {small large : ℕ} → small < 256 → large < 256 → (active : Bool) → bit_or small large * cond active 0 1 < 65536
limits_fit s l true = omega arith
limits_fit {small} {large} s l false = omega (arith, or_lt 8 small large s l)
