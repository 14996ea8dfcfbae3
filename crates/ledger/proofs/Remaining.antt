-- The remaining life of an object: what one more expiration makes of it, and that it goes by what is shown of the expirations.
use Prim.Native.Nat.{ℕ, ◌+◌, ◌-◌}
use native.Mathlib.Omega.{arith}
use mathlib.Core.Bool.{Bool, false, cond, ◌&&◌, and-false}
use mathlib.Core.List.{List, ◌∷◌, map}
use mathlib.Core.Path.{◌≡◌, refl, sym, ◌∙◌}
use borrow.Author.Tests.{eq-eqb}
use lib.Dec.{eqb}
use Rattle.lists.specs.Most.{most}
use Rattle.lists.proofs.Cases.{by_test}
use Rattle.lists.proofs.All.{all_every, all_imp, none→All}
use Rattle.lists.proofs.Most.{most_filter, most_map, most_none, most_same}
use Rattle.ledger.specs.Tasks.{Clocks, task_at}
use Rattle.ledger.specs.Expirations.{DueTime, by_local, by_global, pinned, Expiration, due_after, remaining, is_of, is_set_by}
use Rattle.ledger.specs.Objects.{stands}
use Rattle.ledger.specs.Compared.{Left, local_left, global_left, pinned_left, Shown, left_of, shown}
use Rattle.ledger.specs.Remaining.{is_global, most_left, remaining_life, extended}
use Rattle.ledger.specs.declared.Kind.{Kind}
use Rattle.ledger.specs.declared.Kind.TheVariants.{Local, Global, Pinned}
use Rattle.ledger.specs.declared.Life.{Life}

-- one more expiration, set now: e + 1 ticks or e + 2 advances are left on it
pub set_extends : (kind : Kind) (task extension handle : ℕ) (clocks : Clocks) (xs : List Expiration)
    → remaining_life task handle clocks (record { handle = handle; due = due_after clocks task kind extension } ∷ xs)
    ≡ extended kind extension (remaining_life task handle clocks xs)
unfolding remaining_life due_after remaining
set_extends Local task extension handle clocks xs =
    let ticks : (task_at clocks task).clock + extension + 1 - (task_at clocks task).clock ≡ extension + 1 = omega arith in
    rw (eq-eqb handle handle refl, eq-eqb task task refl, ticks)
set_extends Global task extension handle clocks xs =
    let advances : clocks.global + extension + 2 - clocks.global ≡ extension + 2 = omega arith in
    rw (eq-eqb handle handle refl, advances)
set_extends Pinned task extension handle clocks xs = rw (and-false (eqb handle handle))

-- an object that does not stand, as one that is not made yet, has none left
pub none_left : (task handle : ℕ) (clocks : Clocks) (xs : List Expiration) → stands xs handle ≡ false
    → remaining_life task handle clocks xs ≡ record { local = 0; global = 0 }
unfolding remaining_life
none_left task handle clocks xs gone =
    let none = none→All (is_of handle) xs gone in
    rw (
      most_none (λ (x : Expiration). remaining clocks x.due) (λ (x : Expiration). is_of handle x && is_set_by task x.due) xs (all_imp (λ x e. rw e) xs none),
      most_none (λ (x : Expiration). remaining clocks x.due) (λ (x : Expiration). is_of handle x && is_global x.due) xs (all_imp (λ x e. rw e) xs none),
    )

-- the units left that count for the task that asks, and those that count for all
abbrev pub local_units : ℕ → Left → ℕ
local_units task (local_left setter units) = cond (eqb setter task) units 0
local_units task (global_left setter units) = 0
local_units task pinned_left = 0

abbrev pub global_units : Left → ℕ
global_units (local_left setter units) = 0
global_units (global_left setter units) = units
global_units pinned_left = 0

-- the most of them, of the object with this handle
abbrev pub most_shown : (Left → ℕ) → ℕ → List Shown → ℕ
most_shown units handle xs = most (λ (x : Shown). cond (eqb x.handle handle) (units x.left) 0) xs

-- one figure by what is shown
by_shown : (passes : DueTime → Bool) (units : Left → ℕ) (handle : ℕ) (clocks : Clocks)
    → ((due : DueTime) → cond (passes due) (remaining clocks due) 0 ≡ units (left_of clocks due))
    → (xs : List Expiration) → most_left passes handle clocks xs ≡ most_shown units handle (map (shown clocks) xs)
by_shown passes units handle clocks same xs =
    most_filter _ _ xs
    ∙ most_same _ _ xs (all_every _ (λ x. by_test (is_of handle x) (λ e. rw e (same x.due)) (λ e. rw e)) xs)
    ∙ sym (most_map _ (shown clocks) xs)

local_units_lem : (task : ℕ) (clocks : Clocks) (due : DueTime) → cond (is_set_by task due) (remaining clocks due) 0 ≡ local_units task (left_of clocks due)
unfolding left_of
local_units_lem task clocks (by_local setter at) = refl
local_units_lem task clocks (by_global setter at) = refl
local_units_lem task clocks pinned = refl

global_units_lem : (clocks : Clocks) (due : DueTime) → cond (is_global due) (remaining clocks due) 0 ≡ global_units (left_of clocks due)
unfolding left_of
global_units_lem clocks (by_local setter at) = refl
global_units_lem clocks (by_global setter at) = refl
global_units_lem clocks pinned = refl

-- both
abbrev pub shown_life : ℕ → ℕ → List Shown → Life
shown_life task handle xs = record { local = most_shown (local_units task) handle xs; global = most_shown global_units handle xs }

pub life_shown : (task handle : ℕ) (clocks : Clocks) (xs : List Expiration)
    → remaining_life task handle clocks xs ≡ shown_life task handle (map (shown clocks) xs)
unfolding remaining_life
life_shown task handle clocks xs =
    rw (
      by_shown (is_set_by task) (local_units task) handle clocks (local_units_lem task clocks) xs,
      by_shown is_global global_units handle clocks (global_units_lem clocks) xs,
    )
