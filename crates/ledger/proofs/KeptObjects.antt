-- The objects stay as `ObjectsKept` says when one is made or written, and when those without an expiration go.
use Prim.Native.Nat.{ℕ, ◌+◌, ◌≤◌, ◌<◌}
use native.Mathlib.Omega.{arith}
use mathlib.Core.Bool.{Bool, true, false, true≢false, ◌||◌}
use mathlib.Core.List.{List, [], ◌∷◌, ◌++◌, map}
use mathlib.Core.Path.{◌≡◌, refl, sym, ◌∙◌}
use borrow.Author.Tests.{leb-true, leb-false, ltb-false, eqb-true, eqb-false, eq-eqb}
use lib.Dec.{eqb, leb, ltb}
use lib.ListN.{length, length-replicate}
use Rattle.lists.specs.Blocks.{overwritten}
use Rattle.lists.specs.Sums.{total}
use Rattle.lists.specs.Tests.{filter, All}
use Rattle.lists.proofs.Cases.{by_test}
use Rattle.lists.proofs.Blocks.{length_overwritten}
use Rattle.lists.proofs.Sums.{total_zeros}
use Rattle.lists.proofs.All.{all_imp, all_both, all_filter, all_append, all_map}
use Rattle.ledger.specs.Limits.{small_size, large_size, last_handle, is_small, block_size}
use Rattle.ledger.specs.Expirations.{Expiration}
use Rattle.ledger.specs.Objects.{Object, zeroed, is_intact, object_at, written, orphaned, makers_after, stands, standing}
use Rattle.ledger.specs.declared.Event.{Event}
use Rattle.ledger.specs.declared.Event.TheVariants.{Leave, Block, Resume, Tick, View}
use Rattle.ledger.specs.Kept.{ObjectKept, Ascending, ObjectsKept}

-- the order of handles stays when some go
ascending_filter : (p : Object → Bool) (os : List Object) → Ascending os → Ascending (filter p os)
ascending_filter p [] a = tt
ascending_filter p (o ∷ os) (l, a) =
    by_test (p o) (λ e. rw e (all_filter p (λ q d h. h) os l, ascending_filter p os a)) (λ e. rw e (ascending_filter p os a))

-- and when one with a higher handle comes
ascending_append : (o : Object) (os : List Object) → All (λ (p : Object). p.handle < o.handle) os → Ascending os
    → Ascending (os ++ (o ∷ []))
ascending_append o [] h a = (tt, tt)
ascending_append o (p ∷ os) (h, hs) (l, a) = (all_append _ os (o ∷ []) l (h, tt), ascending_append o os hs a)

-- no two objects have one handle: what holds of the object with a handle holds of each that has it
pub only : (Q : Object → Type 0) (handle : ℕ) (os : List Object) → Ascending os → Q (object_at handle os)
    → All (λ (o : Object). eqb o.handle handle ≡ true → Q o) os
unfolding object_at
only Q handle [] a h = tt
only Q handle (o ∷ os) (l, a) h =
    by_test (eqb o.handle handle)
    (λ e. (
      λ d. rw e at h,
      all_imp (λ p g d. absurd (omega (arith, eqb-true o.handle handle e, eqb-true p.handle handle d))) os l,
    ))
    (λ e. (λ d. absurd (true≢false (sym d ∙ e)), only Q handle os a (rw e at h)))

-- objects without an expiration go
pub objects_settled : {given : ℕ} {os : List Object} (xs : List Expiration) → ObjectsKept given os
    → ObjectsKept given (standing xs os)
objects_settled {os = os} xs k =
    record {
      each = all_filter (λ (o : Object). stands xs o.handle) (λ o e h. h) os k.each;
      ascending = ascending_filter (λ (o : Object). stands xs o.handle) os k.ascending;
      numbers = k.numbers;
    }

-- the size that a make asks for is in range
ranged : (size : ℕ) → (eqb size 0 || ltb large_size size) ≡ false → (1 ≤ size) × (size ≤ large_size)
ranged size e =
    by_test (eqb size 0)
    (λ d. absurd (true≢false (rw d at e)))
    (λ d. (omega (arith, eqb-false size 0 d), ltb-false large_size size (rw d at e)))

-- an object lies within its block
pub in_block : (size : ℕ) → size ≤ large_size → size ≤ block_size size
in_block size h = by_test (is_small size) (λ e. rw e (leb-true size small_size e)) (λ e. rw e h)

-- one is made
pub objects_made : {given : ℕ} {os : List Object} (task size prefix : ℕ) → (eqb size 0 || ltb large_size size) ≡ false
    → ltb size prefix ≡ false → leb last_handle given ≡ false → ObjectsKept given os
    → ObjectsKept (given + 1) (os ++ (zeroed task (given + 1) size prefix ∷ []))
objects_made {given} {os} task size prefix range short spent k =
    record {
      each =
          all_append (ObjectKept (given + 1)) os _
          (all_imp (λ o h. record { numbered = omega (arith, h.numbered); sized = h.sized; prefixed = h.prefixed; filled = h.filled; intact = h.intact }) os k.each) (
            record {
              numbered = omega arith;
              sized = ranged size range;
              prefixed = ltb-false size prefix short;
              filled = length-replicate (block_size size) 0;
              intact = eq-eqb _ _ (total_zeros (block_size size));
            },
            tt,
          );
      ascending = ascending_append _ os (all_imp (λ o h. omega (arith, h.numbered)) os k.each) k.ascending;
      numbers = omega (arith, leb-false last_handle given spent);
    }

-- their makers change
ascending_orphaned : (task : ℕ) (os : List Object) → Ascending os → Ascending (map (orphaned task) os)
ascending_orphaned task [] a = tt
ascending_orphaned task (o ∷ os) (l, a) = (all_map _ (orphaned task) os l, ascending_orphaned task os a)

objects_orphaned : {given : ℕ} {os : List Object} (task : ℕ) → ObjectsKept given os → ObjectsKept given (map (orphaned task) os)
objects_orphaned {given} {os} task k =
    record {
      each =
          all_map (ObjectKept given) (orphaned task) os
          (all_imp (λ o h. record { numbered = h.numbered; sized = h.sized; prefixed = h.prefixed; filled = h.filled; intact = h.intact }) os k.each);
      ascending = ascending_orphaned task os k.ascending;
      numbers = k.numbers;
    }

pub objects_after : {given : ℕ} {os : List Object} (event : Event) (task : ℕ) → ObjectsKept given os → ObjectsKept given (makers_after event task os)
unfolding makers_after
objects_after Leave task k = objects_orphaned task k
objects_after Block task k = k
objects_after Resume task k = k
objects_after View task k = k
objects_after Tick task k = k

module _ (handle offset : ℕ) (new : List ℕ) where
  -- a write leaves the sum of the bytes that are there then
  pub intact_written : (o : Object) → is_intact o ≡ true → is_intact (written handle offset new o) ≡ true
  unfolding written
  intact_written o h =
      let sum = total (overwritten offset new o.bytes) in
      by_test (eqb o.handle handle) (λ e. rw e (eq-eqb sum sum refl)) (λ e. rw e h)

  -- and, within an object, as many
  written_kept : (given : ℕ) (o : Object) → ObjectKept given o → (eqb o.handle handle ≡ true → offset + length new ≤ o.size)
      → ObjectKept given (written handle offset new o)
  unfolding written
  written_kept given o k f =
      record {
        numbered = k.numbered;
        sized = k.sized;
        prefixed = k.prefixed;
        filled =
            by_test (eqb o.handle handle)
            (λ e. rw e (length_overwritten offset new o.bytes (omega (arith, f e, in_block o.size k.sized.1, k.filled)) ∙ k.filled))
            (λ e. rw e k.filled);
        intact = intact_written o k.intact;
      }

  -- and the order of handles
  pub ascending_written : (os : List Object) → Ascending os → Ascending (map (written handle offset new) os)
  unfolding written
  ascending_written [] a = tt
  ascending_written (o ∷ os) (l, a) = (all_map _ (written handle offset new) os l, ascending_written os a)

  pub objects_written : {given : ℕ} {os : List Object} → ltb (object_at handle os).size (offset + length new) ≡ false
      → ObjectsKept given os → ObjectsKept given (map (written handle offset new) os)
  unfolding written
  objects_written {given = given} {os = os} e k =
      let fits = only (λ o. offset + length new ≤ o.size) handle os k.ascending (ltb-false _ _ e) in
      record {
        each = all_map (ObjectKept given) (written handle offset new) os (all_both (written_kept given) os k.each fits);
        ascending = ascending_written os k.ascending;
        numbers = k.numbers;
      }
