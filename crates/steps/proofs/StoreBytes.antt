-- Where the blocks in use lie in the two stores, and what a make's clearing gives of the bytes of all blocks.
use Prim.Native.Nat.{ℕ, ◌+◌, ◌≤◌}
use native.Mathlib.Omega.{arith}
use mathlib.Core.Bool.{true, false, and-eq-true_iff}
use mathlib.Core.List.{List}
use mathlib.Core.Logic.{◌≢◌}
use mathlib.Core.Path.{◌≡◌}
use borrow.Author.Tests.{leb-true}
use lib.Dec.{eqb, leb}
use lib.ListN.{length, get_or, take, replicate, length-replicate}
use lib.Seq.{take-take}
use Rattle.lists.proofs.Cases.{by_test, cond_same}
use Rattle.ledger.specs.Limits.{is_allowed, small_size}
use Rattle.ledger.specs.declared.Limits.{Limits}
use Rattle.record.specs.Codes.{free_block}
use Rattle.record.specs.Reading.{is_small_block, is_whole_small, is_whole_large, is_whole, block_bytes, size_of}
use Rattle.record.specs.WellFormed.{is_sized_for, is_block}
use Rattle.record.specs.Tables.{Tables}
use Rattle.record.proofs.Facts.{Fit, fit_used}
use Rattle.stores.specs.Places.{InBlock, small_after, large_after}
use Rattle.stores.proofs.Places.{in_block, part_bytes, whole_block as all_bytes}
use Rattle.stores.proofs.Changes.{bytes_changed, bytes_cleared}

-- a block that was cleared whole: zeros in it, and every other block's bytes as they were
pub record BytesCleared (small large small' large' : List ℕ) (place : ℕ) : Type 0 where
  pub small_size_lem : length small' ≡ length small
  pub large_size_lem : length large' ≡ length large
  pub others : (j : ℕ) → j ≢ place → (n : ℕ) → InBlock small large j n → block_bytes small' large' j n ≡ block_bytes small large j n
  pub zeros : (n : ℕ) → n ≤ size_of place → block_bytes small' large' place n ≡ replicate n 0

-- a length of its store's range is no more than the block has
sized_within : (block size : ℕ) → is_sized_for block size ≡ true → size ≤ size_of block
unfolding size_of
sized_within block size e =
    by_test (is_small_block block)
    (λ s. rw s (leb-true _ _ ((and-eq-true_iff (leb 1 size) _).0 (rw s at e)).1))
    (λ s. rw s (leb-true _ _ ((and-eq-true_iff (leb (small_size + 1) size) _).0 (rw s at e)).1))

module _ (limits : Limits) (may : is_allowed limits ≡ true) (small large : List ℕ) (small_whole_lem : is_whole_small limits small ≡ true)
    (large_whole_lem : is_whole_large limits large ≡ true) where
  -- the store of any size is whole
  pub both_whole : (size : ℕ) → is_whole limits small large size ≡ true
  both_whole size = rw (small_whole_lem, large_whole_lem, cond_same)

  -- a block's bytes lie in its store
  pub whole_block : (block : ℕ) → is_block limits block ≡ true → InBlock small large block (size_of block)
  whole_block block its = in_block limits may small_whole_lem large_whole_lem its (omega arith)

  -- and those of its object, where a block is in use
  pub used_in_block : (p : Tables) → Fit p → (j : ℕ) → p.limits ≡ limits → eqb (get_or p.blocks j free_block).handle 0 ≡ false
      → InBlock small large j (get_or p.blocks j free_block).length
  used_in_block p fit j same used =
      let f = fit_used fit j used in
      in_block limits may small_whole_lem large_whole_lem (rw same at f.listed) (sized_within j (get_or p.blocks j free_block).length f.sized)

  -- which are the first ones of all
  pub first_bytes : (block count : ℕ) → InBlock small large block count
      → take count (block_bytes small large block (size_of block)) ≡ block_bytes small large block count
  first_bytes block count q = rw (← part_bytes (all_bytes q), ← part_bytes q) (take-take count (size_of block) _ q.within)

  -- a make clears its block whole
  pub made_bytes : (place : ℕ) → is_block limits place ≡ true
      → BytesCleared small large (small_after place 0 (replicate (size_of place) 0) small) (large_after place 0 (replicate (size_of place) 0) large) place
  made_bytes place its =
      let zeros : List ℕ = replicate (size_of place) 0 in
      let whole : InBlock small large place (0 + length zeros) = in_block limits may small_whole_lem large_whole_lem its (simp length-replicate (omega arith)) in
      let change = bytes_changed 0 zeros whole in
      record {
        small_size_lem = change.small_size_lem;
        large_size_lem = change.large_size_lem;
        others = λ j ne n q. change.other_bytes j n q ne;
        zeros = λ n within. bytes_cleared (in_block limits may small_whole_lem large_whole_lem its within);
      }
