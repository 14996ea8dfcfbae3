-- The first bytes of a block are a part of its store: for either store by one argument.
use Prim.Native.Nat.{ℕ, ◌+◌, ◌-◌, ◌*◌, ◌≤◌}
use native.Mathlib.Nat.{add-sub_of_le}
use native.Mathlib.Omega.{arith}
use mathlib.Core.Bool.{true}
use mathlib.Core.List.{List}
use mathlib.Core.Path.{◌≡◌}
use borrow.Author.Tests.{ltb-true, ltb-false, eqb-true}
use lib.ListN.{length, take, drop, length-take, length-drop}
use lib.Seq.{take-take, drop-drop}
use Rattle.lists.proofs.Blocks.{apart, drop_take}
use Rattle.lists.proofs.Cases.{by_test}
use Rattle.ledger.specs.Limits.{capacity, is_allowed, large_size}
use Rattle.ledger.specs.declared.Limits.{Limits}
use Rattle.ledger.proofs.Figures.{allowed}
use Rattle.record.specs.Reading.{is_small_block, is_whole_small, is_whole_large, block_bytes, size_of}
use Rattle.record.specs.WellFormed.{is_block}
use Rattle.stores.specs.Places.{store_of, index_of, start_of, InBlock}

-- no block is larger than a large one
pub most_bytes : (block : ℕ) → size_of block ≤ large_size
unfolding size_of
most_bytes block = by_test (is_small_block block) (λ e. rw e (omega arith)) (λ e. rw e (omega arith))

module _ {small large : List ℕ} {block count : ℕ} (p : InBlock small large block count) where
  -- so few bytes that no offset in it wraps
  pub store_bound : length (store_of small large block) ≤ capacity.small * large_size
  unfolding size_of
  store_bound =
      rw p.whole
      (by_test (is_small_block block) (λ e. rw e (omega (arith, p.few))) (λ e. rw e (omega (arith, p.few))))

  pub part_within : start_of block + count ≤ length (store_of small large block)
  unfolding start_of
  part_within = omega (arith, p.whole, p.within, apart (size_of block) (index_of block) p.blocks p.among)

  pub part_bytes : take count (drop (start_of block) (store_of small large block)) ≡ block_bytes small large block count
  unfolding start_of index_of size_of block_bytes
  part_bytes = by_test (is_small_block block) (λ e. rw e) (λ e. rw e)

  pub part_size : length (block_bytes small large block count) ≡ count
  part_size = rw (← part_bytes) (simp (length-take, length-drop) (omega (arith, part_within)))

  -- other first bytes of the block lie in the store with them
  pub first_bytes : (n : ℕ) → n ≤ size_of block → InBlock small large block n
  first_bytes n h = record { known = p.known; blocks = p.blocks; whole = p.whole; few = p.few; among = p.among; within = h }

  pub whole_block : InBlock small large block (size_of block)
  whole_block = first_bytes (size_of block) (omega arith)

-- bytes of a block from an offset on
pub inside_bytes : {small large : List ℕ} {block : ℕ} (offset count : ℕ) → InBlock small large block (offset + count)
    → take count (drop (start_of block + offset) (store_of small large block)) ≡ take count (drop offset (block_bytes small large block (size_of block)))
inside_bytes {small} {large} {block} offset count p =
    let start : offset ≤ size_of block = omega (arith, p.within) in
    let rest : count ≤ size_of block - offset = omega (arith, p.within) in
    rw (← part_bytes (whole_block p), ← add-sub_of_le start, drop_take, take-take, drop-drop)

-- a block of the figures lies in stores that are as long as the figures need
pub in_block : (limits : Limits) {small large : List ℕ} {block count : ℕ} → is_allowed limits ≡ true
    → is_whole_small limits small ≡ true → is_whole_large limits large ≡ true → is_block limits block ≡ true → count ≤ size_of block → InBlock small large block count
unfolding index_of size_of
in_block limits {small} {large} {block} a s l b h =
    let may = allowed limits a in
    by_test (is_small_block block)
    (λ e.
    let below = ltb-true block limits.small (rw e at b) in
    record {
      known = omega (arith, may.most_small);
      blocks = limits.small;
      whole = rw e (eqb-true _ _ s);
      few = may.most_small;
      among = rw e below;
      within = h;
    })
    (λ e.
    let below = ltb-true block (capacity.small + limits.large) (rw e at b) in
    let first = ltb-false block capacity.small e in
    record {
      known = omega (arith, may.most_large);
      blocks = limits.large;
      whole = rw e (eqb-true _ _ l);
      few = omega (arith, may.most_large);
      among = rw e (omega arith);
      within = h;
    })
