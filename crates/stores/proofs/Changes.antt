-- What a change inside a block makes of the bytes of all blocks. The one fact about blocks is cited once, for either store.
use Prim.Native.Nat.{ℕ, ◌+◌, ◌-◌, ◌≤◌}
use native.Mathlib.Omega.{arith}
use mathlib.Core.List.{List}
use mathlib.Core.Logic.{◌≢◌}
use mathlib.Core.Path.{◌≡◌, sym, ap, ◌∙◌}
use borrow.Author.Tests.{ltb-false}
use lib.ListN.{length, take, drop, replicate, length-replicate}
use lib.Seq.{take-take}
use Rattle.lists.specs.Blocks.{block_of, overwritten, BlockChanged}
use Rattle.lists.proofs.Blocks.{block_change, take_new, take_replicate}
use Rattle.lists.proofs.Cases.{by_test}
use Rattle.ledger.specs.Limits.{capacity}
use Rattle.record.specs.Reading.{is_small_block, block_bytes, size_of}
use Rattle.stores.specs.Places.{store_of, index_of, start_of, InBlock, small_after, large_after}
use Rattle.stores.proofs.Places.{part_bytes, first_bytes}

-- new bytes at an offset in a block: that block's first bytes have them, and those of every other block are as they were
pub record BytesChanged (small large small' large' : List ℕ) (block offset : ℕ) (new : List ℕ) : Type 0 where
  pub small_size_lem : length small' ≡ length small
  pub large_size_lem : length large' ≡ length large
  pub block_bytes_lem : (count : ℕ) → InBlock small large block count → offset + length new ≤ count
      → block_bytes small' large' block count ≡ overwritten offset new (block_bytes small large block count)
  pub other_bytes : (other count : ℕ) → InBlock small large other count → other ≢ block
      → block_bytes small' large' other count ≡ block_bytes small large other count

-- a block as its store has it
abbrev block_in : List ℕ → List ℕ → ℕ → List ℕ
block_in small large block = block_of (size_of block) (index_of block) (store_of small large block)

bytes_of : {small large : List ℕ} {block count : ℕ} → InBlock small large block count
    → block_bytes small large block count ≡ take count (block_in small large block)
unfolding start_of
bytes_of {small} {large} {block} {count} p =
    sym (part_bytes p) ∙ sym (take-take count (size_of block) (drop (start_of block) (store_of small large block)) p.within)

-- two blocks with one place in one store are one block
one_place : (a b : ℕ) → is_small_block a ≡ is_small_block b → index_of a ≡ index_of b → a ≡ b
unfolding index_of
one_place a b e i =
    let first = capacity.small in
    by_test (is_small_block b)
    (λ t. rw (e ∙ t, t) at i)
    (λ t. let same : a - first ≡ b - first = rw (e ∙ t, t) at i in omega (arith, ltb-false a first (e ∙ t), ltb-false b first t))

module _ {small large : List ℕ} {block : ℕ} (offset : ℕ) (new : List ℕ) (p : InBlock small large block (offset + length new)) where
  abbrev small' : List ℕ
  small' = small_after block offset new small

  abbrev large' : List ℕ
  large' = large_after block offset new large

  changed : BlockChanged (size_of block) (index_of block) offset new (store_of small large block) (store_of small' large' block)
  unfolding small_after large_after start_of
  changed =
      let store = store_of small large block in
      let c = block_change p.blocks (size_of block) (index_of block) offset new store p.whole p.among p.within in
      by_test (is_small_block block) (λ e. rw e (rw e at c)) (λ e. rw e (rw e at c))

  small_kept : length small' ≡ length small
  unfolding small_after
  small_kept = by_test (is_small_block block) (λ e. rw e (rw e at changed.size)) (λ e. rw e)

  large_kept : length large' ≡ length large
  unfolding large_after
  large_kept = by_test (is_small_block block) (λ e. rw e) (λ e. rw e (rw e at changed.size))

  store_kept : (other : ℕ) → length (store_of small' large' other) ≡ length (store_of small large other)
  store_kept other = by_test (is_small_block other) (λ e. rw e small_kept) (λ e. rw e large_kept)

  in_block : {other count : ℕ} → InBlock small large other count → InBlock small' large' other count
  in_block {other} q =
      record {
        known = q.known;
        blocks = q.blocks;
        whole = store_kept other ∙ q.whole;
        few = q.few;
        among = q.among;
        within = q.within;
      }

  same_store : (other : ℕ) → is_small_block other ≡ is_small_block block → other ≢ block
      → block_in small' large' other ≡ block_in small large other
  unfolding size_of
  same_store other e ne = rw e (changed.others (index_of other) (λ i. ne (one_place other block e i)))

  others : (other : ℕ) → other ≢ block → block_in small' large' other ≡ block_in small large other
  unfolding small_after large_after
  others other ne =
      by_test (is_small_block other)
      (λ d. by_test (is_small_block block) (λ e. same_store other (d ∙ sym e) ne) (λ e. rw (d, e)))
      (λ d. by_test (is_small_block block) (λ e. rw (d, e)) (λ e. same_store other (d ∙ sym e) ne))

  pub bytes_changed : BytesChanged small large (small_after block offset new small) (large_after block offset new large) block offset new
  bytes_changed =
      record {
        small_size_lem = small_kept;
        large_size_lem = large_kept;
        block_bytes_lem = λ count q h. rw (bytes_of (in_block q), bytes_of q) (changed.prefix count h);
        other_bytes = λ other count q ne. rw (bytes_of (in_block q), bytes_of q) (ap (take count) (others other ne));
      }

-- a block that is cleared whole has zeros
pub bytes_cleared : {small large : List ℕ} {block count : ℕ} → InBlock small large block count
    → block_bytes (small_after block 0 (replicate (size_of block) 0) small) (large_after block 0 (replicate (size_of block) 0) large) block count
    ≡ replicate count 0
bytes_cleared {small} {large} {block} {count} q =
    let zeros : List ℕ = replicate (size_of block) 0 in
    let w : 0 + length zeros ≤ size_of block = simp length-replicate (omega arith) in
    let p : InBlock small large block (0 + length zeros) = first_bytes q (0 + length zeros) w in
    rw (bytes_of (in_block 0 zeros p q), (changed 0 zeros p).block, take_new count zeros _ (simp length-replicate q.within))
    (take_replicate count (size_of block) 0 q.within)
