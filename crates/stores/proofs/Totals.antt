-- How large the sum of a block's bytes can be, as they are and after a write into them.
use Prim.Native.Nat.{ℕ, ◌+◌, ◌≤◌}
use native.Mathlib.Omega.{arith}
use mathlib.Core.List.{List, ◌++◌}
use mathlib.Core.Path.{◌≡◌}
use lib.ListN.{length, take, drop, get_or}
use mir.Syntax.{w8}
use mir.Val.{Fits}
use Rattle.lists.specs.Blocks.{overwritten}
use Rattle.lists.specs.Sums.{total}
use Rattle.lists.specs.Tests.{All}
use Rattle.lists.proofs.All.{get_or_all, all_append, all_take, all_drop}
use Rattle.lists.proofs.Blocks.{length_overwritten}
use Rattle.lists.proofs.Cases.{by_test}
use Rattle.lists.proofs.Sums.{total_within, total_parts, total_overwritten}
use Rattle.ledger.specs.Limits.{large_size}
use Rattle.record.specs.Reading.{is_small_block, block_bytes, size_of}
use Rattle.stores.specs.Places.{store_of, start_of, InBlock, most_sum, sum_at, sum_after}
use Rattle.stores.proofs.Places.{most_bytes, part_bytes, part_size, whole_block}

abbrev pub IsByte : ℕ → Type 0
IsByte x = x ≤ 255

-- what the type of a slice of bytes gives of each
pub all_bytes : (xs : List ℕ) → ((i : ℕ) → Fits w8 (get_or xs i 0)) → All IsByte xs
all_bytes xs f = get_or_all IsByte 0 xs (λ i. omega (arith, f i))

-- no more bytes than a block has
pub bytes_total : (xs : List ℕ) → All IsByte xs → length xs ≤ large_size → total xs ≤ most_sum
bytes_total xs b h = omega (arith, total_within 255 xs b)

all_overwritten : (at : ℕ) (new old : List ℕ) → All IsByte new → All IsByte old → All IsByte (overwritten at new old)
unfolding overwritten
all_overwritten at new old n o =
    all_append IsByte (take at old ++ new) (drop (at + length new) old) (all_append IsByte (take at old) new (all_take IsByte at old o) n)
    (all_drop IsByte (at + length new) old o)

-- what a write makes of a block's sum: what is replaced is a part of it, what is new comes in its place, and the sum stays as small as a
-- block's is
pub record SumChanged (sum replaced new after : ℕ) : Type 0 where
  pub part : replaced ≤ sum
  pub so : after + replaced ≡ sum + new
  pub most : after ≤ most_sum

module _ {small large : List ℕ} {block : ℕ} (offset : ℕ) (new : List ℕ) (p : InBlock small large block (offset + length new))
    (of_small : (i : ℕ) → Fits w8 (get_or small i 0)) (of_large : (i : ℕ) → Fits w8 (get_or large i 0)) (of_new : (i : ℕ) → Fits w8 (get_or new i 0)) where
  abbrev old : List ℕ
  old = block_bytes small large block (size_of block)

  old_bytes : All IsByte old
  old_bytes =
      let store = store_of small large block in
      let bytes : All IsByte store = by_test (is_small_block block) (λ e. rw e (all_bytes small of_small)) (λ e. rw e (all_bytes large of_large)) in
      rw (← part_bytes (whole_block p)) (all_take IsByte (size_of block) (drop (start_of block) store) (all_drop IsByte (start_of block) store bytes))

  after_size : length (overwritten offset new old) ≤ large_size
  after_size =
      let size = part_size (whole_block p) in
      omega (arith, length_overwritten offset new old (omega (arith, p.within, size)), size, most_bytes block)

  pub sum_changed : SumChanged (sum_at small large block) (total (take (length new) (drop offset old))) (total new) (sum_after small large block offset new)
  sum_changed =
      record {
        part = omega (arith, total_parts offset (length new) old);
        so = total_overwritten offset new old;
        most = bytes_total (overwritten offset new old) (all_overwritten offset new old (all_bytes new of_new) old_bytes) after_size;
      }
