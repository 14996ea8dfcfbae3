-- Laws of the table of the blocks by the last byte of their handles: the loop that makes it from the last block to the first, and what a
-- search may take from it.
use Prim.Native.Nat.{ℕ, ◌+◌, ◌%◌, ◌≤◌, ◌<◌}
use native.Mathlib.Nat.{zero-add}
use native.Mathlib.Omega.{arith}
use mathlib.Core.List.{List}
use mathlib.Core.Path.{◌≡◌, sym, ap, ◌∙◌}
use borrow.Author.Tests.{eq-eqb, ne_eqb, eqb-true, eqb-false}
use lib.Dec.{eqb}
use lib.ListN.{length, get_or, set, replicate, length-set, length-replicate, get_or-replicate}
use lib.Seq.{get_or-set_same, get_or-set_other}
use Rattle.lists.proofs.Cases.{by_test}
use Rattle.record.specs.Tables.{block_entries, byte_values}
use Rattle.steps.specs.Objects.{place_in}
use Rattle.refusals.specs.Firsts.{FirstFor, FirstBlocks}
use Rattle.refusals.proofs.Searching.{is_of, first_is}

module _ (handles : List ℕ) where
  pub firsts_start : {from : ℕ} → FirstBlocks from handles (replicate byte_values 0)
  firsts_start =
      record {
        size = length-replicate {A = ℕ} byte_values 0;
        so = λ byte l. rw (get_or-replicate {A = ℕ} byte_values byte 0 0 l) (record { within = omega arith; before = λ k f b. absurd (omega arith) });
      }

  -- a block is told for its handle's last byte, after all that follow it
  pub firsts_turn : {from next block at : ℕ} {table : List ℕ} → FirstBlocks from handles table → from ≤ block + 1 → block ≤ next → block < block_entries
      → at ≡ get_or handles block 0 % byte_values → FirstBlocks next handles (set table at block)
  firsts_turn {from} {next} {block} {at} {table} s f n b e =
      record {
        size = simp length-set s.size;
        so = λ byte l.
            by_test (eqb byte at)
            (λ t. rw (eqb-true byte at t, get_or-set_same table at block 0 (omega (arith, s.size))) (record { within = b; before = λ k g h. absurd (omega arith) }))
            (λ t.
            let old = s.so byte l in
            rw (get_or-set_other table at byte block 0 (eqb-false byte at t)) (record {
              within = old.within;
              before = λ k g h.
                  by_test (eqb k block)
                  (λ u same. eqb-false byte at t (omega (arith, e, ap (λ (i : ℕ). get_or handles i 0 % byte_values) (eqb-true k block u))))
                  (λ u. old.before k (omega (arith, eqb-false k block u)) h);
            }));
      }

  pub firsts_end : {from : ℕ} {table : List ℕ} → FirstBlocks from handles table → from ≤ 0 → FirstBlocks 0 handles table
  firsts_end {from} s h = let same : from ≡ 0 = omega arith in rw same at s

  -- the block that is told for a handle's last byte is the first with the handle, if it has it
  pub first_told : {handle at block : ℕ} {table : List ℕ} → FirstBlocks 0 handles table → length handles ≡ block_entries → at ≡ handle % byte_values
      → block ≡ get_or table at 0 → get_or handles block 0 ≡ handle → block ≡ place_in handle handles
  first_told {handle} {at} {block} s size a b e =
      let told : FirstFor 0 handles at block = rw b (s.so at (omega arith)) in
      sym (zero-add block)
      ∙ first_is (is_of handle) 0 0 handles block (omega (arith, told.within)) (eq-eqb _ handle e)
      (λ k l. ne_eqb _ handle (λ t. told.before k (omega arith) l (rw (t, a))))
