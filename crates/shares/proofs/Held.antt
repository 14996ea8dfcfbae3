-- What the counts of a store's places say of the store.
use Prim.Native.Nat.{ℕ, ◌+◌, ◌<◌}
use native.Mathlib.Omega.{arith}
use mathlib.Core.Bool.{Bool, true, false, cond, not, ◌&&◌, ◌||◌, and_comm, and-eq-true_iff}
use mathlib.Core.List.{List}
use mathlib.Core.Path.{◌≡◌, refl, ap, ◌∙◌}
use borrow.Author.Tests.{leb-true, lt-leb}
use lib.Dec.{eqb, leb, ltb}
use lib.ListN.{length, get_or, take}
use Rattle.lists.specs.Sums.{sum_below}
use Rattle.lists.specs.Tests.{all, count}
use Rattle.lists.proofs.Cases.{by_test}
use Rattle.lists.proofs.Sums.{sum_last}
use Rattle.lists.proofs.Tallies.{sum_agree}
use Rattle.ledger.specs.Limits.{is_small}
use Rattle.ledger.specs.declared.Share.{Share}
use Rattle.record.specs.Codes.{free_block}
use Rattle.record.specs.Reading.{is_small_block}
use Rattle.record.specs.Shares.{is_taken, is_made_by, taken_in, made_in, unmet_in, all_unmet_in}
use Rattle.record.specs.Tables.{BlockEntry, blocks_of}
use Rattle.record.specs.WellFormed.{is_used, is_sized_for}
use Rattle.record.proofs.Columns.{length_blocks, block_at}
use Rattle.record.proofs.Figures.{small_block, large_block}
use Rattle.handles.specs.Handles.{UsedIn}
use Rattle.shares.specs.Counting.{first_block, end_block, Span, InColumns, is_used_by, Tallied, CountedIn, First, of_all}
use Rattle.shares.specs.Holdings.{Holds, LengthsFit}
use Rattle.shares.specs.Quotas.{unmet_by, HeldBy}
use Rattle.shares.specs.declared.Holding.{Holding}
use Rattle.shares.proofs.Between.{between, known_by}

pub span_of : (store : Bool) → Span (first_block store) (end_block store)
span_of true = record { ordered = omega arith; within = omega arith; from_whole = refl; to_whole = refl }
span_of false = record { ordered = omega arith; within = omega arith; from_whole = refl; to_whole = refl }

abbrev is_in : Bool → ℕ → Bool
is_in store block = cond store (is_small_block block) (not (is_small_block block))

-- W22, of a store
abbrev pub is_known_in : Bool → BlockEntry → Bool
is_known_in store b = not (is_taken store b) || ltb b.maker 17

-- the length of what is in use goes by its place
sized_so : (block size : ℕ) → is_sized_for block size ≡ true → is_small size ≡ is_small_block block
sized_so block size e =
    by_test (is_small_block block)
    (λ s. rw s ((and-eq-true_iff (leb 1 size) (leb size 32)).0 (rw s at e)).1)
    (λ s. rw s (lt-leb size 32 (omega (arith, leb-true 33 size ((and-eq-true_iff (leb 33 size) (leb size 256)).0 (rw s at e)).0))))

-- what passes q in all is of the store's places and passes p
in_store : (store : Bool) (p q : BlockEntry → Bool) (blocks : List BlockEntry) → length blocks ≡ 96
    → ((k : ℕ) → q (get_or blocks k free_block) ≡ (is_in store k && p (get_or blocks k free_block)))
    → count q blocks + count p (take (first_block store) blocks) ≡ count p (take (end_block store) blocks)
in_store true p q blocks n h =
    between p q free_block 0 64 blocks (omega arith) (omega arith)
    (λ k l. absurd (omega arith))
    (λ k l m. rw (h k, small_block m))
    (λ k l m. rw (h k, large_block l))
in_store false p q blocks n h =
    between p q free_block 64 96 blocks (omega arith) (omega arith)
    (λ k l. rw (h k, small_block l))
    (λ k l m. rw (h k, large_block l))
    (λ k l m. absurd (omega arith))

pub swapped : (u i e : Bool) → (u && i && e) ≡ (i && (u && e))
swapped true i e = refl
swapped false true e = refl
swapped false false e = refl

pub told_by_lem : {handles extents : List ℕ} {used : List Bool} → UsedIn handles used → length extents ≡ 96 → InColumns used extents (blocks_of handles extents)
told_by_lem {handles} {extents} u n =
    record {
      size = length_blocks handles extents u.size n;
      use_at = λ k l. rw (block_at handles extents u.size n k) (u.so.so k l);
      maker_at = λ k l. rw (block_at handles extents u.size n k);
    }

module _ {used : List Bool} {extents : List ℕ} {blocks : List BlockEntry} (told : InColumns used extents blocks) (placed : LengthsFit blocks) (store : Bool) where
  taken_at : (k : ℕ) → is_taken store (get_or blocks k free_block) ≡ (is_used (get_or blocks k free_block) && is_in store k)
  unfolding is_taken
  taken_at k =
      by_test (is_used (get_or blocks k free_block))
      (λ u. rw (u, sized_so k (get_or blocks k free_block).length (placed.so k u)))
      (λ u. rw u)

  pub taken_so : {n : ℕ} → CountedIn used (first_block store) (end_block store) n → n ≡ taken_in store blocks
  taken_so x =
      let all = in_store store is_used (is_taken store) blocks told.size (λ k. taken_at k ∙ and_comm (is_used (get_or blocks k free_block)) (is_in store k)) in
      omega (arith, all, x.so extents blocks told)

  pub made_so : {table : List ℕ} → Tallied used extents (first_block store) (end_block store) table → (k : ℕ) → k < 256 → get_or table k 0 ≡ made_in store blocks k
  unfolding made_in
  made_so x k l =
      let all =
      in_store store (is_used_by k) (is_made_by store k) blocks told.size
      (λ j. rw (taken_at j) (swapped (is_used (get_or blocks j free_block)) (is_in store j) (eqb (get_or blocks j free_block).maker k))) in
      omega (arith, all, x.so blocks told k l)

  module _ {table made : List ℕ} {taken : ℕ} (tallied : Tallied used extents (first_block store) (end_block store) table) (first : First table made)
      (counted : CountedIn used (first_block store) (end_block store) taken) where
    made_of : (task : ℕ) → task < 16 → get_or made task 0 ≡ made_in store blocks task
    made_of task l = first.so task l ∙ made_so tallied task (omega arith)

    pub holds : (shares : List Share) {holding : Holding} → HeldBy store shares made taken holding → Holds store shares blocks holding
    unfolding all_unmet_in
    holds shares held =
        record {
          size = ap length held.same ∙ first.size;
          so = λ task l. ap (λ (ms : List ℕ). get_or ms task 0) held.same ∙ made_of task l;
          spoken = held.spoken ∙ rw (taken_so counted, sum_agree 16 (unmet_by store shares made) (unmet_in store shares blocks) (λ task l. rw (made_of task l)));
        }

    -- W22 of the store
    pub known_so : eqb (of_all made + get_or table 16 0) taken ≡ all (is_known_in store) blocks
    unfolding made_in
    known_so =
        let makers : of_all made + get_or table 16 0 ≡ sum_below 17 (made_in store blocks)
        = omega (arith, sum_last 16 (made_in store blocks), sum_agree 16 (λ (k : ℕ). get_or made k 0) (made_in store blocks) made_of, made_so tallied 16 (omega arith)) in
        rw (makers, taken_so counted) (known_by (is_taken store) (λ (b : BlockEntry). b.maker) 17 blocks)
