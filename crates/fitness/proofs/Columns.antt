-- The test of all blocks, made column by column.
use Rattle.std.proofs.Common.{◌≡◌, ℕ, suc, ◌<◌, ◌≤◌, Bool, true, false, not, ◌&&◌, ◌||◌, eqb, List, [], ◌∷◌, length, get_or, sym, refl, ◌∙◌, zero-add, arith, eqb-true, le-leb}
use mathlib.Core.Bool.{beq, and_comm, and-false, and-eq-true_iff}
use Rattle.std.specs.List.{fold, zip}
use Rattle.lists.specs.Filled.{Filled}
use Rattle.lists.specs.Tests.{all}
use Rattle.lists.specs.Tables.{all_from}
use Rattle.lists.proofs.Cases.{same_test}
use Rattle.lists.proofs.Folds.{fold_all}
use Rattle.lists.proofs.Searches.{passes_within}
use Rattle.lists.proofs.Implied.{all_from_all}
use Rattle.lists.proofs.Tables.{all_from_each, all_from_within}
use Rattle.record.specs.Codes.{free_block}
use Rattle.record.specs.Tables.{BlockEntry, blocks_of, SizedBlocks, length_in, prefix_in}
use Rattle.record.proofs.Columns.{length_blocks, block_at}
use Rattle.handles.specs.Handles.{UsedFlags}
use Rattle.fitness.specs.Checks.{is_shaped_for, ShapedTo, is_given_by, is_named_by, is_named_row, is_fit_block_in}

-- one block: z is whether it is free, n whether it is named, s whether its length and prefix fit and g whether its handle was given, as
-- that of a free block is
apart : (z n s g : Bool) → (z ≡ true → g ≡ true)
    → (beq (not z) n && (not (not z) || (s && g))) ≡ (g && (beq (not z) n && (not (not z) || s)))
apart true n s g h = rw (h refl)
apart false true s g h = and_comm s g
apart false false s g h = sym (and-false g)

-- places counted from one more
later : {A : Type 0} (p : ℕ → A → Bool) (i : ℕ) (xs : List A) → all_from (suc i) p xs ≡ all_from i (λ k. p (suc k)) xs
later p i [] = refl
later p i (x ∷ xs) = rw (later p (suc i) xs)

-- three columns side by side
side_by_side : (p : Bool → Bool → Bool → Bool) (xs ys zs : List Bool) → length xs ≤ length ys → length xs ≤ length zs
    → all (λ (q : (Bool × Bool) × Bool). p q.0.0 q.0.1 q.1) (zip (zip xs ys) zs) ≡ all_from 0 (λ k x. p x (get_or ys k false) (get_or zs k false)) xs
side_by_side p [] ys zs h l = refl
side_by_side p (x ∷ xs) [] zs h l = absurd (omega arith)
side_by_side p (x ∷ xs) (y ∷ ys) [] h l = absurd (omega arith)
side_by_side p (x ∷ xs) (y ∷ ys) (z ∷ zs) h l =
    rw (side_by_side p xs ys zs (omega arith) (omega arith), later (λ k x. p x (get_or (y ∷ ys) k false) (get_or (z ∷ zs) k false)) 0 xs)

-- a block with its place
abbrev pub is_named_in : List Bool → List Bool → ℕ → Bool → Bool
is_named_in flags shaped k used = is_named_by used (get_or flags k false) (get_or shaped k false)

pub given_by : (given : ℕ) (handles : List ℕ) (r : Bool) → r ≡ fold (λ fit handle. fit && is_given_by given handle) true handles
    → r ≡ all (is_given_by given) handles
given_by given handles r e = e ∙ fold_all (is_given_by given) handles

pub named_by : (flags shaped used : List Bool) (r : Bool) → length used ≤ length flags → length used ≤ length shaped
    → r ≡ fold (λ fit row. fit && is_named_row row) true (zip (zip used flags) shaped) → r ≡ all_from 0 (is_named_in flags shaped) used
named_by flags shaped used r h l e = e ∙ fold_all is_named_row (zip (zip used flags) shaped) ∙ side_by_side is_named_by used flags shaped h l

module _ (given : ℕ) (flags : List Bool) {handles extents lengths prefixes : List ℕ} (size : SizedBlocks handles extents) {used shaped : List Bool}
    (u : UsedFlags handles used) (ls : Filled 0 (λ k x. x ≡ length_in (get_or extents k 0)) 96 96 lengths)
    (ps : Filled 0 (λ k x. x ≡ prefix_in (get_or extents k 0)) 96 96 prefixes) (s : ShapedTo lengths prefixes 96 shaped) where
  abbrev blocks : List BlockEntry
  blocks = blocks_of handles extents

  count : length blocks ≡ 96
  count = length_blocks handles extents size.of_handles size.of_extents

  -- what is asked of a block, and the two parts
  abbrev is_fit : ℕ → Bool
  is_fit k = is_fit_block_in given flags k (get_or blocks k free_block)

  abbrev is_given : ℕ → Bool
  is_given k = is_given_by given (get_or handles k 0)

  abbrev is_named : ℕ → Bool
  is_named k = is_named_in flags shaped k (get_or used k false)

  -- its length and its prefix, by its extent
  abbrev is_shaped : ℕ → Bool
  is_shaped k = is_shaped_for k (length_in (get_or extents k 0)) (prefix_in (get_or extents k 0))

  shape : (k : ℕ) → k < 96 → get_or shaped k false ≡ is_shaped k
  shape k l = s.so k l ∙ rw (ls.so k l, ps.so k l)

  at : (k : ℕ) → k < 96 → is_fit k ≡ (is_given k && is_named k)
  at k l =
      rw (block_at handles extents size.of_handles size.of_extents k, u.so k l, shape k l)
      (apart (eqb (get_or handles k 0) 0) (get_or flags k false) (is_shaped k) (is_given k)
      (λ z. rw (eqb-true (get_or handles k 0) 0 z) (le-leb 0 given (omega arith))))

  to : (all (is_given_by given) handles && all_from 0 (is_named_in flags shaped) used) ≡ true
      → all_from 0 (is_fit_block_in given flags) blocks ≡ true
  to e =
      let (g, n) = (and-eq-true_iff (all (is_given_by given) handles) _).0 e in
      all_from_each (is_fit_block_in given flags) free_block 0 blocks
      (λ k l.
      let within : k < 96 = omega (arith, count) in
      let given-at = passes_within (is_given_by given) handles k 0 g (omega (arith, size.of_handles)) in
      let named-at = rw (zero-add k) at (all_from_within (is_named_in flags shaped) false 0 used n k (omega (arith, u.size))) in
      rw (zero-add k) (at k within ∙ (and-eq-true_iff (is_given k) (is_named k)).1 (given-at, named-at)))

  from : all_from 0 (is_fit_block_in given flags) blocks ≡ true
      → (all (is_given_by given) handles && all_from 0 (is_named_in flags shaped) used) ≡ true
  from e =
      let both : (k : ℕ) → k < 96 → (is_given k ≡ true) × (is_named k ≡ true)
      = λ k l.
      (and-eq-true_iff (is_given k) (is_named k)).0
      (sym (at k l) ∙ (rw (zero-add k) at (all_from_within (is_fit_block_in given flags) free_block 0 blocks e k (omega (arith, count))))) in
      (and-eq-true_iff _ _).1 (
        sym (all_from_all (is_given_by given) 0 handles) ∙ all_from_each (λ k. is_given_by given) 0 0 handles (λ k l. (both k (omega (arith, size.of_handles))).0),
        all_from_each (is_named_in flags shaped) false 0 used (λ k l. rw (zero-add k) (both k (omega (arith, u.size))).1),
      )

  pub by_columns : (all (is_given_by given) handles && all_from 0 (is_named_in flags shaped) used)
      ≡ all_from 0 (is_fit_block_in given flags) blocks
  by_columns = same_test _ _ to from
