-- Blocks and entries past the figures, by the columns of handles and clocks.
use Rattle.std.proofs.Common.{◌≡◌, ℕ, suc, ◌+◌, Bool, ◌&&◌, ◌||◌, ltb, List, [], ◌∷◌, map, length, take, drop, refl, ◌∙◌, zero-add, arith, length-take, take_all, drop-drop, le-ltb, lt-ltb}
use Rattle.lists.specs.Tests.{all}
use Rattle.lists.specs.Tables.{all_from}
use Rattle.lists.proofs.Implied.{all_from_later, all_from_parts, all_from_past, all_from_same}
use Rattle.ledger.specs.Limits.{capacity}
use Rattle.ledger.specs.declared.Limits.{Limits}
use Rattle.record.specs.Tables.{BlockEntry, ExpirationEntry, blocks_of, entries_of, block_entries, expiration_entries}
use Rattle.record.specs.WellFormed.{is_block, is_bounded}
use Rattle.record.proofs.Columns.{handles_of_lem, clocks_of}
use Rattle.fitness.specs.Checks.{is_none, Bounds}

-- a test of one field with its place, in the field's column
in_column : {A : Type 0} (p : ℕ → ℕ → Bool) (f : A → ℕ) (i : ℕ) (xs : List A) → all_from i (λ (k : ℕ) (x : A). p k (f x)) xs ≡ all_from i p (map f xs)
in_column p f i [] = refl
in_column p f i (x ∷ xs) = rw (in_column p f (suc i) xs)

-- the blocks of the small store, then those of the large one
blocks_past : (limits : Limits) (hs : List ℕ) → length hs ≡ block_entries
    → all_from 0 (λ (k h : ℕ). is_none h || is_block limits k) hs
    ≡ (all is_none (drop limits.small (take capacity.small hs)) && all is_none (drop (capacity.small + limits.large) (take block_entries hs)))
blocks_past limits hs e =
    let n = capacity.small in
    let is_its : ℕ → ℕ → Bool = λ (k h : ℕ). is_none h || is_block limits k in
    let front : all_from 0 is_its (take n hs) ≡ all is_none (drop limits.small (take n hs)) =
    all_from_same is_its (λ (k h : ℕ). is_none h || ltb k (0 + limits.small)) n (λ k l h. rw (lt-ltb k n l, zero-add)) 0 (take n hs) (simp length-take (omega arith))
    ∙ all_from_past is_none 0 limits.small (take n hs) in
    let back : all_from n is_its (drop n hs) ≡ all is_none (drop limits.large (drop n hs)) =
    all_from_later is_its (λ (k h : ℕ). is_none h || ltb k (n + limits.large)) n (λ k l h. rw (le-ltb k n l)) n (drop n hs) (omega arith)
    ∙ all_from_past is_none n limits.large (drop n hs) in
    rw (take_all block_entries hs (omega (arith, e)), all_from_parts is_its 0 n hs, zero-add, front, back, drop-drop)

entries_past : (limits : Limits) (cs : List ℕ)
    → all_from 0 (λ (k c : ℕ). is_none c || ltb k limits.expirations) cs ≡ all is_none (drop limits.expirations cs)
entries_past limits cs = rw zero-add at (all_from_past is_none 0 limits.expirations cs)

pub bounds_by : (limits : Limits) (hs cs : List ℕ) → length hs ≡ block_entries → length cs ≡ expiration_entries
    → Bounds limits hs cs
    (all is_none (drop limits.small (take capacity.small hs)) && all is_none (drop (capacity.small + limits.large) (take block_entries hs))
    && all is_none (drop limits.expirations cs))
unfolding is_bounded
bounds_by limits hs cs h c =
    record {
      so = λ extents named dues e n d.
          rw (
            in_column (λ (k h : ℕ). is_none h || is_block limits k) (λ (b : BlockEntry). b.handle) 0 (blocks_of hs extents),
            in_column (λ (k h : ℕ). is_none h || ltb k limits.expirations) (λ (x : ExpirationEntry). x.clock) 0 (entries_of cs named dues),
            handles_of_lem hs extents h e,
            clocks_of cs named dues c n d,
            blocks_past limits hs h,
            entries_past limits cs,
          );
    }
