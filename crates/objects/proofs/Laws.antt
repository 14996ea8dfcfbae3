-- What was decided on columns, as the definitions on entries have it.
use Prim.Native.Nat.{ℕ, zero, suc}
use mathlib.Core.List.{List, [], ◌∷◌, map}
use mathlib.Core.Path.{◌≡◌, refl, sym, ap, ◌∙◌}
use borrow.Author.Tests.{leb-false}
use lib.Dec.{leb}
use lib.ListN.{length, take, drop}
use Rattle.lists.proofs.Cases.{by_test}
use Rattle.lists.proofs.Counts.{count_map}
use Rattle.lists.proofs.First.{first_map}
use Rattle.ledger.specs.Limits.{task_count, is_small}
use Rattle.ledger.specs.Refusals.{verdict}
use Rattle.ledger.specs.Rules.{tests_of}
use Rattle.ledger.specs.declared.Call.TheVariants.{Make}
use Rattle.ledger.specs.declared.Kind.{Kind}
use Rattle.ledger.specs.declared.Limits.{Limits}
use Rattle.record.specs.Tables.{BlockEntry, ExpirationEntry, blocks_of, tables_by, block_entries}
use Rattle.record.specs.declared.Head.{Head}
use Rattle.record.proofs.Columns.{handles_of_lem}
use Rattle.shares.specs.Holdings.{Holds}
use Rattle.shares.specs.declared.Holding.{Holding}
use Rattle.steps.specs.Objects.{place_of, place_in, free_place, free_place_in, standing_in}
use Rattle.steps.specs.Facts.{verdict_with, verdict_by}
use Rattle.steps.specs.Usage.{usage_of}
use Rattle.objects.specs.Outcomes.{make_plan}
use Rattle.objects.specs.Usage.{usage_in}
use Rattle.objects.proofs.Makes.{limited_by, filled_by}

module _ {ℓ κ} {A : Type ℓ} {B : Type κ} (f : A → B) where
  take_map : (n : ℕ) (xs : List A) → take n (map f xs) ≡ map f (take n xs)
  take_map zero xs = refl
  take_map (suc n) [] = refl
  take_map (suc n) (x ∷ xs) = ap (λ ys. f x ∷ ys) (take_map n xs)

  drop_map : (n : ℕ) (xs : List A) → drop n (map f xs) ≡ map f (drop n xs)
  drop_map zero xs = refl
  drop_map (suc n) [] = refl
  drop_map (suc n) (x ∷ xs) = drop_map n xs

abbrev handles_in : List BlockEntry → List ℕ
handles_in blocks = map (λ (b : BlockEntry). b.handle) blocks

-- by the handles of entries
free_place_in_lem : (limits : Limits) (size : ℕ) (blocks : List BlockEntry) → free_place_in limits size (handles_in blocks) ≡ free_place limits size blocks
unfolding free_place_in free_place
free_place_in_lem limits size blocks = simp (take_map, drop_map, first_map)

usage_in_lem : (h : Head) (blocks : List BlockEntry) (xs : List ExpirationEntry)
    → usage_in h.given (handles_in blocks) (standing_in xs) ≡ usage_of (tables_by h blocks xs)
unfolding usage_in usage_of tables_by
usage_in_lem h blocks xs = simp (take_map, drop_map, count_map)

-- the two columns of the blocks
module _ (hs ls : List ℕ) (a : length hs ≡ block_entries) (b : length ls ≡ block_entries) where
  pub place_of_lem : (handle : ℕ) → place_in handle hs ≡ place_of handle (blocks_of hs ls)
  place_of_lem handle = ap (place_in handle) (sym (handles_of_lem hs ls a b)) ∙ first_map _ _ 0 (blocks_of hs ls)

  pub free_place_of : (limits : Limits) (size : ℕ) → free_place_in limits size hs ≡ free_place limits size (blocks_of hs ls)
  free_place_of limits size = ap (free_place_in limits size) (sym (handles_of_lem hs ls a b)) ∙ free_place_in_lem limits size (blocks_of hs ls)

  module _ (h : Head) (xs : List ExpirationEntry) where
    pub usage_of_lem : usage_in h.given hs (standing_in xs) ≡ usage_of (tables_by h (blocks_of hs ls) xs)
    usage_of_lem = ap (λ hs'. usage_in h.given hs' (standing_in xs)) (sym (handles_of_lem hs ls a b)) ∙ usage_in_lem h (blocks_of hs ls) xs

    pub make_planned : (task : ℕ) (kind : Kind) (extension size prefix : ℕ) (holding : Holding) → Holds (is_small size) h.shares (blocks_of hs ls) holding
        → (make_plan task kind extension size prefix h (free_place_in h.limits size hs) holding (standing_in xs)).verdict
        ≡ verdict_by (tests_of (Make task kind extension size prefix) []) (tables_by h (blocks_of hs ls) xs)
    unfolding make_plan verdict_with verdict tests_of tables_by
    make_planned task kind extension size prefix holding holds =
        by_test (leb task_count task)
        (λ e. rw e)
        (λ e.
        let known = leb-false task_count task e in
        rw (limited_by (is_small size) h.limits h.shares (blocks_of hs ls) holding holds task known, filled_by (is_small size) h.limits h.shares (blocks_of hs ls) holding holds task known))
