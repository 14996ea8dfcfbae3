-- Laws of the pass over a batch's handles.
use Prim.Native.Nat.{ℕ, ◌+◌, ◌≤◌, ◌<◌}
use native.Mathlib.Omega.{arith}
use mathlib.Core.Bool.{Bool, false, ◌||◌}
use mathlib.Core.List.{List}
use mathlib.Core.Path.{◌≡◌, ap, ◌∙◌}
use lib.Dec.{leb}
use lib.ListN.{length, get_or, set, replicate}
use Rattle.lists.specs.Filled.{Filled}
use Rattle.lists.specs.Tests.{any}
use Rattle.lists.proofs.Filling.{filled_start, filled_turn, filled_map}
use Rattle.lists.proofs.Loops.{Scanned, scanned_start, any_kept, any_kept_end}
use Rattle.ledger.specs.Limits.{largest_batch}
use Rattle.ledger.specs.Refusals.{is_not_given}
use Rattle.record.specs.Tables.{block_entries}
use Rattle.steps.specs.Objects.{place_in}
use Rattle.refusals.specs.Batches.{is_missing_in, FindsBatch}

-- the pass after i of n handles: what was found of those, and what is left to find
module _ (given : ℕ) (handles named : List ℕ) (n : ℕ) where
  pub record Passed (i : ℕ) (out : List ℕ) (ungiven gone : Bool) : Type 0 where
    pub of_given : Scanned (any (is_not_given given) named) named n i (λ ys. ungiven || any (is_not_given given) ys)
    pub of_gone : Scanned (any (is_missing_in handles) named) named n i (λ ys. gone || any (is_missing_in handles) ys)
    pub of_places : Filled (place_in 0 handles) (λ (k place : ℕ). place ≡ place_in (get_or named k 0) handles) largest_batch i out

  pub passed_start : length named ≡ n → Passed 0 (replicate largest_batch 0) false false
  passed_start e =
      record {
        of_given = scanned_start (any (is_not_given given)) named n e;
        of_gone = scanned_start (any (is_missing_in handles)) named n e;
        of_places = filled_start 0;
      }

  pub passed_turn : {i : ℕ} {out : List ℕ} {ungiven gone r : Bool} {handle place : ℕ} → Passed i out ungiven gone → i < n → n ≤ largest_batch
      → handle ≡ get_or named i 0 → r ≡ is_not_given given handle → place ≡ place_in handle handles
      → Passed (i + 1) (set out i place) (ungiven || r) (gone || leb block_entries place)
  passed_turn {ungiven = ungiven} {gone} s h k e f g =
      record {
        of_given = any_kept (is_not_given given) 0 ungiven s.of_given h (f ∙ ap (is_not_given given) e);
        of_gone = any_kept (is_missing_in handles) 0 gone s.of_gone h (rw (g, e));
        of_places = filled_turn _ s.of_places (omega arith) (rw e at g);
      }

  pub passed_end : {i : ℕ} {out : List ℕ} {ungiven gone : Bool} → Passed i out ungiven gone → n ≤ i → length named ≡ n → n ≤ largest_batch
      → FindsBatch given handles named (record { blocks = out; ungiven = ungiven; gone = gone })
  passed_end s h e k =
      record {
        ungiven = any_kept_end (is_not_given given) _ s.of_given h;
        gone = any_kept_end (is_missing_in handles) _ s.of_gone h;
        sized = s.of_places.size;
        blocks = filled_map (λ (handle : ℕ). place_in handle handles) 0 named s.of_places (omega arith) (omega arith);
      }
