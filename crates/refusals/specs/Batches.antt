-- What one pass over a batch's handles finds of its objects.
use Rattle.std.specs.Prelude.{ℕ, Bool, List, map, ◌≡◌, leb, length, take}
use Rattle.lists.specs.Tests.{any}
use Rattle.ledger.specs.Limits.{largest_batch}
use Rattle.ledger.specs.Refusals.{is_not_given}
use Rattle.record.specs.Tables.{block_entries}
use Rattle.steps.specs.Objects.{place_in}
use Rattle.refusals.specs.declared.batch.BatchFound.{BatchFound}

-- the blocks of the objects with these handles, in their order
abbrev pub places_in : List ℕ → List ℕ → List ℕ
places_in handles named = map (λ (handle : ℕ). place_in handle handles) named

-- no block has this handle
abbrev pub is_missing_in : List ℕ → ℕ → Bool
is_missing_in handles handle = leb block_entries (place_in handle handles)

-- R11, R12 of a batch, and its blocks
pub record FindsBatch (given : ℕ) (handles named : List ℕ) (r : BatchFound) : Type 0 where
  pub ungiven : r.ungiven ≡ any (is_not_given given) named
  pub gone : r.gone ≡ any (is_missing_in handles) named
  pub sized : length r.blocks ≡ largest_batch
  pub blocks : take (length named) r.blocks ≡ places_in handles named
