-- The blocks that an event leaves: those that an expiration names stay as they were.
use Prim.Native.Nat.{ℕ}
use mathlib.Core.Bool.{true}
use mathlib.Core.List.{List}
use mathlib.Core.Path.{◌≡◌}
use lib.ListN.{get_or}
use Rattle.lists.specs.Tests.{any}
use Rattle.lists.specs.Tables.{map_from}
use Rattle.lists.proofs.Cases.{cond_same}
use Rattle.lists.proofs.Tables.{get_or_map_from}
use Rattle.record.specs.Codes.{free_block}
use Rattle.record.specs.WellFormed.{is_naming}
use Rattle.record.specs.Tables.{BlockEntry, ExpirationEntry}
use Rattle.steps.specs.Events.{kept_block}

pub block_left : (xs : List ExpirationEntry) (blocks : List BlockEntry) (block : ℕ)
    → get_or (map_from 0 (kept_block xs) blocks) block free_block ≡ kept_block xs block (get_or blocks block free_block)
block_left xs = get_or_map_from free_block (kept_block xs) (λ i. cond_same (any (is_naming i) xs) free_block)

pub kept_block_lem : (xs : List ExpirationEntry) (blocks : List BlockEntry) (block : ℕ) → any (is_naming block) xs ≡ true
    → get_or (map_from 0 (kept_block xs) blocks) block free_block ≡ get_or blocks block free_block
kept_block_lem xs blocks block named = rw (block_left xs blocks block, named)
