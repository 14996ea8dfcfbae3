-- What a call leaves where it is: the objects that stand on.
use Rattle.std.specs.Prelude.{ℕ, ◌≤◌, ◌<◌, true, ◌≡◌, get_or}
use Rattle.record.specs.Codes.{free_block}
use Rattle.record.specs.Tables.{Tables}
use Rattle.record.specs.WellFormed.{is_well_formed}

-- O29: a block that has afterwards a handle which was already given has the handle and the length that it had. The block of a new handle is
-- left open.
pub record Stays (p p' : Tables) : Type 0 where
  -- C2: the figures too
  pub limits : p'.limits ≡ p.limits
  pub given : p.given ≤ p'.given
  pub same : (block : ℕ) → 0 < (get_or p'.blocks block free_block).handle → (get_or p'.blocks block free_block).handle ≤ p.given
      → ((get_or p'.blocks block free_block).handle ≡ (get_or p.blocks block free_block).handle)
      × ((get_or p'.blocks block free_block).length ≡ (get_or p.blocks block free_block).length)

-- That is enough: in a well-formed record no two blocks have one handle, so an object that is in a block before and in a block afterwards
-- is in the same one, with the length that it had.
abbrev pub OneBlock : Type 0
OneBlock =
    (p p' : Tables) → is_well_formed p ≡ true → Stays p p' → (before after : ℕ) → 0 < (get_or p.blocks before free_block).handle
    → (get_or p'.blocks after free_block).handle ≡ (get_or p.blocks before free_block).handle
    → (after ≡ before) × ((get_or p'.blocks after free_block).length ≡ (get_or p.blocks before free_block).length)
