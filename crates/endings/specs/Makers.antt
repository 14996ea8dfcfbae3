-- What a leave makes of the blocks' extents.
use Rattle.std.specs.Prelude.{ℕ, cond, List, map, ◌==◌, slice_index}
use Rattle.ledger.specs.Expirations.{departed}
use Rattle.record.specs.Tables.{maker_in, with_maker}
use Rattle.endings.specs.declared.Passing.{Passing}

-- an extent by its maker: the leaver's are nobody's
abbrev pub orphaned_of : ℕ → ℕ → ℕ → ℕ
orphaned_of leaver maker extent = cond (maker == leaver) (with_maker extent departed) extent

abbrev pub orphaned_extent : ℕ → ℕ → ℕ
orphaned_extent leaver extent = orphaned_of leaver (maker_in extent) extent

-- the maker asked of the extents as they were before, at the same place
abbrev pub orphaned_by : ℕ → List ℕ → ℕ → ℕ → ℕ
orphaned_by leaver before k extent = orphaned_of leaver (maker_in (slice_index before k)) extent

-- all of them: where no task leaves, they stay
abbrev pub orphaned_extents : Passing → List ℕ → List ℕ
orphaned_extents t extents = cond t.leaves (map (orphaned_extent t.task) extents) extents
