-- What of a store each task has, as the code counts it.
use Rattle.std.specs.Prelude.{ℕ, ◌<◌, Bool, true, false, List, ◌≡◌, length, get_or}
use Rattle.ledger.specs.Limits.{task_count}
use Rattle.ledger.specs.declared.Share.{Share}
use Rattle.record.specs.Codes.{free_block}
use Rattle.record.specs.Shares.{made_in, spoken_in, is_shared}
use Rattle.record.specs.Tables.{BlockEntry, blocks_of}
use Rattle.record.specs.WellFormed.{is_used, is_sized_for}
use Rattle.record.specs.declared.Head.{Head}
use Rattle.handles.specs.Handles.{UsedIn}
use Rattle.shares.specs.declared.Holding.{Holding}
use Rattle.shares.specs.declared.Holdings.{Holdings}
use Rattle.shares.specs.declared.Sharing.{Sharing}

-- Q4: what each task made; Q6: and the blocks that are in use or held back
pub record Holds (store : Bool) (shares : List Share) (blocks : List BlockEntry) (holding : Holding) : Type 0 where
  pub size : length holding.made ≡ task_count
  pub so : (task : ℕ) → task < task_count → get_or holding.made task 0 ≡ made_in store blocks task
  pub spoken : holding.spoken ≡ spoken_in store shares blocks

-- of both stores
pub record HoldsBoth (shares : List Share) (blocks : List BlockEntry) (holdings : Holdings) : Type 0 where
  pub small : Holds true shares blocks holdings.small
  pub large : Holds false shares blocks holdings.large

-- W3, by itself: what is in use has a length of its block's store
pub record LengthsFit (blocks : List BlockEntry) : Type 0 where
  pub so : (block : ℕ) → is_used (get_or blocks block free_block) ≡ true → is_sized_for block (get_or blocks block free_block).length ≡ true

-- of a store, by which blocks are in use: whatever their handles
pub record HoldsIn (store : Bool) (shares : List Share) (used : List Bool) (extents : List ℕ) (holding : Holding) : Type 0 where
  pub so : (handles : List ℕ) → UsedIn handles used → LengthsFit (blocks_of handles extents) → Holds store shares (blocks_of handles extents) holding

-- of both, with whether shares and makers are fit
pub record TellsSharing (h : Head) (used : List Bool) (extents : List ℕ) (sharing : Sharing) : Type 0 where
  pub shared : (handles : List ℕ) → UsedIn handles used → LengthsFit (blocks_of handles extents)
      → sharing.fit ≡ is_shared h.limits h.tasks h.shares (blocks_of handles extents)
  pub held : (handles : List ℕ) → UsedIn handles used → LengthsFit (blocks_of handles extents)
      → HoldsBoth h.shares (blocks_of handles extents) sharing.holdings
