-- The rules C (order 12 of document 02): the figures that a site chooses. No call changes them, each bounds what it is named for, and these
-- may be chosen.
use Rattle.std.specs.Prelude.{Bool, true, false, List, [], ◌∷◌, ◌≡◌}
use Rattle.lists.specs.Tests.{All}
use Rattle.ledger.specs.Limits.{chosen, standard, is_allowed}
use Rattle.ledger.specs.Objects.{Memory}
use Rattle.ledger.specs.Ledger.{Ledger, Sent, fresh, after_all}
use Rattle.ledger.specs.Heap.{Used, heap_after_all}
use Rattle.ledger.specs.Rows.{join, join_with, share_of, tick, make, refresh, batch, release, report, refused, done, advanced, handle, figures, ◌⇒◌, ◌⨾◌, Row, ◌runs◌clockReads◌, RowHolds}
use Rattle.ledger.specs.declared.Kind.TheVariants.{Local, Global, Pinned}
use Rattle.ledger.specs.declared.Limits.{Limits}

unfoldable pub chosen_edges : List Row
chosen_edges =
    -- 1. Each of the four bounds what it is named for: the extension (R6), the blocks of either store (R9) and the expirations (R10), of a
    -- batch too.
    fresh (chosen 1 2 4 5) runs
    join 0 ⇒ done ⨾
    make 0 Local 6 32 ⇒ refused 6 ⨾
    make 0 Local 5 32 ⇒ handle 1 ⨾
    make 0 Local 5 1 ⇒ refused 9 ⨾
    make 0 Global 5 33 ⇒ handle 2 ⨾
    make 0 Pinned 0 256 ⇒ handle 3 ⨾
    make 0 Local 0 33 ⇒ refused 9 ⨾
    refresh 0 1 Global 6 ⇒ refused 6 ⨾
    batch 0 Local 0 (1 ∷ 2 ∷ []) ⇒ refused 10 ⨾
    batch 0 Local 0 (2 ∷ []) ⇒ done ⨾
    refresh 0 1 Local 0 ⇒ refused 10 ⨾
    report ⇒ figures 1 2 4 3 ⨾
    release 0 3 ⇒ done ⨾
    make 0 Local 0 33 ⇒ handle 4
    clockReads 0 ∷
    -- 2. The smallest pool has room for one expiration. Its next make finds a block and no expiration.
    fresh (chosen 1 1 1 0) runs
    join 0 ⇒ done ⨾
    make 0 Local 1 4 ⇒ refused 6 ⨾
    make 0 Local 0 4 ⇒ handle 1 ⨾
    make 0 Local 0 4 ⇒ refused 9 ⨾
    make 0 Local 0 33 ⇒ refused 10 ⨾
    tick 0 ⇒ advanced ⨾
    make 0 Global 0 33 ⇒ handle 2
    clockReads 1 ∷
    -- 3. 25 and what is held back go by the blocks: both small ones are task 0's. Below its reserve it may still be answered 10.
    fresh (chosen 2 1 1 0) runs
    join_with 0 (share_of 3 3 0 0) ⇒ refused 25 ⨾
    join_with 0 (share_of 0 0 2 2) ⇒ refused 25 ⨾
    join_with 0 (share_of 2 2 1 1) ⇒ done ⨾
    join 1 ⇒ done ⨾
    make 1 Local 0 4 ⇒ refused 9 ⨾
    make 0 Local 0 4 ⇒ handle 1 ⨾
    make 1 Local 0 4 ⇒ refused 9 ⨾
    make 0 Local 0 4 ⇒ refused 10
    clockReads 0 ∷
    []

pub record Allowing (may : Bool) (limits : Limits) : Type 0 where
  pub told : is_allowed limits ≡ may

pub record ChosenClaim : Type 0 where
  -- C2: over every list of calls ledger and heap keep the figures
  pub fixed : (L : Ledger) (ss : List Sent) → (after_all L ss).memory.limits ≡ L.memory.limits
  pub fixed_heap : (m : Memory) (us : List Used) → (heap_after_all m us).limits ≡ m.limits
  -- C5
  pub rows : All RowHolds chosen_edges
  -- C3: the ends of each range, 01's figures (C4) among them, and some between; and one past each end
  pub inside : All (Allowing true) (standard ∷ chosen 1 1 1 0 ∷ chosen 1 2 4 5 ∷ chosen 16 4 64 10 ∷ [])
  pub outside : All (Allowing false)
      (chosen 0 1 1 0 ∷ chosen 65 1 1 0 ∷ chosen 1 0 1 0 ∷ chosen 1 33 1 0 ∷ chosen 1 1 0 0 ∷ chosen 1 1 257 0 ∷ chosen 1 1 1 31 ∷ [])
