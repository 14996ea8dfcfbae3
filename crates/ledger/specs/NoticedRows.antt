-- N7: order 6 on lists of calls that are written out: what is noticed, what goes on beside it, and what a sum cannot notice.
use Rattle.std.specs.Prelude.{List, [], ◌∷◌, length, ◌≡◌}
use Rattle.lists.specs.Tests.{All}
use Rattle.ledger.specs.Limits.{standard}
use Rattle.ledger.specs.Ledger.{Ledger, fresh, after_all}
use Rattle.ledger.specs.Noticed.{disturbed_in, Change}
use Rattle.ledger.specs.Rows.{join, block, tick, make, refresh, read, write, batch, release, report, life, refused, done, stands_still, advanced, contents, zeros, figures, lasts, ◌⇒◌, ◌⨾◌, Row, ◌runs◌clockReads◌, RowHolds}
use Rattle.ledger.specs.declared.Kind.TheVariants.{Local, Pinned}

-- two objects of four bytes, the first with 1 2 3 4, and a pinned one of 33
unfoldable pub three_objects : Ledger
three_objects =
    after_all (fresh standard)
    (join 0 ∷ make 0 Local 0 4 ∷ write 0 1 0 (1 ∷ 2 ∷ 3 ∷ 4 ∷ []) ∷ make 0 Local 2 4 ∷ make 0 Pinned 0 33 ∷ [])

unfoldable pub noticed_edges : List Row
noticed_edges =
    -- 1. The first byte of object 1 is 9: reads and writes of it are 23, a write past its end too (23 comes before 13), and so they are
    -- after a refresh; nothing else looks at the sum. It goes at its time, and is then gone.
    disturbed_in 1 0 9 three_objects runs
    read 0 1 ⇒ refused 23 ⨾
    write 0 1 0 (1 ∷ []) ⇒ refused 23 ⨾
    write 0 1 4 (1 ∷ []) ⇒ refused 23 ⨾
    life 0 1 ⇒ lasts 1 0 ⨾
    refresh 0 1 Local 1 ⇒ done ⨾
    batch 0 Local 1 (1 ∷ 2 ∷ []) ⇒ done ⨾
    release 0 1 ⇒ refused 22 ⨾
    read 0 1 ⇒ refused 23 ⨾
    read 0 2 ⇒ zeros 4 ⨾
    write 0 2 1 (7 ∷ []) ⇒ done ⨾
    read 0 2 ⇒ contents (0 ∷ 7 ∷ 0 ∷ 0 ∷ []) ⨾
    report ⇒ figures 2 1 6 3 ⨾
    tick 0 ⇒ advanced ⨾
    read 0 1 ⇒ refused 23 ⨾
    tick 0 ⇒ advanced ⨾
    read 0 1 ⇒ refused 12 ⨾
    write 0 1 0 (1 ∷ []) ⇒ refused 12
    clockReads 2 ∷
    -- 2. Earlier tests come first: no such task, absent, waiting.
    disturbed_in 1 0 9 three_objects runs
    read 16 1 ⇒ refused 1 ⨾
    read 1 1 ⇒ refused 3 ⨾
    join 1 ⇒ done ⨾
    block 1 ⇒ stands_still ⨾
    write 1 1 0 (1 ∷ []) ⇒ refused 4
    clockReads 0 ∷
    -- 3. A byte of the block past the object's length counts too: the last one of a small block,
    disturbed_in 2 31 1 three_objects runs
    read 0 2 ⇒ refused 23 ⨾
    read 0 1 ⇒ contents (1 ∷ 2 ∷ 3 ∷ 4 ∷ [])
    clockReads 0 ∷
    -- 4. and of a large one.
    disturbed_in 3 255 1 three_objects runs
    read 0 3 ⇒ refused 23 ⨾
    release 0 3 ⇒ done ⨾
    read 0 3 ⇒ refused 12
    clockReads 0 ∷
    -- 5. Two changes that cancel pass: a sum does not notice them.
    disturbed_in 1 1 1 (disturbed_in 1 0 2 three_objects) runs
    read 0 1 ⇒ contents (2 ∷ 1 ∷ 3 ∷ 4 ∷ []) ⨾
    write 0 1 3 (5 ∷ []) ⇒ done ⨾
    read 0 1 ⇒ contents (2 ∷ 1 ∷ 3 ∷ 5 ∷ [])
    clockReads 0 ∷
    -- 6. Put back, the object is read again.
    disturbed_in 1 0 1 (disturbed_in 1 0 9 three_objects) runs
    read 0 1 ⇒ contents (1 ∷ 2 ∷ 3 ∷ 4 ∷ [])
    clockReads 0 ∷
    []

pub record NoticedRows : Type 0 where
  pub six : length noticed_edges ≡ 6
  pub rows : All RowHolds noticed_edges
  -- and the claim is not empty
  pub applies : Change
