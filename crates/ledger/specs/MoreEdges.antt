-- Rules of documents 01 and 02 that none of the thirteen edges tries, in rows of the same kind: writing, leaving, waiting, the last handle,
-- life life, batches, and refusals 1 to 6, 8, 11 and 20.
use Rattle.std.specs.Prelude.{List, [], ◌∷◌, replicate}
use Rattle.lists.specs.Tests.{All}
use Rattle.ledger.specs.Limits.{standard}
use Rattle.ledger.specs.Ledger.{fresh}
use Rattle.ledger.specs.Rows.{join, leave, block, resume, tick, make, refresh, read, write, batch, report, life, refused, done, stands_still, advanced, handle, contents, zeros, figures, lasts, ◌⇒◌, ◌⨾◌, Row, ◌runs◌clockReads◌, RowHolds, late_start}
use Rattle.ledger.specs.declared.Kind.TheVariants.{Local, Global}

unfoldable pub more_edges : List Row
more_edges =
    -- A byte written at offset 1 is read back there; the bytes beside it and another object stay.
    fresh standard runs
    join 0 ⇒ done ⨾
    make 0 Local 0 4 ⇒ handle 1 ⨾
    make 0 Local 0 4 ⇒ handle 2 ⨾
    write 0 1 1 (165 ∷ []) ⇒ done ⨾
    read 0 1 ⇒ contents (0 ∷ 165 ∷ 0 ∷ 0 ∷ []) ⨾
    read 0 2 ⇒ zeros 4
    clockReads 0 ∷
    -- A leaver's global expiration counts on.
    fresh standard runs
    join 0 ⇒ done ⨾
    join 1 ⇒ done ⨾
    make 1 Global 0 4 ⇒ handle 1 ⨾
    leave 1 ⇒ stands_still ⨾
    tick 0 ⇒ advanced ⨾
    read 0 1 ⇒ zeros 4 ⨾
    tick 0 ⇒ advanced ⨾
    read 0 1 ⇒ refused 12
    clockReads 2 ∷
    -- A task that waits keeps its local time and its expirations. Resumed it is not ticked: the tick of 1 alone makes no advance.
    fresh standard runs
    join 0 ⇒ done ⨾
    join 1 ⇒ done ⨾
    make 0 Local 1 4 ⇒ handle 1 ⨾
    tick 0 ⇒ stands_still ⨾
    block 0 ⇒ stands_still ⨾
    resume 0 ⇒ done ⨾
    tick 1 ⇒ stands_still ⨾
    read 1 1 ⇒ zeros 4 ⨾
    tick 0 ⇒ advanced ⨾
    read 1 1 ⇒ refused 12
    clockReads 2 ∷
    -- A task that waits may leave: its local expirations go, no advance follows, and when it joins again its local time is 0.
    fresh standard runs
    join 0 ⇒ done ⨾
    join 1 ⇒ done ⨾
    make 0 Local 30 4 ⇒ handle 1 ⨾
    tick 0 ⇒ stands_still ⨾
    block 0 ⇒ stands_still ⨾
    leave 0 ⇒ stands_still ⨾
    read 1 1 ⇒ refused 12 ⨾
    join 0 ⇒ done
    clockReads 0 ∷
    -- Remaining life: the longest expiration of either kind counts, a local one for its setter alone and a global one for all. Straight
    -- after it is set e + 1 ticks or e + 2 advances are left, and each goes by its own time.
    fresh standard runs
    join 0 ⇒ done ⨾
    join 1 ⇒ done ⨾
    make 0 Local 30 4 ⇒ handle 1 ⨾
    life 0 1 ⇒ lasts 31 0 ⨾
    life 1 1 ⇒ lasts 0 0 ⨾
    refresh 1 1 Global 30 ⇒ done ⨾
    refresh 1 1 Global 4 ⇒ done ⨾
    refresh 1 1 Local 2 ⇒ done ⨾
    life 0 1 ⇒ lasts 31 32 ⨾
    life 1 1 ⇒ lasts 3 32 ⨾
    tick 0 ⇒ stands_still ⨾
    life 0 1 ⇒ lasts 30 32 ⨾
    life 1 1 ⇒ lasts 3 32 ⨾
    tick 1 ⇒ advanced ⨾
    life 1 1 ⇒ lasts 2 31
    clockReads 1 ∷
    -- It makes the tests of a read: 1, 3, 4, 11, 12.
    fresh standard runs
    life 16 0 ⇒ refused 1 ⨾
    life 0 0 ⇒ refused 3 ⨾
    join 0 ⇒ done ⨾
    block 0 ⇒ stands_still ⨾
    life 0 0 ⇒ refused 4 ⨾
    resume 0 ⇒ done ⨾
    make 0 Local 0 4 ⇒ handle 1 ⨾
    life 0 0 ⇒ refused 11 ⨾
    life 0 2 ⇒ refused 11 ⨾
    tick 0 ⇒ advanced ⨾
    life 0 1 ⇒ refused 12
    clockReads 1 ∷
    -- A batch: each object gets its expiration, one that is named twice gets two. 20 comes before 6; one object that was never made gives
    -- 11 before another that is gone gives 12; and then no object gets any.
    fresh standard runs
    join 0 ⇒ done ⨾
    make 0 Local 0 4 ⇒ handle 1 ⨾
    make 0 Local 30 4 ⇒ handle 2 ⨾
    batch 0 Local 1 (1 ∷ 2 ∷ 2 ∷ []) ⇒ done ⨾
    report ⇒ figures 2 0 5 2 ⨾
    life 0 1 ⇒ lasts 2 0 ⨾
    batch 0 Local 31 [] ⇒ refused 20 ⨾
    batch 0 Local 31 (1 ∷ []) ⇒ refused 6 ⨾
    tick 0 ⇒ advanced ⨾
    tick 0 ⇒ advanced ⨾
    batch 0 Local 0 (2 ∷ 1 ∷ []) ⇒ refused 12 ⨾
    batch 0 Local 0 (1 ∷ 2 ∷ 3 ∷ []) ⇒ refused 11 ⨾
    report ⇒ figures 1 0 1 2
    clockReads 2 ∷
    -- At most 32 objects, and room for all of them together.
    fresh standard runs
    join 0 ⇒ done ⨾
    make 0 Local 30 4 ⇒ handle 1 ⨾
    batch 0 Local 0 (replicate 33 1) ⇒ refused 20 ⨾
    batch 0 Local 0 (replicate 32 1) ⇒ done ⨾
    batch 0 Local 0 (replicate 32 1) ⇒ done ⨾
    batch 0 Local 0 (replicate 32 1) ⇒ done ⨾
    batch 0 Local 0 (replicate 32 1) ⇒ done ⨾
    batch 0 Local 0 (replicate 32 1) ⇒ done ⨾
    batch 0 Local 0 (replicate 32 1) ⇒ done ⨾
    batch 0 Local 0 (replicate 32 1) ⇒ done ⨾
    batch 0 Local 0 (replicate 32 1) ⇒ refused 10 ⨾
    report ⇒ figures 1 0 225 1 ⨾
    batch 0 Local 0 (replicate 31 1) ⇒ done ⨾
    report ⇒ figures 1 0 256 1
    clockReads 0 ∷
    -- The last handle is given, and then 8. Its object stands.
    late_start 0 4294967294 runs
    make 0 Local 30 4 ⇒ handle 4294967295 ⨾
    make 0 Local 30 4 ⇒ refused 8 ⨾
    read 0 4294967295 ⇒ zeros 4 ⨾
    report ⇒ figures 1 0 1 4294967295
    clockReads 0 ∷
    -- 1: there is no task 16.
    fresh standard runs
    join 15 ⇒ done ⨾
    join 16 ⇒ refused 1 ⨾
    leave 16 ⇒ refused 1 ⨾
    block 16 ⇒ refused 1 ⨾
    resume 16 ⇒ refused 1 ⨾
    tick 16 ⇒ refused 1 ⨾
    make 16 Local 0 4 ⇒ refused 1
    clockReads 0 ∷
    -- 2: a task that runs or waits does not join.
    fresh standard runs
    join 0 ⇒ done ⨾
    join 0 ⇒ refused 2 ⨾
    block 0 ⇒ stands_still ⨾
    join 0 ⇒ refused 2
    clockReads 0 ∷
    -- 3: an absent task only joins.
    fresh standard runs
    leave 0 ⇒ refused 3 ⨾
    block 0 ⇒ refused 3 ⨾
    resume 0 ⇒ refused 3 ⨾
    tick 0 ⇒ refused 3 ⨾
    make 0 Local 0 4 ⇒ refused 3 ⨾
    read 0 1 ⇒ refused 3
    clockReads 0 ∷
    -- 4: a task that waits neither ticks nor uses an object; 5: one that runs is not resumed.
    fresh standard runs
    join 0 ⇒ done ⨾
    resume 0 ⇒ refused 5 ⨾
    make 0 Local 0 4 ⇒ handle 1 ⨾
    block 0 ⇒ stands_still ⨾
    block 0 ⇒ refused 4 ⨾
    tick 0 ⇒ refused 4 ⨾
    make 0 Local 0 4 ⇒ refused 4 ⨾
    refresh 0 1 Local 0 ⇒ refused 4 ⨾
    read 0 1 ⇒ refused 4 ⨾
    write 0 1 0 [] ⇒ refused 4
    clockReads 0 ∷
    -- 6: extension 31, tested before the length and before the object. A refused make spends no handle.
    fresh standard runs
    join 0 ⇒ done ⨾
    make 0 Local 31 0 ⇒ refused 6 ⨾
    make 0 Global 31 4 ⇒ refused 6 ⨾
    make 0 Global 30 4 ⇒ handle 1 ⨾
    refresh 0 2 Local 31 ⇒ refused 6
    clockReads 0 ∷
    -- 11: no object has handle 0.
    fresh standard runs
    join 0 ⇒ done ⨾
    make 0 Local 0 4 ⇒ handle 1 ⨾
    refresh 0 0 Local 0 ⇒ refused 11 ⨾
    read 0 0 ⇒ refused 11 ⨾
    write 0 0 0 [] ⇒ refused 11
    clockReads 0 ∷
    []

abbrev pub MoreEdgesHold : Type 0
MoreEdgesHold = All RowHolds more_edges
