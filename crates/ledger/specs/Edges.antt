-- D7: the thirteen edges of document 01, rows of one table that carries one claim over all rows.
use Rattle.std.specs.Prelude.{List, [], ◌∷◌, ◌≡◌, length}
use Rattle.lists.specs.Tests.{All}
use Rattle.ledger.specs.Limits.{standard}
use Rattle.ledger.specs.Ledger.{fresh}
use Rattle.ledger.specs.Rows.{join, leave, block, tick, make, refresh, read, write, report, refused, done, stands_still, advanced, handle, zeros, figures, ◌⇒◌, ◌⨾◌, ◌times◌, make_small, Row, ◌runs◌clockReads◌, RowHolds, late_start}
use Rattle.ledger.specs.declared.Kind.TheVariants.{Local, Global}

unfoldable pub edges : List Row
edges =
    -- 1. A local expiration of extension 0 ends with the next tick of its setter (E4, E8). Another's tick does not end it.
    fresh standard runs
    join 0 ⇒ done ⨾
    join 1 ⇒ done ⨾
    make 0 Local 0 4 ⇒ handle 1 ⨾
    tick 1 ⇒ stands_still ⨾
    read 0 1 ⇒ zeros 4 ⨾
    tick 0 ⇒ advanced ⨾
    read 0 1 ⇒ refused 12
    clockReads 1 ∷
    -- 2. One of extension 30 outlasts 30 ticks, and not 31 (E4).
    fresh standard runs
    join 0 ⇒ done ⨾
    make 0 Local 30 4 ⇒ handle 1 ⨾
    read 0 1 ⇒ zeros 4 ⨾
    30 times tick 0 ⇒ advanced ⨾
    read 0 1 ⇒ zeros 4 ⨾
    tick 0 ⇒ advanced ⨾
    read 0 1 ⇒ refused 12
    clockReads 31 ∷
    -- 3. A global one of extension 0 outlasts one advance, and not two (E5, E11).
    fresh standard runs
    join 0 ⇒ done ⨾
    make 0 Global 0 4 ⇒ handle 1 ⨾
    read 0 1 ⇒ zeros 4 ⨾
    tick 0 ⇒ advanced ⨾
    read 0 1 ⇒ zeros 4 ⨾
    tick 0 ⇒ advanced ⨾
    read 0 1 ⇒ refused 12
    clockReads 2 ∷
    -- 4. Of two tasks both must have ticked for an advance (T16). The next tick of 0 makes none: no task is ticked after it (T18).
    fresh standard runs
    join 0 ⇒ done ⨾
    join 1 ⇒ done ⨾
    2 times tick 0 ⇒ stands_still ⨾
    tick 1 ⇒ advanced ⨾
    tick 0 ⇒ stands_still
    clockReads 3 ∷
    -- 5. A block advances where all that still run have ticked (T14, T15). So does a leave, and either ends the global ones that are due
    -- (E11).
    fresh standard runs
    join 0 ⇒ done ⨾
    make 0 Global 0 4 ⇒ handle 1 ⨾
    tick 0 ⇒ advanced ⨾
    make 0 Global 0 4 ⇒ handle 2 ⨾
    join 1 ⇒ done ⨾
    join 2 ⇒ done ⨾
    block 2 ⇒ stands_still ⨾
    tick 0 ⇒ stands_still ⨾
    block 1 ⇒ advanced ⨾
    read 0 1 ⇒ refused 12 ⨾
    join 3 ⇒ done ⨾
    tick 0 ⇒ stands_still ⨾
    read 0 2 ⇒ zeros 4 ⨾
    leave 3 ⇒ advanced ⨾
    read 0 2 ⇒ refused 12
    clockReads 3 ∷
    -- 6. A block after which no task runs does not advance (T16). Task 1 waits and is not counted.
    fresh standard runs
    join 0 ⇒ done ⨾
    join 1 ⇒ done ⨾
    block 1 ⇒ stands_still ⨾
    tick 0 ⇒ advanced ⨾
    block 0 ⇒ stands_still
    clockReads 1 ∷
    -- 7. Where small ends and large begins (O7), and which lengths there are (R7).
    fresh standard runs
    join 0 ⇒ done ⨾
    make 0 Local 30 32 ⇒ handle 1 ⨾
    report ⇒ figures 1 0 1 1 ⨾
    make 0 Local 30 33 ⇒ handle 2 ⨾
    report ⇒ figures 1 1 2 2 ⨾
    make 0 Local 30 0 ⇒ refused 7 ⨾
    make 0 Local 30 257 ⇒ refused 7
    clockReads 0 ∷
    -- 8. A full small store gives 9, and the large one still has room (O8, R9). With that 256 expirations stand, and 9 is seen to come
    -- before 10 (R40). (The refreshes come early: with 65 objects standing they would take the check past its step limit.)
    fresh standard runs
    join 0 ⇒ done ⨾
    make_small 1 1 ⨾
    191 times refresh 0 1 Local 30 ⇒ done ⨾
    make_small 63 2 ⨾
    report ⇒ figures 64 0 255 64 ⨾
    make 0 Local 30 32 ⇒ refused 9 ⨾
    make 0 Local 30 33 ⇒ handle 65 ⨾
    make 0 Local 30 32 ⇒ refused 9 ⨾
    make 0 Local 30 33 ⇒ refused 10
    clockReads 0 ∷
    -- 9. Expirations have room for 256 (R10), and for one more as soon as one has ended (E14).
    fresh standard runs
    join 0 ⇒ done ⨾
    make 0 Local 0 4 ⇒ handle 1 ⨾
    255 times refresh 0 1 Global 30 ⇒ done ⨾
    report ⇒ figures 1 0 256 1 ⨾
    refresh 0 1 Global 30 ⇒ refused 10 ⨾
    tick 0 ⇒ advanced ⨾
    report ⇒ figures 1 0 255 1 ⨾
    refresh 0 1 Global 30 ⇒ done
    clockReads 1 ∷
    -- 10. At the very end of an object a write of nothing is accepted, and one of a byte is not (O22, R13).
    fresh standard runs
    join 0 ⇒ done ⨾
    make 0 Local 0 4 ⇒ handle 1 ⨾
    write 0 1 4 [] ⇒ done ⨾
    write 0 1 4 (7 ∷ []) ⇒ refused 13 ⨾
    read 0 1 ⇒ zeros 4
    clockReads 0 ∷
    -- 11. A leaver's local expirations end (E9); an object that has another's as well stands on (O2).
    fresh standard runs
    join 0 ⇒ done ⨾
    join 1 ⇒ done ⨾
    make 1 Local 30 4 ⇒ handle 1 ⨾
    make 1 Local 30 4 ⇒ handle 2 ⨾
    refresh 0 2 Local 30 ⇒ done ⨾
    leave 1 ⇒ stands_still ⨾
    read 0 1 ⇒ refused 12 ⨾
    read 0 2 ⇒ zeros 4 ⨾
    report ⇒ figures 1 0 1 2
    clockReads 0 ∷
    -- 12. 12 is tested before 13, and 11 before both (R43).
    fresh standard runs
    join 0 ⇒ done ⨾
    make 0 Local 0 4 ⇒ handle 1 ⨾
    tick 0 ⇒ advanced ⨾
    write 0 1 4 (7 ∷ []) ⇒ refused 12 ⨾
    write 0 2 4 (7 ∷ []) ⇒ refused 11
    clockReads 1 ∷
    -- 13. Edge 1 where the record's clock goes on from its last value to 0 (T8).
    late_start 4294967295 0 runs
    make 0 Local 0 4 ⇒ handle 1 ⨾
    read 0 1 ⇒ zeros 4 ⨾
    tick 0 ⇒ advanced ⨾
    read 0 1 ⇒ refused 12
    clockReads 0 ∷
    []

-- The claim, over all thirteen rows.
pub record EdgesHold : Type 0 where
  pub thirteen : length edges ≡ 13
  pub rows : All RowHolds edges
