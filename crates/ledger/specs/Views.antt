-- The rules V (order 10 of document 02) on lists of display_calls that are written out: seven rows, and two lists with one veil.
use Rattle.std.specs.Prelude.{ℕ, List, [], ◌∷◌, ◌≢◌, ◌≡◌, length}
use Rattle.lists.specs.Tests.{All}
use Rattle.ledger.specs.Limits.{standard}
use Rattle.ledger.specs.Ledger.{Ledger, Sent, fresh, replies, after_all}
use Rattle.ledger.specs.Noticed.{disturbed_in}
use Rattle.ledger.specs.Veil.{veiled_in, veils, to_viewers}
use Rattle.ledger.specs.Rows.{join, join_with, share_of, view, leave, block, resume, tick, make, make_with, refresh, read, write, batch, release, report, life, refused, done, stands_still, advanced, handle, contents, zeros, figures, lasts, ◌⇒◌, ◌⨾◌, Row, ◌runs◌clockReads◌, RowHolds, late_start}
use Rattle.ledger.specs.declared.Kind.TheVariants.{Local, Global, Pinned}

-- task 0, viewer 1, and object 1 of four bytes, two of which are its prefix (02: head), and these two beyond it
abbrev pub headed : ℕ → ℕ → Ledger
headed x y = after_all (fresh standard) (join 0 ∷ view 1 ∷ make_with 0 Local 30 4 2 ∷ write 0 1 0 (1 ∷ 2 ∷ x ∷ y ∷ []) ∷ [])

unfoldable pub one_head : Ledger
one_head = headed 3 4

unfoldable pub viewer_edges : List Row
viewer_edges =
    -- 1. A viewer is given the prefix, the maker all; a write across the end of the prefix shows in it as far as it lies there. A prefix
    -- may be of no byte or of all.
    one_head runs
    read 1 1 ⇒ contents (1 ∷ 2 ∷ []) ⨾
    read 0 1 ⇒ contents (1 ∷ 2 ∷ 3 ∷ 4 ∷ []) ⨾
    write 0 1 1 (7 ∷ 8 ∷ []) ⇒ done ⨾
    read 1 1 ⇒ contents (1 ∷ 7 ∷ []) ⨾
    make 0 Local 30 4 ⇒ handle 2 ⨾
    read 1 2 ⇒ contents [] ⨾
    make_with 0 Local 30 4 4 ⇒ handle 3 ⨾
    read 1 3 ⇒ zeros 4
    clockReads 0 ∷
    -- 2. 28 goes by the length, and not by the block; 6 and 7 come before it, 26 after it (8: row 7). It spends no handle.
    fresh standard runs
    join_with 0 (share_of 0 0 0 255) ⇒ done ⨾
    make_with 0 Local 31 4 5 ⇒ refused 6 ⨾
    make_with 0 Local 30 0 1 ⇒ refused 7 ⨾
    make_with 0 Local 30 257 258 ⇒ refused 7 ⨾
    make_with 0 Local 30 4 5 ⇒ refused 28 ⨾
    make_with 0 Local 30 4 4 ⇒ refused 26 ⨾
    make_with 0 Local 30 33 34 ⇒ refused 28 ⨾
    make_with 0 Local 30 256 256 ⇒ handle 1
    clockReads 0 ∷
    -- 3. All but leave, read, life life and report is 27 for a viewer, straight after its state: before 6, 20, 21 and 11. It is there
    -- (2) and does not wait (5).
    fresh standard runs
    view 0 ⇒ done ⨾
    view 0 ⇒ refused 2 ⨾
    join 0 ⇒ refused 2 ⨾
    resume 0 ⇒ refused 5 ⨾
    block 0 ⇒ refused 27 ⨾
    tick 0 ⇒ refused 27 ⨾
    make_with 0 Local 31 0 9 ⇒ refused 27 ⨾
    refresh 0 0 Pinned 31 ⇒ refused 27 ⨾
    write 0 0 0 [] ⇒ refused 27 ⨾
    batch 0 Local 0 [] ⇒ refused 27 ⨾
    release 0 0 ⇒ refused 27 ⨾
    read 0 0 ⇒ refused 11 ⨾
    life 0 0 ⇒ refused 11 ⨾
    report ⇒ figures 0 0 0 0 ⨾
    leave 0 ⇒ stands_still ⨾
    view 16 ⇒ refused 1 ⨾
    view 0 ⇒ done
    clockReads 0 ∷
    -- 4. The advance test counts no viewer: beside two of them the tick of 0 advances, and once 0 has left nothing does. Nor does a
    -- viewer's leave.
    fresh standard runs
    join 0 ⇒ done ⨾
    view 1 ⇒ done ⨾
    tick 0 ⇒ advanced ⨾
    view 2 ⇒ done ⨾
    tick 0 ⇒ advanced ⨾
    leave 1 ⇒ stands_still ⨾
    leave 0 ⇒ stands_still ⨾
    leave 2 ⇒ stands_still
    clockReads 0 ∷
    -- 5. A viewer has no reserve: all blocks are another's, and what its number made before counts for nobody.
    fresh standard runs
    join_with 0 (share_of 0 255 32 32) ⇒ done ⨾
    make 0 Pinned 0 33 ⇒ handle 1 ⨾
    leave 0 ⇒ stands_still ⨾
    view 0 ⇒ done ⨾
    join_with 1 (share_of 64 64 31 31) ⇒ done ⨾
    read 0 1 ⇒ contents []
    clockReads 0 ∷
    -- 6. A byte that is changed from outside beyond the prefix is 23 for a viewer too; its write is 27 still.
    disturbed_in 1 3 9 one_head runs
    read 1 1 ⇒ refused 23 ⨾
    write 1 1 0 [] ⇒ refused 27 ⨾
    read 0 1 ⇒ refused 23 ⨾
    life 1 1 ⇒ lasts 0 0
    clockReads 0 ∷
    -- 7. 28 comes before 8.
    late_start 0 4294967295 runs
    make_with 0 Local 30 4 5 ⇒ refused 28 ⨾
    make_with 0 Local 30 4 4 ⇒ refused 8
    clockReads 0 ∷
    []

-- two lists that differ in bytes beyond prefixes, one of them in a write that is refused
abbrev pub display_calls : ℕ → ℕ → ℕ → List Sent
display_calls x y z =
    join 0 ∷ view 1 ∷ make_with 0 Global 0 4 2 ∷ write 0 1 1 (5 ∷ x ∷ y ∷ []) ∷ read 1 1 ∷ read 0 1 ∷ write 0 2 0 (z ∷ []) ∷ tick 0 ∷ tick 0 ∷ report ∷ life 1 1 ∷ []

pub record Views : Type 0 where
  pub seven : length viewer_edges ≡ 7
  pub rows : All RowHolds viewer_edges
  -- their veil is one, and they are not answered alike: the claim of the veil is of something
  pub veil : veils (fresh standard) (display_calls 6 7 8) ≡ veils (fresh standard) (display_calls 9 10 11)
  pub apart : replies (fresh standard) (display_calls 6 7 8) ≢ replies (fresh standard) (display_calls 9 10 11)
  -- each has three answers to viewers and reports
  pub told : length (to_viewers (fresh standard) (display_calls 6 7 8) (replies (fresh standard) (display_calls 6 7 8))) ≡ 3
  -- two ledgers from fresh on that have one veil and are not the same, as the claim asks for two; by D8 they keep what it asks
  pub two_ledgers : veiled_in (headed 3 4) ≡ veiled_in (headed 8 9)
  pub two_reads : replies (headed 3 4) (read 0 1 ∷ []) ≢ replies (headed 8 9) (read 0 1 ∷ [])
  -- after a change from outside, which is under the veil, a viewer sees another answer: no ledger from fresh on is such
  pub under : veiled_in (disturbed_in 1 3 9 one_head) ≡ veiled_in one_head
  pub outside : replies (disturbed_in 1 3 9 one_head) (read 1 1 ∷ []) ≢ replies one_head (read 1 1 ∷ [])
