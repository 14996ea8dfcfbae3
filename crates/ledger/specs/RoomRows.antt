-- Rows of the rules K: scripts with the answers that a pool gives them as they are written, and the room that they need.
use Rattle.std.specs.Prelude.{ℕ, zero, suc, List, [], ◌∷◌, map, ◌≡◌, length}
use Rattle.lists.specs.Tests.{All}
use Rattle.ledger.specs.Limits.{chosen, standard}
use Rattle.ledger.specs.Ledger.{Sent, fresh, replies}
use Rattle.ledger.specs.Rows.{join, join_with, share_of, view, tick, make, make_with, refresh, batch, release, report, life, refused, done, advanced, handle, figures, numbers, ◌⇒◌, ◌⨾◌, Line}
use Rattle.ledger.specs.Room.{peaks, PeaksFit}
use Rattle.ledger.specs.declared.Kind.TheVariants.{Local, Global, Pinned}
use Rattle.ledger.specs.declared.Limits.{Limits}
use Rattle.ledger.specs.declared.Peaks.{Peaks}

-- a script, the figures of the pool that answers it, and its peaks
pub record Need : Type 0 where
  pub limits : Limits
  pub lines : List Line
  pub room : Peaks

infix 68 ◌within◌needs◌&◌&◌
abbrev pub ◌within◌needs◌&◌&◌ : List Line → Limits → ℕ → ℕ → ℕ → Need
lines within limits needs small & large & expirations =
    record { limits = limits; lines = lines; room = record { small = small; large = large; expirations = expirations } }

abbrev pub script : Need → List Sent
script need = map (λ (l : Line). l.sent) need.lines

pub record NeedHolds (need : Need) : Type 0 where
  pub answers : map numbers (replies (fresh need.limits) (script need)) ≡ map (λ (l : Line). l.answer) need.lines
  pub room : peaks need.limits (script need) ≡ need.room

-- task 0 makes n objects of one pinned byte
abbrev pub pin_many : ℕ → ℕ → List Line
pin_many zero first = []
pin_many (suc n) first = make 0 Pinned 0 1 ⇒ handle first ⨾ pin_many n (suc first)

unfoldable pub room_rows : List Need
room_rows =
    -- 1. A limit of 0 gives 26 where the script needs one block; read as 255 it is no bound.
    join_with 0 (share_of 0 0 0 0) ⇒ done ⨾
    make 0 Local 0 1 ⇒ refused 26
    within standard needs 1 & 0 & 1 ∷
    -- 2. All small blocks are held back for another task, and the pool answers 9.
    join_with 0 (share_of 64 255 0 255) ⇒ done ⨾
    join 1 ⇒ done ⨾
    make 1 Local 0 1 ⇒ refused 9
    within standard needs 1 & 0 & 1 ∷
    -- 3. The other way: 65 objects do not fit, and the pool as the script is written meets neither 9 nor 10.
    join_with 0 (share_of 0 64 0 0) ⇒ done ⨾
    pin_many 64 1 ⨾
    make 0 Pinned 0 1 ⇒ refused 26
    within standard needs 65 & 0 & 65 ∷
    -- 4. 24 is never given: the task joins.
    join_with 0 (share_of 2 1 0 0) ⇒ refused 24 ⨾
    make 0 Local 0 33 ⇒ refused 3
    within standard needs 0 & 1 & 1 ∷
    -- 5. 12 is given: a refresh of what is gone sets nothing.
    join 0 ⇒ done ⨾
    make 0 Local 0 1 ⇒ handle 1 ⨾
    tick 0 ⇒ advanced ⨾
    refresh 0 1 Local 0 ⇒ refused 12 ⨾
    make 0 Local 0 1 ⇒ handle 2
    within standard needs 1 & 0 & 1 ∷
    -- 6. Each peak has its own moment. A batch of a gone one sets none, an object that is named twice gets two, and what a refused make
    -- asked for does not count.
    join 0 ⇒ done ⨾
    make 0 Global 0 32 ⇒ handle 1 ⨾
    make 0 Local 0 32 ⇒ handle 2 ⨾
    batch 0 Local 0 (1 ∷ 1 ∷ 2 ∷ []) ⇒ done ⨾
    make 0 Local 31 33 ⇒ refused 6 ⨾
    make 0 Local 0 257 ⇒ refused 7 ⨾
    make_with 0 Local 0 33 34 ⇒ refused 28 ⨾
    tick 0 ⇒ advanced ⨾
    batch 0 Local 0 (1 ∷ 2 ∷ []) ⇒ refused 12 ⨾
    tick 0 ⇒ advanced ⨾
    make 0 Pinned 0 33 ⇒ handle 3 ⨾
    view 1 ⇒ done ⨾
    make 1 Local 0 33 ⇒ refused 27 ⨾
    release 0 3 ⇒ done ⨾
    report ⇒ figures 0 0 0 3
    within standard needs 2 & 1 & 5 ∷
    -- 7. A script of no call,
    []
    within standard needs 0 & 0 & 0 ∷
    -- 8. and one whose calls leave nothing.
    report ⇒ figures 0 0 0 0 ⨾
    make 0 Local 0 1 ⇒ refused 3 ⨾
    life 16 1 ⇒ refused 1
    within standard needs 0 & 0 & 0 ∷
    -- 9. A pool that is just large enough, in each figure,
    join 0 ⇒ done ⨾
    make 0 Pinned 0 32 ⇒ handle 1 ⨾
    make 0 Pinned 0 33 ⇒ handle 2
    within chosen 1 1 2 0 needs 1 & 1 & 2 ∷
    -- 10. and one that is not: by a small block,
    join 0 ⇒ done ⨾
    make 0 Pinned 0 32 ⇒ handle 1 ⨾
    make 0 Pinned 0 32 ⇒ refused 9
    within chosen 1 1 2 0 needs 2 & 0 & 2 ∷
    -- 11. by a large one,
    join 0 ⇒ done ⨾
    make 0 Pinned 0 33 ⇒ handle 1 ⨾
    make 0 Pinned 0 33 ⇒ refused 9
    within chosen 1 1 2 0 needs 0 & 2 & 2 ∷
    -- 12. by an expiration. The largest extension is the pool's: 6 is given.
    join 0 ⇒ done ⨾
    make 0 Local 0 32 ⇒ handle 1 ⨾
    refresh 0 1 Local 1 ⇒ refused 6 ⨾
    refresh 0 1 Local 0 ⇒ done ⨾
    refresh 0 1 Global 0 ⇒ refused 10
    within chosen 1 1 2 0 needs 1 & 0 & 3 ∷
    []

pub record Room : Type 0 where
  pub fit : PeaksFit
  pub twelve : length room_rows ≡ 12
  pub rows : All NeedHolds room_rows
