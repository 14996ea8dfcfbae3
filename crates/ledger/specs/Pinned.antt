-- The claim of E22 to E24 (order 5 of document 02), over every list of calls: an object that was made pinned (02: kept) stands until a
-- release of it is accepted; and five rows.
use Rattle.std.specs.Prelude.{ℕ, Bool, true, false, ◌||◌, List, [], ◌∷◌, ◌++◌, ◌≡◌, eqb, length}
use Rattle.lists.specs.Tests.{All}
use Rattle.ledger.specs.Limits.{standard}
use Rattle.ledger.specs.Objects.{stands}
use Rattle.ledger.specs.Ledger.{Ledger, Sent, fresh, reply, after_sent, after_all}
use Rattle.ledger.specs.Outlives.{Move, neither, joins, happens, releases, move_in}
use Rattle.ledger.specs.Rows.{send, join, leave, block, resume, tick, make, refresh, read, batch, release, report, life, refused, done, stands_still, advanced, handle, zeros, figures, lasts, ◌⇒◌, ◌⨾◌, ◌times◌, Row, ◌runs◌clockReads◌, RowHolds}
use Rattle.ledger.specs.declared.Kind.TheVariants.{Local, Global, Pinned}
use Rattle.ledger.specs.declared.Answer.TheVariants.{Refused, Handle}
use Rattle.ledger.specs.declared.Call.TheVariants.{Make, Read}
use Rattle.ledger.specs.declared.Limits.{Limits}
use Rattle.ledger.specs.declared.Refusal.TheVariants.{ObjectGone}

-- A make of kind pinned, after any calls from fresh on, whatever the figures, that is answered with the object's handle
pub record PinnedMake : Type 0 where
  pub limits : Limits
  pub earlier : List Sent
  pub task : ℕ
  pub extension : ℕ
  pub size : ℕ
  pub prefix : ℕ
  pub bytes : List ℕ
  pub object : ℕ
  pub answered : (reply (after_all (fresh limits) earlier) (Make task Pinned extension size prefix) bytes).answer ≡ Handle object

abbrev pub made_by : PinnedMake → Sent
made_by p = send (Make p.task Pinned p.extension p.size p.prefix) p.bytes

abbrev pub when_made : PinnedMake → Ledger
when_made p = after_sent (after_all (fresh p.limits) p.earlier) (made_by p)

-- some call of a list is a release of this object, and accepted
abbrev pub is_release_of : ℕ → Move → Bool
is_release_of object neither = false
is_release_of object (joins task share) = false
is_release_of object (happens event task) = false
is_release_of object (releases other) = eqb object other

unfoldable pub is_released : ℕ → Ledger → List Sent → Bool
is_released object L [] = false
is_released object L (s ∷ ss) = is_release_of object (move_in L s.request s.bytes) || is_released object (after_sent L s) ss

-- E25: whatever is called then but a release of it, the object stands, and no read of it is answered 12.
abbrev pub StandsUntilReleased : Type 0
StandsUntilReleased =
    (p : PinnedMake) (ss : List Sent) → is_released p.object (when_made p) ss ≡ false
    → (stands (after_all (when_made p) ss).expirations p.object ≡ true)
    × ((task : ℕ) → (reply (after_all (when_made p) ss) (Read task p.object) []).answer ≡ Refused ObjectGone → ⊥)

-- Calls none of which is such a release of object 1: ticks, the make and the release of another object, and one of it that is refused, task
-- 1 being absent
unfoldable pub sparing : List Sent
sparing = tick 0 ∷ make 0 Pinned 0 4 ∷ release 0 2 ∷ release 1 1 ∷ tick 0 ∷ []

-- The claim is not empty, and ends where it says: there is such a make of object 1, which stands after these calls, and after one more, its
-- release, does not.
pub record PinnedApplies : Type 0 where
  pub made : PinnedMake
  pub object : made.object ≡ 1
  pub unreleased : is_released 1 (when_made made) sparing ≡ false
  pub standing : stands (after_all (when_made made) sparing).expirations 1 ≡ true
  pub released : is_released 1 (when_made made) (sparing ++ (release 0 1 ∷ [])) ≡ true
  pub gone : stands (after_all (when_made made) (sparing ++ (release 0 1 ∷ []))).expirations 1 ≡ false

unfoldable pub pinned_edges : List Row
pinned_edges =
    -- 1. A pinned object outlasts more ticks and advances than any extension gives, and the leave of its maker. Another task releases it:
    -- its block and its expiration are free in the same call, and a second release finds it gone.
    fresh standard runs
    join 0 ⇒ done ⨾
    join 1 ⇒ done ⨾
    make 0 Pinned 0 4 ⇒ handle 1 ⨾
    40 times (tick 0 ⇒ stands_still ⨾ tick 1 ⇒ advanced) ⨾
    leave 0 ⇒ stands_still ⨾
    tick 1 ⇒ advanced ⨾
    read 1 1 ⇒ zeros 4 ⨾
    report ⇒ figures 1 0 1 1 ⨾
    release 1 1 ⇒ done ⨾
    report ⇒ figures 0 0 0 1 ⨾
    release 1 1 ⇒ refused 12 ⨾
    read 1 1 ⇒ refused 12
    clockReads 0 ∷
    -- 2. With another expiration beside the pinned one the object stands on after its release, and is no longer pinned.
    fresh standard runs
    join 0 ⇒ done ⨾
    make 0 Pinned 0 4 ⇒ handle 1 ⨾
    make 0 Pinned 0 4 ⇒ handle 2 ⨾
    refresh 0 1 Local 1 ⇒ done ⨾
    tick 0 ⇒ advanced ⨾
    release 0 1 ⇒ done ⨾
    release 0 1 ⇒ refused 22 ⨾
    read 0 1 ⇒ zeros 4 ⨾
    report ⇒ figures 2 0 2 2 ⨾
    tick 0 ⇒ advanced ⨾
    read 0 1 ⇒ refused 12 ⨾
    release 0 2 ⇒ done ⨾
    report ⇒ figures 0 0 0 2
    clockReads 2 ∷
    -- 3. It has no extension: else 6, tested before the length. Only a make sets one: 21 comes before 6, and in a batch after 20.
    fresh standard runs
    join 0 ⇒ done ⨾
    make 0 Pinned 1 0 ⇒ refused 6 ⨾
    make 0 Pinned 0 0 ⇒ refused 7 ⨾
    make 0 Pinned 0 256 ⇒ handle 1 ⨾
    refresh 0 2 Pinned 31 ⇒ refused 21 ⨾
    refresh 0 1 Pinned 0 ⇒ refused 21 ⨾
    batch 0 Pinned 31 [] ⇒ refused 20 ⨾
    batch 0 Pinned 31 (2 ∷ []) ⇒ refused 21 ⨾
    batch 0 Pinned 0 (1 ∷ []) ⇒ refused 21 ⨾
    report ⇒ figures 0 1 1 1
    clockReads 0 ∷
    -- 4. A release makes the tests 1, 3, 4, 11, 12, 22.
    fresh standard runs
    release 16 0 ⇒ refused 1 ⨾
    release 0 0 ⇒ refused 3 ⨾
    join 0 ⇒ done ⨾
    block 0 ⇒ stands_still ⨾
    release 0 0 ⇒ refused 4 ⨾
    resume 0 ⇒ done ⨾
    make 0 Local 0 4 ⇒ handle 1 ⨾
    release 0 0 ⇒ refused 11 ⨾
    release 0 2 ⇒ refused 11 ⨾
    release 0 1 ⇒ refused 22 ⨾
    tick 0 ⇒ advanced ⨾
    release 0 1 ⇒ refused 12
    clockReads 1 ∷
    -- 5. It adds nothing to life life.
    fresh standard runs
    join 0 ⇒ done ⨾
    make 0 Pinned 0 4 ⇒ handle 1 ⨾
    life 0 1 ⇒ lasts 0 0 ⨾
    refresh 0 1 Local 0 ⇒ done ⨾
    refresh 0 1 Global 0 ⇒ done ⨾
    life 0 1 ⇒ lasts 1 2 ⨾
    tick 0 ⇒ advanced ⨾
    tick 0 ⇒ advanced ⨾
    life 0 1 ⇒ lasts 0 0
    clockReads 2 ∷
    []

pub record PinnedClaim : Type 0 where
  pub until : StandsUntilReleased
  pub applies : PinnedApplies
  pub five : length pinned_edges ≡ 5
  pub rows : All RowHolds pinned_edges
