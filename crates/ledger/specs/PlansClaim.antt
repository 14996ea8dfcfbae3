-- The claims of G (order 13 of document 02), for every plan, every count of steps and all figures; and rows.
use Rattle.std.specs.Prelude.{ℕ, ◌≤◌, ◌<◌, Bool, true, false, not, ◌&&◌, ◌||◌, List, [], ◌∷◌, map, ◌≡◌, length}
use Rattle.lists.specs.Sums.{total}
use Rattle.lists.specs.Tests.{All}
use Rattle.ledger.specs.Limits.{chosen, task_count, standard}
use Rattle.ledger.specs.Numbers.{is_refusal}
use Rattle.ledger.specs.Objects.{Reply}
use Rattle.ledger.specs.Ledger.{Sent, fresh, replies, after_all}
use Rattle.ledger.specs.Plans.{run, calls_of, track_of, figures, turns}
use Rattle.ledger.specs.declared.Call.TheVariants.{Join, Schedule, Make, Refresh, Read, Write, Batch, Release}
use Rattle.ledger.specs.declared.Limits.{Limits}
use Rattle.ledger.specs.declared.Request.{Request}
use Rattle.ledger.specs.declared.Request.TheVariants.{Use, Report, Remaining}
use Rattle.ledger.specs.declared.plans.Channel.{Channel}

-- some call of this sort is refused, of calls with their replies
unfoldable pub some_refused : (Request → Bool) → List Sent → List Reply → Bool
some_refused sort [] ys = false
some_refused sort (s ∷ ss) [] = false
some_refused sort (s ∷ ss) (y ∷ ys) = (sort s.request && is_refusal y.answer) || some_refused sort ss ys

abbrev pub is_make : Request → Bool
is_make (Use (Make task kind extension size prefix)) = true
is_make (Use (Join task share)) = false
is_make (Use (Schedule event task)) = false
is_make (Use (Refresh task kind extension handle)) = false
is_make (Use (Read task handle)) = false
is_make (Use (Write task handle offset)) = false
is_make (Use (Batch task kind extension)) = false
is_make (Use (Release task handle)) = false
is_make Report = false
is_make (Remaining task handle) = false

abbrev pub not_make : Request → Bool
not_make r = not (is_make r)

abbrev pub is_write : Request → Bool
is_write (Use (Write task handle offset)) = true
is_write (Use (Make task kind extension size prefix)) = false
is_write (Use (Join task share)) = false
is_write (Use (Schedule event task)) = false
is_write (Use (Refresh task kind extension handle)) = false
is_write (Use (Read task handle)) = false
is_write (Use (Batch task kind extension)) = false
is_write (Use (Release task handle)) = false
is_write Report = false
is_write (Remaining task handle) = false

-- G13: a row: a plan, and the figures that its channels have after so many steps
pub record PlanRow : Type 0 where
  pub limits : Limits
  pub plan : List Channel
  pub steps : ℕ
  pub figures : List (List ℕ)

infix 68 ◌with◌for◌gives◌
abbrev pub ◌with◌for◌gives◌ : Limits → List Channel → ℕ → List (List ℕ) → PlanRow
limits with plan for steps gives figures = record { limits = limits; plan = plan; steps = steps; figures = figures }

pub record PlanRowHolds (row : PlanRow) : Type 0 where
  pub told : map figures (run row.limits row.plan row.steps).tracks ≡ row.figures

-- the five numbers of a channel as a line has them, and the four figures
abbrev pub channel : (p r s w e : ℕ) → Channel
channel p r s w e = record { period = p; reply = r; silent = s; wait = w; extension = e }

abbrev pub counted : (replies quits refusals polls : ℕ) → List ℕ
counted replies quits refusals polls = replies ∷ quits ∷ refusals ∷ polls ∷ []

unfoldable pub plan_rows : List PlanRow
plan_rows =
    -- 1. Replies, then silence: a channel that never gives up keeps its last poll open, one that does goes on. A step that ends a poll
    -- begins none.
    standard with (channel 1 1 4 0 2 ∷ channel 1 1 4 2 2 ∷ channel 3 2 65535 0 30 ∷ [])
    for 12 gives (counted 2 0 0 1 ∷ counted 2 2 0 1 ∷ counted 4 0 0 0 ∷ []) ∷
    -- 2. A reply and a give-up in the same step are a reply, and a give-up from step s on; what counts is the step of the reply, not that
    -- in which the poll began.
    standard with (channel 1 2 65535 2 0 ∷ channel 1 2 4 2 0 ∷ channel 4 3 3 3 0 ∷ channel 4 3 4 3 0 ∷ [])
    for 7 gives (counted 2 0 0 1 ∷ counted 1 1 0 1 ∷ counted 0 1 0 1 ∷ counted 1 0 0 1 ∷ []) ∷
    -- 3. One block. Channel 0 is first in every step. A refused make ticks, so that the object of the last poll lapses; a channel that
    -- rests does not tick.
    chosen 1 1 256 30 with (channel 3 1 65535 0 3 ∷ channel 2 1 65535 0 0 ∷ [])
    for 16 gives (counted 2 0 4 0 ∷ counted 1 0 7 0 ∷ []) ∷
    -- 4. The site's extension is shorter than the plan's: every make is refused, by 6.
    chosen 64 32 256 4 with (channel 1 1 9 0 5 ∷ channel 2 1 9 0 4 ∷ [])
    for 6 gives (counted 0 0 6 0 ∷ counted 3 0 0 0 ∷ []) ∷
    -- 5. One expiration: by 10.
    chosen 64 32 1 30 with (channel 1 2 9 0 1 ∷ channel 1 1 9 0 0 ∷ [])
    for 10 gives (counted 2 0 4 0 ∷ counted 1 0 6 1 ∷ []) ∷
    -- 6. Four blocks and three channels, each with its last objects.
    chosen 4 1 256 30 with (channel 1 1 65535 0 5 ∷ channel 1 1 65535 0 5 ∷ channel 1 1 65535 0 5 ∷ [])
    for 9 gives (counted 2 0 4 1 ∷ counted 2 0 5 0 ∷ counted 2 0 5 0 ∷ []) ∷
    []

pub record Plans : Type 0 where
  -- G9: the calls of a run are a list from fresh, and leave its ledger
  pub from : (limits : Limits) (plan : List Channel) (steps : ℕ)
      → after_all (fresh limits) (calls_of limits plan steps) ≡ (run limits plan steps).ledger
  -- G11: the turns that a channel began equal the sum of its four figures
  pub counted : (limits : Limits) (plan : List Channel) (steps i : ℕ) → i < length plan
      → turns limits plan steps i ≡ total (figures (track_of (run limits plan steps) i))
  -- G12: no write of a reply is refused,
  pub written : (limits : Limits) (plan : List Channel) → length plan ≤ task_count → (steps : ℕ)
      → some_refused is_write (calls_of limits plan steps) (replies (fresh limits) (calls_of limits plan steps)) ≡ false
  -- nor any other call but a make
  pub accepted : (limits : Limits) (plan : List Channel) → length plan ≤ task_count → (steps : ℕ)
      → some_refused not_make (calls_of limits plan steps) (replies (fresh limits) (calls_of limits plan steps)) ≡ false
  pub rows : All PlanRowHolds plan_rows
