-- The facts of a record with its stores that the rules R look at: its verdict is that of the ledger's tests by these.
use Rattle.std.specs.Prelude.{ℕ, ◌+◌, Bool, true, false, cond, not, ◌&&◌, ◌||◌, List, [], ◌∷◌, eqb, leb, ltb}
use Rattle.lists.specs.Tests.{any}
use Rattle.ledger.specs.Refusals.{Facts, Test, no_such_task, task_absent, task_waiting, only_views, handle_not_given, object_gone, verdict, as_verdict, Verdict}
use Rattle.ledger.specs.Shares.{blocks_in}
use Rattle.ledger.specs.declared.Limits.{Limits}
use Rattle.ledger.specs.declared.Share.{Share}
use Rattle.stores.specs.Places.{sum_at}
use Rattle.record.specs.Shares.{taken_but, is_limited}
use Rattle.record.specs.WellFormed.{is_pin_on}
use Rattle.record.specs.Tables.{BlockEntry, Tables, block_entries}
use Rattle.steps.specs.Objects.{place_of, block_of, state_in, standing_in}

-- an object has no block at this place, which was sought by its handle: 0 is no object's, though free blocks have it
abbrev pub is_gone : ℕ → ℕ → Bool
is_gone handle place = eqb handle 0 || leb block_entries place

abbrev pub is_here : List BlockEntry → ℕ → Bool
is_here blocks handle = not (is_gone handle (place_of handle blocks))

-- 9: of a store no block is left for the task; 25: too few for this reserve
abbrev pub is_filled : Bool → Limits → List Share → List BlockEntry → ℕ → Bool
is_filled store limits shares blocks task = leb (blocks_in limits store) (taken_but store shares blocks task)

abbrev pub is_scant : Bool → Limits → List Share → List BlockEntry → ℕ → ℕ → Bool
is_scant store limits shares blocks task reserve = ltb (blocks_in limits store) (taken_but store shares blocks task + reserve)

-- whether the bytes of an object's block add up to the sum in its entry
abbrev pub is_summed : List ℕ → List ℕ → List BlockEntry → ℕ → Bool
is_summed small large blocks handle =
    not (is_here blocks handle) || eqb (sum_at small large (place_of handle blocks)) (block_of handle blocks).sum

-- The rules R look at these facts of a record, by whether the bytes of its objects add up;
abbrev pub facts_by : (ℕ → Bool) → Tables → Facts
facts_by is_intact p =
    record {
      limits = p.limits;
      state = state_in p.tasks;
      given = p.given;
      size = λ (handle : ℕ). cond (is_here p.blocks handle) (block_of handle p.blocks).length 0;
      is_intact = is_intact;
      is_pinned = λ (handle : ℕ). is_here p.blocks handle && any (is_pin_on (place_of handle p.blocks)) p.expirations;
      stands = is_here p.blocks;
      standing = standing_in p.expirations;
      is_at_limit = λ (store : Bool) (task : ℕ). is_limited store p.shares p.blocks task;
      is_full = λ (store : Bool) (task : ℕ). is_filled store p.limits p.shares p.blocks task;
      is_short = λ (task : ℕ) (share : Share).
          is_scant true p.limits p.shares p.blocks task share.small.reserve
          || is_scant false p.limits p.shares p.blocks task share.large.reserve;
    }

-- and so with its stores
abbrev pub facts_with : List ℕ → List ℕ → Tables → Facts
facts_with small large p = facts_by (is_summed small large p.blocks) p

-- 1, 3, 4, and 27 where the task is to act, which a viewer may not; and the tests after them
abbrev pub task_tests : Bool → ℕ → List Test → List Test
task_tests true task ts = no_such_task task ∷ task_absent task ∷ task_waiting task ∷ only_views task ∷ ts
task_tests false task ts = no_such_task task ∷ task_absent task ∷ task_waiting task ∷ ts

-- 11, 12
abbrev pub handle_tests : ℕ → List Test
handle_tests handle = handle_not_given handle ∷ object_gone handle ∷ []

-- R32: the record's verdict by a list of tests, with its stores where one of them looks at bytes
unfoldable pub verdict_with : List ℕ → List ℕ → List Test → Tables → Verdict
verdict_with small large tests p = as_verdict (verdict (facts_with small large p) tests)

abbrev pub verdict_by : List Test → Tables → Verdict
verdict_by tests p = verdict_with [] [] tests p
