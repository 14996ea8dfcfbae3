-- The rules R in the parts in which code makes their tests, each by the numbers that it has found.
use Rattle.std.specs.Prelude.{ℕ, Bool, true, cond, ◌||◌, List, eqb, leb, ltb, Result, Ok, Err}
use Rattle.ledger.specs.Limits.{task_count, largest_batch, large_size, last_handle}
use Rattle.ledger.specs.Refusals.{most_extension, is_pinning, is_not_given, Verdict}
use Rattle.ledger.specs.declared.Kind.{Kind}
use Rattle.ledger.specs.declared.Limits.{Limits}
use Rattle.ledger.specs.declared.Refusal.{Refusal}
use Rattle.ledger.specs.declared.Refusal.TheVariants.{NoSuchTask, TaskAbsent, TaskWaiting, ExtensionTooLong, LengthOutOfRange, HandlesSpent, NoFreeBlock, AtLimit, NoFreeExpiration, HandleNotGiven, ObjectGone, BatchOutOfRange, OnlyMakePins, OnlyViews, PrefixTooLong}
use Rattle.ledger.specs.declared.State.{State}
use Rattle.ledger.specs.declared.State.TheVariants.{Absent, Running, Waiting, Viewing}
use Rattle.record.specs.declared.TaskEntry.{TaskEntry}
use Rattle.steps.specs.Facts.{is_gone}
use Rattle.steps.specs.Objects.{state_in}

-- one verdict, and where it accepts, the next, or what is found then
abbrev pub and_then : {A : Type 0} → Verdict → Result A Refusal → Result A Refusal
and_then (Ok _) next = next
and_then (Err r) next = Err r

abbrev pub refuse_if : Bool → Refusal → Verdict
refuse_if holds r = cond holds (Err r) (Ok tt)

-- 3, 4, and 27 where the task is to act, which a viewer may not
abbrev pub by_state : Bool → State → Verdict
by_state acts Absent = Err TaskAbsent
by_state acts Running = Ok tt
by_state acts Waiting = Err TaskWaiting
by_state acts Viewing = refuse_if acts OnlyViews

-- 1 before them
abbrev pub task_verdict : Bool → ℕ → List TaskEntry → Verdict
task_verdict acts task tasks = and_then (refuse_if (leb task_count task) NoSuchTask) (by_state acts (state_in tasks task))

-- 6
abbrev pub extension_verdict : Limits → Kind → ℕ → Verdict
extension_verdict limits kind extension = refuse_if (ltb (most_extension limits kind) extension) ExtensionTooLong

-- 21, 6: of one expiration more on an object that stands
abbrev pub set_verdict : Limits → Kind → ℕ → Verdict
set_verdict limits kind extension = and_then (refuse_if (is_pinning kind) OnlyMakePins) (extension_verdict limits kind extension)

-- 11, 12, by the handles given and the place that was found
abbrev pub found_verdict : ℕ → ℕ → ℕ → Verdict
found_verdict handle given place = and_then (refuse_if (is_not_given given handle) HandleNotGiven) (refuse_if (is_gone handle place) ObjectGone)

-- 10, by how many stand
abbrev pub room_verdict : Limits → ℕ → Verdict
room_verdict limits standing = refuse_if (leb limits.expirations standing) NoFreeExpiration

-- R40, the tests that look at no block: 1, 3, 4, 27, 6, 7, 28, 8
abbrev pub make_call_verdict : Limits → ℕ → Kind → ℕ → ℕ → ℕ → List TaskEntry → ℕ → Verdict
make_call_verdict limits task kind extension size prefix tasks given =
    and_then (task_verdict true task tasks)
    (and_then (extension_verdict limits kind extension)
    (and_then (refuse_if (eqb size 0 || ltb large_size size) LengthOutOfRange)
    (and_then (refuse_if (ltb size prefix) PrefixTooLong) (refuse_if (leb last_handle given) HandlesSpent))))

-- and those after them: 26, 9, 10, by whether the task is at its limit, whether the store has no block for it, and how many stand
abbrev pub taking_verdict : Limits → Bool → Bool → ℕ → Verdict
taking_verdict limits limited full standing =
    and_then (refuse_if limited AtLimit) (and_then (refuse_if full NoFreeBlock) (room_verdict limits standing))

-- R47, the tests that look at no object: 1, 3, 4, 27, 20, 21, 6
abbrev pub batch_call_verdict : Limits → ℕ → Kind → ℕ → List TaskEntry → ℕ → Verdict
batch_call_verdict limits task kind extension tasks count =
    and_then (task_verdict true task tasks)
    (and_then (refuse_if (eqb count 0 || ltb largest_batch count) BatchOutOfRange) (set_verdict limits kind extension))

-- and those after them: 11, 12, 10, by whether some handle was not given, whether some object is gone, and how many expirations would stand
abbrev pub batch_objects_verdict : Limits → Bool → Bool → ℕ → Verdict
batch_objects_verdict limits ungiven gone after =
    and_then (refuse_if ungiven HandleNotGiven)
    (and_then (refuse_if gone ObjectGone) (refuse_if (ltb limits.expirations after) NoFreeExpiration))
