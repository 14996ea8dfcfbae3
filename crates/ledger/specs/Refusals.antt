-- The rules R: each test once, and the first that holds. Rules.antt has the list of each call. (14 and 15 come with stores and record, 16
-- to 19 with frames.)
use Rattle.std.specs.Prelude.{ℕ, ◌+◌, Bool, true, false, not, cond, ◌||◌, List, [], ◌∷◌, eqb, leb, ltb, length, Result, Ok, Err}
use Rattle.std.proofs.Math.Option.{Option, none, some}
use Rattle.lists.specs.Tests.{any}
use Rattle.ledger.specs.Limits.{task_count, large_size, largest_batch, last_handle, is_small}
use Rattle.ledger.specs.Tasks.{task_at, is_absent, is_waiting, is_viewing}
use Rattle.ledger.specs.Expirations.{Expiration}
use Rattle.ledger.specs.Objects.{Memory, object_at, is_intact, stands}
use Rattle.ledger.specs.Shares.{is_full, is_short_of, is_at_limit}
use Rattle.ledger.specs.declared.State.{State}
use Rattle.ledger.specs.declared.Quota.{Quota}
use Rattle.ledger.specs.declared.Share.{Share}
use Rattle.ledger.specs.declared.Kind.{Kind}
use Rattle.ledger.specs.declared.Kind.TheVariants.{Local, Global, Pinned}
use Rattle.ledger.specs.declared.Refusal.{Refusal}
use Rattle.ledger.specs.declared.Refusal.TheVariants.{NoSuchTask, TaskPresent, TaskAbsent, TaskWaiting, TaskRunning, ExtensionTooLong, LengthOutOfRange, HandlesSpent, NoFreeBlock, NoFreeExpiration, HandleNotGiven, ObjectGone, OutsideObject, BatchOutOfRange, OnlyMakePins, NotPinned, SumDiffers, ReserveAboveLimit, ReserveNotFree, AtLimit, OnlyViews, PrefixTooLong}
use Rattle.ledger.specs.declared.Limits.{Limits}

-- What the tests look at, of a ledger, of the unbounded heap, or of a record with its stores: the states of the tasks; of each handle the
-- object's size, whether its bytes add up to its sum and whether its pinned expiration is left; which objects stand and how many
-- expirations; and of a store (true is the small one) whether a task may have no more of it and whether no block is left for the task, and
-- whether too few are left to be held back for it.
pub record Facts : Type 0 where
  pub limits : Limits
  pub state : ℕ → State
  pub given : ℕ
  pub size : ℕ → ℕ
  pub is_intact : ℕ → Bool
  pub is_pinned : ℕ → Bool
  pub stands : ℕ → Bool
  pub standing : ℕ
  pub is_at_limit : Bool → ℕ → Bool
  pub is_full : Bool → ℕ → Bool
  pub is_short : ℕ → Share → Bool

abbrev pub facts_of : Memory → List Expiration → Facts
facts_of m xs =
    record {
      limits = m.limits;
      state = λ (task : ℕ). (task_at m.clocks task).state;
      given = m.given;
      size = λ (handle : ℕ). (object_at handle m.objects).size;
      is_intact = λ (handle : ℕ). is_intact (object_at handle m.objects);
      is_pinned = λ (handle : ℕ). any (eqb handle) m.pinned;
      stands = stands xs;
      standing = length xs;
      is_at_limit = λ (store : Bool) (task : ℕ). is_at_limit store m.shares m.objects task;
      is_full = λ (store : Bool) (task : ℕ). is_full store m.shares m.objects m.limits task;
      is_short = λ (task : ℕ) (share : Share). is_short_of m.limits m.shares m.objects task share;
    }

-- A test refuses a call where it holds. The unbounded heap makes those that are shared; the others are the pool's own.
pub data Test : Type 0 where
  shared : Refusal → (Facts → Bool) → Test
  own : Refusal → (Facts → Bool) → Test

abbrev pub refusal_of : Test → Refusal
refusal_of (shared r holds) = r
refusal_of (own r holds) = r

abbrev pub is_held : Facts → Test → Bool
is_held f (shared r holds) = holds f
is_held f (own r holds) = holds f

-- R1: there is no such task
abbrev pub no_such_task : ℕ → Test
no_such_task task = shared NoSuchTask (λ (f : Facts). leb task_count task)

-- R2: the task is there already
abbrev pub task_present : ℕ → Test
task_present task = shared TaskPresent (λ (f : Facts). not (is_absent (f.state task)))

-- R3: the task is not there
abbrev pub task_absent : ℕ → Test
task_absent task = shared TaskAbsent (λ (f : Facts). is_absent (f.state task))

-- R4: the task waits
abbrev pub task_waiting : ℕ → Test
task_waiting task = shared TaskWaiting (λ (f : Facts). is_waiting (f.state task))

-- R5: the task does not wait: it runs, or views
abbrev pub task_running : ℕ → Test
task_running task = shared TaskRunning (λ (f : Facts). not (is_waiting (f.state task)))

-- R27: the task only views: it is a viewer, and the call is none that a viewer may make
abbrev pub only_views : ℕ → Test
only_views task = shared OnlyViews (λ (f : Facts). is_viewing (f.state task))

-- R6: the extension is too long; E22: a pinned expiration has none
abbrev pub most_extension : Limits → Kind → ℕ
most_extension limits Local = limits.extension
most_extension limits Global = limits.extension
most_extension limits Pinned = 0

abbrev pub extension_too_long : Kind → ℕ → Test
extension_too_long kind extension = shared ExtensionTooLong (λ (f : Facts). ltb (most_extension f.limits kind) extension)

-- R7: no object has that length
abbrev pub length_out_of_range : ℕ → Test
length_out_of_range size = shared LengthOutOfRange (λ (f : Facts). eqb size 0 || ltb large_size size)

-- R28: the prefix (02: head) is longer than the object
abbrev pub prefix_too_long : ℕ → ℕ → Test
prefix_too_long size prefix = shared PrefixTooLong (λ (f : Facts). ltb size prefix)

-- R8: no handle is left
abbrev pub handles_spent : Test
handles_spent = shared HandlesSpent (λ (f : Facts). leb last_handle f.given)

-- R9: its store has no block for the task: all are in use or held back for others
abbrev pub no_free_block : ℕ → ℕ → Test
no_free_block task size = own NoFreeBlock (λ (f : Facts). f.is_full (is_small size) task)

-- R10: there is no room for one expiration more
abbrev pub no_free_expiration : Test
no_free_expiration = own NoFreeExpiration (λ (f : Facts). leb f.limits.expirations f.standing)

-- R11: the handle was not given
abbrev pub is_not_given : ℕ → ℕ → Bool
is_not_given given handle = eqb handle 0 || ltb given handle

abbrev pub handle_not_given : ℕ → Test
handle_not_given handle = shared HandleNotGiven (λ (f : Facts). is_not_given f.given handle)

-- R12: the object does not stand
abbrev pub object_gone : ℕ → Test
object_gone handle = own ObjectGone (λ (f : Facts). not (f.stands handle))

-- R13: the bytes would end past the object
abbrev pub outside_object : ℕ → ℕ → ℕ → Test
outside_object handle offset count =
    shared OutsideObject (λ (f : Facts). ltb (f.size handle) (offset + count))

-- R20: a batch has no object, or too many
abbrev pub batch_out_of_range : ℕ → Test
batch_out_of_range count = shared BatchOutOfRange (λ (f : Facts). eqb count 0 || ltb largest_batch count)

-- R21: only a make sets a pinned expiration
abbrev pub is_pinning : Kind → Bool
is_pinning Local = false
is_pinning Global = false
is_pinning Pinned = true

abbrev pub only_make_pins : Kind → Test
only_make_pins kind = shared OnlyMakePins (λ (f : Facts). is_pinning kind)

-- R22: the object has no pinned expiration left
abbrev pub not_pinned : ℕ → Test
not_pinned handle = shared NotPinned (λ (f : Facts). not (f.is_pinned handle))

-- R23: the bytes of the object's block no longer add up to its sum
abbrev pub sum_differs : ℕ → Test
sum_differs handle = shared SumDiffers (λ (f : Facts). not (f.is_intact handle))

-- R24: of either store, more is to be held back for the task than it may have
abbrev pub is_upside_down : Quota → Bool
is_upside_down quota = ltb quota.limit quota.reserve

abbrev pub reserve_above_limit : Share → Test
reserve_above_limit share = shared ReserveAboveLimit (λ (f : Facts). is_upside_down share.small || is_upside_down share.large)

-- R25: of either store, too little is free to be held back for it
abbrev pub reserve_not_free : ℕ → Share → Test
reserve_not_free task share =
    own ReserveNotFree (λ (f : Facts). f.is_short task share)

-- R26: the task has as many objects of that store as it may
abbrev pub at_limit : ℕ → ℕ → Test
at_limit task size = own AtLimit (λ (f : Facts). f.is_at_limit (is_small size) task)

-- R11, R12 for a batch: some handle of it was not given, some object of it does not stand
abbrev pub some_not_given : List ℕ → Test
some_not_given handles = shared HandleNotGiven (λ (f : Facts). any (is_not_given f.given) handles)

abbrev pub some_gone : List ℕ → Test
some_gone handles = own ObjectGone (λ (f : Facts). any (λ (handle : ℕ). not (f.stands handle)) handles)

-- R10 for a batch: there is no room for so many expirations more
abbrev pub no_room_for : ℕ → Test
no_room_for count = own NoFreeExpiration (λ (f : Facts). ltb f.limits.expirations (f.standing + count))

-- R46: the task runs or views, and the object stands: which remaining life asks
abbrev pub standing_tests : ℕ → ℕ → List Test
standing_tests task handle =
    no_such_task task ∷ task_absent task ∷ task_waiting task ∷ handle_not_given handle ∷ object_gone handle ∷ []

-- the same of a task that may write
abbrev pub writing_tests : ℕ → ℕ → List Test
writing_tests task handle =
    no_such_task task ∷ task_absent task ∷ task_waiting task ∷ only_views task ∷ handle_not_given handle ∷ object_gone handle ∷ []

-- R32: the pool's verdict, by the first test that holds
unfoldable pub verdict : Facts → List Test → Option Refusal
verdict f [] = none
verdict f (t ∷ ts) = cond (is_held f t) (some (refusal_of t)) (verdict f ts)

-- H5: the heap's, by the first of the shared ones that holds
unfoldable pub heap_verdict : Facts → List Test → Option Refusal
heap_verdict f [] = none
heap_verdict f (shared r holds ∷ ts) = cond (holds f) (some r) (heap_verdict f ts)
heap_verdict f (own r holds ∷ ts) = heap_verdict f ts

-- a verdict as code has it: whether a call is carried out
abbrev pub Verdict : Type 0
Verdict = Result Unit Refusal

abbrev pub as_verdict : Option Refusal → Verdict
as_verdict none = Ok tt
as_verdict (some r) = Err r
