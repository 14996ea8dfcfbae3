-- The rules O: objects, what is kept of them, and the parts from which Rules.antt makes what each call answers and changes.
use Rattle.std.specs.Prelude.{ℕ, ◌+◌, ◌*◌, Bool, cond, not, List, [], ◌∷◌, map, eqb, length, set, take, replicate}
use Rattle.lists.specs.Blocks.{overwritten}
use Rattle.lists.specs.Sums.{total}
use Rattle.lists.specs.Tests.{any, filter, count}
use Rattle.ledger.specs.Limits.{task_count, is_small, block_size}
use Rattle.ledger.specs.Tasks.{Clocks, fresh_clocks, is_viewing}
use Rattle.ledger.specs.Expirations.{departed, Expiration, is_of}
use Rattle.ledger.specs.declared.State.{State}
use Rattle.ledger.specs.declared.Kind.{Kind}
use Rattle.ledger.specs.declared.Kind.TheVariants.{Local, Global, Pinned}
use Rattle.ledger.specs.declared.Usage.{Usage}
use Rattle.ledger.specs.declared.Answer.{Answer}
use Rattle.ledger.specs.declared.Event.{Event}
use Rattle.ledger.specs.declared.Event.TheVariants.{Leave, Block, Resume, Tick, View}
use Rattle.ledger.specs.declared.Limits.{Limits}
use Rattle.ledger.specs.declared.Share.{Share}

-- O1: an object; its handle is 01's number. O33: `bytes` are those of its whole block, and `sum` is what they are to add up to. Q3: `maker`
-- is the task that made it, or departed once that task has left. V4: `prefix` (02: head length) is how many of its bytes a viewer reads
pub record Object : Type 0 where
  pub handle : ℕ
  pub size : ℕ
  pub bytes : List ℕ
  pub sum : ℕ
  pub maker : ℕ
  pub prefix : ℕ

-- the same object with other bytes and their sum, or of another maker
abbrev pub with_bytes : List ℕ → ℕ → Object → Object
with_bytes bytes sum o = record { handle = o.handle; size = o.size; bytes = bytes; sum = sum; maker = o.maker; prefix = o.prefix }

abbrev pub of_maker : ℕ → Object → Object
of_maker maker o = record { handle = o.handle; size = o.size; bytes = o.bytes; sum = o.sum; maker = maker; prefix = o.prefix }

-- what the ledger and the unbounded heap both keep. C2: `limits` are the figures of the pool, which no call changes. Q1: `shares` are the
-- reserves and limits of the tasks in their order. E23: `pinned` has the handles of the objects whose pinned expiration is left
pub record Memory : Type 0 where
  pub limits : Limits
  pub clocks : Clocks
  pub given : ℕ
  pub objects : List Object
  pub shares : List Share
  pub pinned : List ℕ

-- the same memory with another part of it
abbrev pub with_clocks : Clocks → Memory → Memory
with_clocks clocks m =
    record { limits = m.limits; clocks = clocks; given = m.given; objects = m.objects; shares = m.shares; pinned = m.pinned }

abbrev pub with_objects : List Object → Memory → Memory
with_objects objects m =
    record { limits = m.limits; clocks = m.clocks; given = m.given; objects = objects; shares = m.shares; pinned = m.pinned }

abbrev pub with_shares : List Share → Memory → Memory
with_shares shares m =
    record { limits = m.limits; clocks = m.clocks; given = m.given; objects = m.objects; shares = shares; pinned = m.pinned }

abbrev pub with_pinned : List ℕ → Memory → Memory
with_pinned pinned m =
    record { limits = m.limits; clocks = m.clocks; given = m.given; objects = m.objects; shares = m.shares; pinned = pinned }

-- Q2: who is absent or views has nothing
abbrev pub no_share : Share
no_share = record { small = record { reserve = 0; limit = 0 }; large = record { reserve = 0; limit = 0 } }

-- O9, Q2: of a fresh pool
unfoldable pub fresh_memory : Limits → Memory
fresh_memory limits = record { limits = limits; clocks = fresh_clocks; given = 0; objects = []; shares = replicate task_count no_share; pinned = [] }

-- 01: an answer, with the bytes that a read hands back
pub record Reply : Type 0 where
  pub answer : Answer
  pub bytes : List ℕ

abbrev pub plain : Answer → Reply
plain answer = record { answer = answer; bytes = [] }

-- O12, O33: a new object has a block of zeros
abbrev pub zeroed : ℕ → ℕ → ℕ → ℕ → Object
zeroed maker handle size prefix =
    record { handle = handle; size = size; bytes = replicate (block_size size) 0; sum = 0; maker = maker; prefix = prefix }

-- O18: the object's own bytes, the first of its block
abbrev pub own_bytes : Object → List ℕ
own_bytes o = take o.size o.bytes

-- V5: what a task that reads it is given: a viewer the prefix, any other task all
abbrev pub bytes_for : State → Object → List ℕ
bytes_for state o = cond (is_viewing state) (take o.prefix o.bytes) (own_bytes o)

-- O34: the bytes add up to the sum
abbrev pub is_intact : Object → Bool
is_intact o = eqb (total o.bytes) o.sum

-- the object with this handle
unfoldable pub object_at : ℕ → List Object → Object
object_at handle [] = zeroed departed 0 0 0
object_at handle (o ∷ os) = cond (eqb o.handle handle) o (object_at handle os)

-- O20, O35: new bytes from the offset on, in the object with this handle, and the sum of all that its block then has; all others stay
unfoldable pub written : ℕ → ℕ → List ℕ → Object → Object
written handle offset new o =
    let bytes = overwritten offset new o.bytes in
    with_bytes (cond (eqb o.handle handle) bytes o.bytes) (cond (eqb o.handle handle) (total bytes) o.sum) o

-- Q3: what a task made is nobody's once it has left, for good
abbrev pub orphaned : ℕ → Object → Object
orphaned task o = of_maker (cond (eqb o.maker task) departed o.maker) o

unfoldable pub makers_after : Event → ℕ → List Object → List Object
makers_after Leave task os = map (orphaned task) os
makers_after Block task os = os
makers_after Resume task os = os
makers_after View task os = os
makers_after Tick task os = os

-- Q2: a leaver has nothing any more; who waits keeps what it has
unfoldable pub shares_after : Event → ℕ → List Share → List Share
shares_after Leave task shares = set shares task no_share
shares_after Block task shares = shares
shares_after Resume task shares = shares
shares_after View task shares = shares
shares_after Tick task shares = shares

-- O31: the handles of a batch stand in its bytes, four to a handle, the high one first
unfoldable pub handles_of : List ℕ → List ℕ
handles_of [] = []
handles_of (a ∷ []) = []
handles_of (a ∷ b ∷ []) = []
handles_of (a ∷ b ∷ c ∷ []) = []
handles_of (a ∷ b ∷ c ∷ d ∷ bytes) = (256 * (256 * (256 * a + b) + c) + d) ∷ handles_of bytes

-- O2: some expiration is of the object with this handle
abbrev pub stands : List Expiration → ℕ → Bool
stands xs handle = any (is_of handle) xs

abbrev pub standing : List Expiration → List Object → List Object
standing xs os = filter (λ (o : Object). stands xs o.handle) os

-- the objects of either store
abbrev pub small_ones : List Object → ℕ
small_ones os = count (λ (o : Object). is_small o.size) os

abbrev pub large_ones : List Object → ℕ
large_ones os = count (λ (o : Object). not (is_small o.size)) os

-- E23: a new object is pinned by an expiration of this kind
abbrev pub pinned_by : Kind → ℕ → List ℕ → List ℕ
pinned_by Local handle handles = handles
pinned_by Global handle handles = handles
pinned_by Pinned handle handles = handle ∷ handles

-- E24: and no longer after a release
abbrev pub unpinned : ℕ → List ℕ → List ℕ
unpinned handle handles = filter (λ (h : ℕ). not (eqb handle h)) handles

-- O24: what report counts
unfoldable pub usage : Memory → List Expiration → Usage
usage m xs =
    record {
      small = small_ones m.objects;
      large = large_ones m.objects;
      expirations = length xs;
      given = m.given;
    }
