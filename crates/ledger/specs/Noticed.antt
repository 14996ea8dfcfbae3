-- The claim of R23 (order 6 of document 02): where one byte of an object is changed from outside, each read and write of it is refused from
-- then on, and all else is answered as if nothing had been changed.
use Rattle.std.specs.Prelude.{ℕ, ◌≤◌, ◌<◌, true, cond, List, [], ◌∷◌, map, ◌≢◌, ◌≡◌, eqb, length, get_or}
use Rattle.std.proofs.Math.Option.{Option, none, some}
use Rattle.lists.specs.Blocks.{overwritten}
use Rattle.lists.specs.Tests.{any, All}
use Rattle.ledger.specs.Objects.{Object, with_bytes, with_objects, Reply, fresh_memory, plain, object_at, is_intact, stands}
use Rattle.ledger.specs.Refusals.{Test, standing_tests, writing_tests, verdict}
use Rattle.ledger.specs.Ledger.{Ledger, Sent, fresh, facts_in, reply_by, reply_to_request, after_sent, replies, after_all}
use Rattle.ledger.specs.Heap.{Used, heap_replies}
use Rattle.ledger.specs.Numbers.{is_refusal}
use Rattle.ledger.specs.declared.Answer.TheVariants.{Refused}
use Rattle.ledger.specs.declared.Call.TheVariants.{Join, Schedule, Make, Refresh, Read, Write, Batch, Release}
use Rattle.ledger.specs.declared.Refusal.TheVariants.{SumDiffers}
use Rattle.ledger.specs.declared.Request.{Request}
use Rattle.ledger.specs.declared.Request.TheVariants.{Use, Report, Remaining}
use Rattle.ledger.specs.declared.Limits.{Limits}

-- N1: the object with this handle, with another value at one place of its block; its sum stays, and so do all other objects
unfoldable pub disturbed : ℕ → ℕ → ℕ → Object → Object
disturbed handle at value o =
    with_bytes (cond (eqb o.handle handle) (overwritten at (value ∷ []) o.bytes) o.bytes) o.sum o

abbrev pub disturbed_in : ℕ → ℕ → ℕ → Ledger → Ledger
disturbed_in handle at value L =
    let m = L.memory in
    record {
      memory = with_objects (map (disturbed handle at value) m.objects) m;
      expirations = L.expirations;
    }

-- N2: such a change: the object is one of the ledger's, its sum agreed, and exactly one byte is another. The ledger is one that a
-- well-formed record reads as: its objects have handles that were given (W4), and stand (W2).
pub record Change : Type 0 where
  pub before : Ledger
  pub handle : ℕ
  pub at : ℕ
  pub value : ℕ
  pub numbered : All (λ (o : Object). o.handle ≤ before.memory.given) before.memory.objects
  pub standing : All (λ (o : Object). stands before.expirations o.handle ≡ true) before.memory.objects
  pub listed : any (λ (o : Object). eqb o.handle handle) before.memory.objects ≡ true
  pub intact : is_intact (object_at handle before.memory.objects) ≡ true
  pub inside : at < length (object_at handle before.memory.objects).bytes
  pub other : value ≢ get_or (object_at handle before.memory.objects).bytes at 0

abbrev pub changed : Change → Ledger
changed c = disturbed_in c.handle c.at c.value c.before

-- N3: a use of an object is a read or a write of it: the tests of its task and of the object that come before R23, where the request is one
abbrev pub earlier_tests : ℕ → Request → Option (List Test)
earlier_tests handle (Use (Join task share)) = none
earlier_tests handle (Use (Schedule event task)) = none
earlier_tests handle (Use (Make task kind extension size prefix)) = none
earlier_tests handle (Use (Refresh task kind extension used)) = none
earlier_tests handle (Use (Read task used)) = cond (eqb used handle) (some (standing_tests task handle)) none
earlier_tests handle (Use (Write task used offset)) = cond (eqb used handle) (some (writing_tests task handle)) none
earlier_tests handle (Use (Batch task kind extension)) = none
earlier_tests handle (Use (Release task used)) = none
earlier_tests handle Report = none
earlier_tests handle (Remaining task used) = none

-- N4: what a call is answered once the object with this handle was changed, by the ledger without the change: a use of it is refused, by 23
-- where no earlier test refuses it; any other call is answered as that ledger does
unfoldable pub noticed_by : Option (List Test) → Ledger → Sent → Reply
noticed_by none L s = reply_to_request L s.request s.bytes
noticed_by (some tests) L s = reply_by (verdict (facts_in L) tests) (plain (Refused SumDiffers))

abbrev pub noticed : ℕ → Ledger → Sent → Reply
noticed handle L s = noticed_by (earlier_tests handle s.request) L s

-- and a list of calls, the ledger without the change going on beside
unfoldable pub noticed_in : ℕ → Ledger → List Sent → List Reply
noticed_in handle L [] = []
noticed_in handle L (s ∷ ss) = noticed handle L s ∷ noticed_in handle (after_sent L s) ss

pub record Notices : Type 0 where
  -- N5: after such a change every list of calls is answered so;
  pub every : (c : Change) (ss : List Sent) → replies (changed c) ss ≡ noticed_in c.handle c.before ss
  -- after whatever calls, each read and each write of the object is refused,
  pub refused : (c : Change) (ss : List Sent) (s : Sent) (tests : List Test) → earlier_tests c.handle s.request ≡ some tests
      → is_refusal (reply_to_request (after_all (changed c) ss) s.request s.bytes).answer ≡ true
  -- and every other call is answered as the ledger without the change says.
  pub others : (c : Change) (ss : List Sent) (s : Sent) → earlier_tests c.handle s.request ≡ none
      → reply_to_request (after_all (changed c) ss) s.request s.bytes ≡ reply_to_request (after_all c.before ss) s.request s.bytes
  -- N6: with no change from outside no call is ever answered 23, and the heap never gives it
  pub never : (limits : Limits) (ss : List Sent) → All (λ (y : Reply). y.answer ≢ Refused SumDiffers) (replies (fresh limits) ss)
  pub never_heap : (limits : Limits) (us : List Used) → All (λ (y : Reply). y.answer ≢ Refused SumDiffers) (heap_replies (fresh_memory limits) us)
