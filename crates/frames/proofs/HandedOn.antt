-- What is handed on is enough: only a batch that is refused for its length does not have all its bytes.
use Prim.Native.Nat.{ℕ, ◌-◌, ◌<◌}
use native.Mathlib.Nat.{min-eq_left}
use native.Mathlib.Omega.{arith}
use mathlib.Core.List.{List}
use mathlib.Core.Path.{◌≡◌, refl}
use borrow.Author.Tests.{leb-true, leb-false}
use lib.Dec.{leb}
use lib.ListN.{length, drop, length-drop}
use Rattle.std.specs.Prelude.{Ok}
use Rattle.lists.proofs.Cases.{by_test}
use Rattle.ledger.specs.declared.Call.TheVariants.{Join, Schedule, Make, Refresh, Read, Write, Batch, Release}
use Rattle.ledger.specs.declared.Request.{Request}
use Rattle.ledger.specs.declared.Request.TheVariants.{Use, Report, Remaining}
use Rattle.ledger.specs.Ledger.{Ledger, reply_to_request, after_request}
use Rattle.ledger.specs.Limits.{largest_batch}
use Rattle.ledger.specs.Objects.{handles_of}
use Rattle.ledger.proofs.Batches.{handles_count}
use Rattle.ledger.proofs.LongBatches.{long_reply, long_next}
use Rattle.text.specs.Hex.{bytes_of}
use Rattle.text.proofs.Digits.{length_bytes}
use Rattle.text.specs.HandleBytes.{most_handle_bytes}
use Rattle.frames.specs.Frames.{head_size, any_handles, tail_of, handed_on, frame_of, last_bytes, payload_of, operation_of}
use Rattle.frames.specs.HandedOn.{HandsOnEnough}
use Rattle.frames.proofs.Payloads.{last_after, requested}

module _ (L : Ledger) where
  -- a request with these bytes or with those: one answer and one ledger after it
  abbrev Alike : Request → List ℕ → List ℕ → Type 0
  Alike request xs ys = (reply_to_request L request xs ≡ reply_to_request L request ys) × (after_request L request xs ≡ after_request L request ys)

  -- all are handed on
  whole : (request : Request) (bytes : List ℕ) → Alike request (last_bytes (length bytes) bytes) bytes
  whole request bytes = let none_left : length bytes - length bytes ≡ 0 = omega arith in rw none_left (refl, refl)

  enough : (request : Request) (bytes : List ℕ) → Alike request (last_bytes (handed_on (tail_of (operation_of request)) (length bytes)) bytes) bytes
  enough (Use (Join task share)) bytes = whole (Use (Join task share)) bytes
  enough (Use (Schedule event task)) bytes = whole (Use (Schedule event task)) bytes
  enough (Use (Make task kind extension length prefix)) bytes = whole (Use (Make task kind extension length prefix)) bytes
  enough (Use (Refresh task kind extension handle)) bytes = whole (Use (Refresh task kind extension handle)) bytes
  enough (Use (Read task handle)) bytes = whole (Use (Read task handle)) bytes
  enough (Use (Write task handle offset)) bytes = whole (Use (Write task handle offset)) bytes
  enough (Use (Batch task kind extension)) bytes =
      by_test (leb (length bytes) most_handle_bytes)
      (λ e. rw (min-eq_left (leb-true (length bytes) most_handle_bytes e)) (whole (Use (Batch task kind extension)) bytes))
      (λ e. let over = leb-false (length bytes) most_handle_bytes e in
      let handed = last_bytes (handed_on any_handles (length bytes)) bytes in
      let long : largest_batch < length (handles_of handed) = rw (handles_count handed, length-drop) (omega arith) in
      let also : largest_batch < length (handles_of bytes) = rw (handles_count bytes) (omega arith) in
      (long_reply L task kind extension handed bytes long also, long_next L task kind extension handed bytes long also))
  enough (Use (Release task handle)) bytes = whole (Use (Release task handle)) bytes
  enough Report bytes = whole Report bytes
  enough (Remaining task handle) bytes = whole (Remaining task handle) bytes

-- the bytes handed on are the last of those that follow the fields
payload_following : (line : List ℕ) {request : Request} {count : ℕ} → frame_of line ≡ Ok (request, count)
    → let following = drop (head_size (operation_of request)) (bytes_of line) in
    payload_of line ≡ last_bytes (handed_on (tail_of (operation_of request)) (length following)) following
payload_following line {request} {count} e =
    let r = requested line e in
    let last = last_after (bytes_of line) (head_size (operation_of request)) count (rw length_bytes r.within) in
    rw (length-drop, length_bytes, r.handed, r.payload) (rw (length-drop, length_bytes) at last)

pub hands_on_enough : HandsOnEnough
hands_on_enough L line request count e =
    rw (payload_following line e) (enough L request (drop (head_size (operation_of request)) (bytes_of line)))
