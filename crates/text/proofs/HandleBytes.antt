-- A batch's handles as bytes: how many bytes there are, that the handles are found in them again, and that those of 33 handles are enough.
use Prim.Native.Nat.{ℕ, ◌+◌, ◌*◌, ◌≤◌, ◌<◌, min}
use native.Mathlib.Numerals.{add-one}
use native.Mathlib.Omega.{arith}
use mathlib.Core.List.{List, [], ◌∷◌, ◌++◌}
use mathlib.Core.Path.{◌≡◌, refl, ap}
use borrow.Author.Tests.{leb-true, leb-false}
use lib.Dec.{leb}
use lib.ListN.{length, take, get_or}
use lib.Seq.{length-take-le, take_all, take-suc}
use Rattle.lists.specs.Blocks.{overwritten}
use Rattle.lists.proofs.Blocks.{length_overwritten, take_new}
use Rattle.lists.proofs.Cases.{by_test}
use Rattle.lists.proofs.Tables.{read_by_append}
use Rattle.ledger.specs.Limits.{largest_batch}
use Rattle.ledger.specs.Objects.{handles_of}
use Rattle.ledger.proofs.Batches.{handles_count}
use Rattle.ledger.proofs.LongBatches.{long_reply, long_next}
use Rattle.text.specs.Fields.{in_bytes}
use Rattle.text.specs.Hex.{Puts}
use Rattle.text.proofs.Puts.{puts_on}
use Rattle.text.specs.HandleBytes.{handle_width, most_handles, most_handle_bytes, handle_bytes, HandsOn, HandlesBack, HandlesEnough}

pub length_handle_bytes : (handles : List ℕ) → length (handle_bytes handles) ≡ handle_width * length handles
unfolding handle_bytes
length_handle_bytes [] = refl
length_handle_bytes (h ∷ hs) = omega (arith, length_handle_bytes hs)

-- one handle more
pub handle_bytes_on : (handles : List ℕ) (i : ℕ) → i < length handles
    → handle_bytes (take (i + 1) handles) ≡ handle_bytes (take i handles) ++ in_bytes handle_width (get_or handles i 0)
unfolding handle_bytes
handle_bytes_on handles i h = rw (add-one, take-suc handles i 0 h) (read_by_append (in_bytes handle_width) (take i handles) (get_or handles i 0 ∷ []))

-- a loop that stores handles over a buffer, one a turn: those of the first i stand in it, up to `count`
pub record Stored (handles start : List ℕ) (i : ℕ) (bytes : List ℕ) (count : ℕ) : Type 0 where
  pub room : length start ≡ most_handle_bytes
  pub few : length handles ≤ most_handles
  pub within : i ≤ length handles
  pub so : Puts 0 (handle_bytes (take i handles)) start bytes count

pub stored_start : (handles start : List ℕ) → length start ≡ most_handle_bytes → length handles ≤ most_handles → Stored handles start 0 start 0
unfolding handle_bytes overwritten
stored_start handles start r f = record { room = r; few = f; within = omega arith; so = record { bytes = refl; next = refl } }

module _ {handles start : List ℕ} {i : ℕ} {bytes : List ℕ} {count : ℕ} (s : Stored handles start i bytes count) where
  abbrev new : List ℕ
  new = handle_bytes (take i handles)

  new_size : length new ≡ handle_width * i
  new_size = rw (length_handle_bytes, length-take-le i handles s.within)

  pub stored_size : length bytes ≡ most_handle_bytes
  stored_size = rw (s.so.bytes, length_overwritten 0 new start (omega (arith, new_size, s.room, s.few, s.within))) s.room

  pub stored_room : i < length handles → count + handle_width ≤ length bytes
  stored_room h = omega (arith, s.so.next, new_size, stored_size, s.few)

  pub stored_turn : {after : List ℕ} {next : ℕ} → i < length handles → Puts count (in_bytes handle_width (get_or handles i 0)) bytes after next
      → Stored handles start (i + 1) after next
  stored_turn h p =
      record {
        room = s.room;
        few = s.few;
        within = omega arith;
        so = rw (handle_bytes_on handles i h) (puts_on s.so p (omega (arith, new_size, s.room, s.few)));
      }

  -- they are the first of all that a host has
  pub stored_end : (all : List ℕ) → handles ≡ take most_handles all → length handles ≤ i → HandsOn all (record { bytes = bytes; count = count })
  stored_end all e h =
      let whole : take i handles ≡ take most_handles all = rw (← e) (take_all i handles h) in
      record {
        size = stored_size;
        most = omega (arith, s.so.next, new_size, s.few, s.within);
        front = rw (← whole, s.so.bytes, take_new count new start (omega (arith, s.so.next))) (take_all count new (omega (arith, s.so.next)));
      }

-- as many as there are, but no more than are enough
pub enough : (handles : List ℕ) {count : ℕ} → count ≡ min (length handles) most_handles → take count handles ≡ take most_handles handles
enough handles e =
    by_test (leb (length handles) most_handles)
    (λ t. let all = leb-true (length handles) most_handles t in
    rw (e, take_all (min (length handles) most_handles) handles (omega arith), take_all most_handles handles all))
    (λ t. let over = leb-false (length handles) most_handles t in
    let most : min (length handles) most_handles ≡ most_handles = omega arith in rw (e, most))

pub handles_back : HandlesBack
unfolding handle_bytes handles_of
handles_back [] h = refl
handles_back (handle ∷ handles) (h, hs) = rw (handles_back handles hs) (ap (λ (n : ℕ). n ∷ handles) (omega arith))

-- a batch has as many handles in its bytes, be they large or small
count_back : (handles : List ℕ) → length (handles_of (handle_bytes handles)) ≡ length handles
count_back handles = omega (arith, handles_count (handle_bytes handles), length_handle_bytes handles)

pub handles_enough : HandlesEnough
handles_enough L task kind extension handles bytes e =
    by_test (leb (length handles) most_handles)
    (λ t. rw (e, take_all most_handles handles (leb-true (length handles) most_handles t)) (refl, refl))
    (λ t. let over = leb-false (length handles) most_handles t in
    let long : largest_batch < length (handles_of bytes) =
    rw (e, count_back, length-take-le most_handles handles (omega arith)) (omega arith) in
    let also : largest_batch < length (handles_of (handle_bytes handles)) = rw count_back (omega arith) in
    let all = handle_bytes handles in
    (long_reply L task kind extension bytes all long also, long_next L task kind extension bytes all long also))
