-- A batch's handles as bytes, for a host that has them as numbers.
use Rattle.std.specs.Prelude.{ℕ, ◌+◌, ◌*◌, ◌^◌, ◌≤◌, ◌<◌, List, ◌≡◌, length, take}
use Rattle.lists.specs.Tables.{read_by}
use Rattle.lists.specs.Tests.{All}
use Rattle.ledger.specs.Ledger.{Ledger, reply, next}
use Rattle.ledger.specs.Limits.{largest_batch}
use Rattle.ledger.specs.Objects.{handles_of}
use Rattle.ledger.specs.declared.Call.TheVariants.{Batch}
use Rattle.ledger.specs.declared.Kind.{Kind}
use Rattle.text.specs.Fields.{in_bytes}
use Rattle.text.specs.declared.batches.Handed.{Handed}

-- F12: the bytes of a handle
abbrev pub handle_width : ℕ
handle_width = 4

-- one handle more than a batch may have: enough for R20
abbrev pub most_handles : ℕ
most_handles = largest_batch + 1

-- F12: and their bytes
abbrev pub most_handle_bytes : ℕ
most_handle_bytes = handle_width * most_handles

-- F12, O31: the bytes of each handle, one after the other
unfoldable pub handle_bytes : List ℕ → List ℕ
handle_bytes handles = read_by (in_bytes handle_width) handles

-- R20: what is handed on of them, of no more handles than are enough
abbrev pub enough_bytes : List ℕ → List ℕ
enough_bytes handles = handle_bytes (take most_handles handles)

-- What a host's handles are handed on as: these bytes at the start of a buffer.
pub record HandsOn (handles : List ℕ) (r : Handed) : Type 0 where
  pub size : length r.bytes ≡ most_handle_bytes
  pub most : r.count ≤ most_handle_bytes
  pub front : take r.count r.bytes ≡ enough_bytes handles

-- O31: a batch finds the host's handles in their bytes, where four bytes hold each.
abbrev pub HandlesBack : Type 0
HandlesBack = (handles : List ℕ) → All (λ (h : ℕ). h < 256 ^ handle_width) handles → handles_of (handle_bytes handles) ≡ handles

-- R20: with the bytes handed on every ledger answers a batch as with those of all handles, and goes on the same.
abbrev pub HandlesEnough : Type 0
HandlesEnough =
    (L : Ledger) (task : ℕ) (kind : Kind) (extension : ℕ) (handles bytes : List ℕ) → bytes ≡ enough_bytes handles
    → let call = Batch task kind extension in
    (reply L call bytes ≡ reply L call (handle_bytes handles)) × (next L call bytes ≡ next L call (handle_bytes handles))
