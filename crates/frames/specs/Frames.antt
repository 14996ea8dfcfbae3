-- The rules F: the request or the refusal that a line gives, and the line of a request.
use Rattle.std.specs.Prelude.{ℕ, ◌+◌, ◌-◌, ◌%◌, ◌<◌, min, Bool, true, cond, ◌&&◌, List, [], ◌∷◌, ◌++◌, ◌≡◌, eqb, leb, length, get_or, drop, Result, Ok, Err}
use Rattle.std.proofs.Math.Option.{Option, none, some}
use Rattle.text.specs.Fields.{fields_at, in_fields, width_of, FitFields}
use Rattle.text.specs.HandleBytes.{handle_width, most_handle_bytes}
use Rattle.text.specs.Hex.{is_hex, bytes_of, hex_of}
use Rattle.lists.specs.Blocks.{overwritten}
use Rattle.lists.specs.Tests.{All}
use Rattle.ledger.specs.Ledger.{Frame}
use Rattle.ledger.specs.declared.Call.TheVariants.{Join, Schedule, Make, Refresh, Read, Write, Batch, Release}
use Rattle.ledger.specs.declared.Event.{Event}
use Rattle.ledger.specs.declared.Event.TheVariants.{Leave, Block, Resume, Tick, View}
use Rattle.ledger.specs.declared.Kind.{Kind}
use Rattle.ledger.specs.declared.Refusal.{Refusal}
use Rattle.ledger.specs.declared.Refusal.TheVariants.{NotHexadecimal, UnknownOperation, WrongFrameLength, UnknownKind}
use Rattle.ledger.specs.declared.Request.{Request}
use Rattle.ledger.specs.declared.Request.TheVariants.{Use, Report, Remaining}
use Rattle.ledger.specs.Limits.{large_size}
use Rattle.ledger.specs.Numbers.{kind_of, kind_number}
use Rattle.ledger.specs.Rows.{share_of}

-- the fourteen operations; five of them are the events of a task
pub data Operation : Type 0 where
  schedule : Event → Operation
  join make refresh read write report remaining batch release : Operation

abbrev pub operation_number : Operation → ℕ
operation_number join = 1
operation_number (schedule Leave) = 2
operation_number (schedule Block) = 3
operation_number (schedule Resume) = 4
operation_number (schedule Tick) = 5
operation_number make = 6
operation_number refresh = 7
operation_number read = 8
operation_number write = 9
operation_number report = 10
operation_number remaining = 11
operation_number batch = 12
operation_number release = 13
operation_number (schedule View) = 14

abbrev pub operations : List Operation
operations =
    join ∷ schedule Leave ∷ schedule Block ∷ schedule Resume ∷ schedule Tick ∷ make ∷ refresh ∷ read ∷ write ∷ report ∷ remaining ∷ batch
    ∷ release ∷ schedule View ∷ []

-- the one of these with a number, or none
abbrev pub operation_in : List Operation → ℕ → Option Operation
operation_in [] number = none
operation_in (o ∷ os) number = cond (eqb number (operation_number o)) (some o) (operation_in os number)

-- the widths of the fields after the operation, in bytes
abbrev pub widths_of : Operation → List ℕ
-- F1: task, and reserve and limit of either store
widths_of join = 1 ∷ 1 ∷ 1 ∷ 1 ∷ 1 ∷ []
-- F2 to F5, F14: task
widths_of (schedule event) = 1 ∷ []
-- F6: task, kind, extension, length, prefix
widths_of make = 1 ∷ 1 ∷ 1 ∷ 2 ∷ 2 ∷ []
-- F7: task, kind, extension, handle
widths_of refresh = 1 ∷ 1 ∷ 1 ∷ 4 ∷ []
-- F8: task, handle
widths_of read = 1 ∷ 4 ∷ []
-- F9: task, handle, offset
widths_of write = 1 ∷ 4 ∷ 1 ∷ []
-- F10: none
widths_of report = []
-- F11: task, handle
widths_of remaining = 1 ∷ 4 ∷ []
-- F12: task, kind, extension
widths_of batch = 1 ∷ 1 ∷ 1 ∷ []
-- F13: task, handle
widths_of release = 1 ∷ 4 ∷ []

-- operation and fields
abbrev pub head_size : Operation → ℕ
head_size o = 1 + width_of (widths_of o)

-- what may follow the fields: bytes up to a count, or any count of handles
pub data Tail : Type 0 where
  bytes_up_to : ℕ → Tail
  any_handles : Tail

abbrev pub tail_of : Operation → Tail
tail_of join = bytes_up_to 0
tail_of (schedule event) = bytes_up_to 0
tail_of make = bytes_up_to 0
tail_of refresh = bytes_up_to 0
tail_of read = bytes_up_to 0
-- F9: the bytes to write
tail_of write = bytes_up_to large_size
tail_of report = bytes_up_to 0
tail_of remaining = bytes_up_to 0
-- F12: the handles of the objects
tail_of batch = any_handles
tail_of release = bytes_up_to 0

-- whether so many bytes may follow
abbrev pub is_tail : Tail → ℕ → Bool
is_tail (bytes_up_to most) count = leb count most
is_tail any_handles count = eqb (count % handle_width) 0

-- R18 where this fails
abbrev pub is_size_of : Operation → ℕ → Bool
is_size_of o size = leb (head_size o) size && is_tail (tail_of o) (size - head_size o)

-- how many of the bytes that follow are handed on: all, but of a batch no more than are enough
abbrev pub handed_on : Tail → ℕ → ℕ
handed_on (bytes_up_to most) count = count
handed_on any_handles count = min count most_handle_bytes

abbrev pub with_kind : Result Kind Refusal → (Kind → Request) → Option Request
with_kind (Ok kind) request = some (request kind)
with_kind (Err why) request = none

-- the request that the values of the fields make, or none where a kind is unknown
abbrev pub request_of : Operation → List ℕ → Option Request
-- F1: a share by its four values
request_of join values = some (Use (Join (get_or values 0 0) (share_of (get_or values 1 0) (get_or values 2 0) (get_or values 3 0) (get_or values 4 0))))
request_of (schedule event) values = some (Use (Schedule event (get_or values 0 0)))
request_of make values =
    with_kind (kind_of (get_or values 1 0)) (λ (kind : Kind). Use (Make (get_or values 0 0) kind (get_or values 2 0) (get_or values 3 0) (get_or values 4 0)))
request_of refresh values =
    with_kind (kind_of (get_or values 1 0)) (λ (kind : Kind). Use (Refresh (get_or values 0 0) kind (get_or values 2 0) (get_or values 3 0)))
request_of read values = some (Use (Read (get_or values 0 0) (get_or values 1 0)))
request_of write values = some (Use (Write (get_or values 0 0) (get_or values 1 0) (get_or values 2 0)))
request_of report values = some Report
request_of remaining values = some (Remaining (get_or values 0 0) (get_or values 1 0))
request_of batch values = with_kind (kind_of (get_or values 1 0)) (λ (kind : Kind). Use (Batch (get_or values 0 0) kind (get_or values 2 0)))
request_of release values = some (Use (Release (get_or values 0 0) (get_or values 1 0)))

abbrev pub frame_with : Option Request → ℕ → Frame
frame_with none count = Err UnknownKind
frame_with (some request) count = Ok (request, count)

-- R33: a frame of a known operation: 18, then 19; the bytes that are handed on come with the request
unfoldable pub frame_as : Operation → List ℕ → Frame
frame_as o bytes =
    cond (is_size_of o (length bytes))
    (frame_with (request_of o (fields_at 1 (widths_of o) bytes)) (handed_on (tail_of o) (length bytes - head_size o)))
    (Err WrongFrameLength)

-- R17 before these
abbrev pub frame_by : Option Operation → List ℕ → Frame
frame_by none bytes = Err UnknownOperation
frame_by (some o) bytes = frame_as o bytes

-- no operation has the number 0, which stands for a frame of no byte
unfoldable pub frame_in : List ℕ → Frame
frame_in bytes = frame_by (operation_in operations (get_or bytes 0 0)) bytes

-- R16 before all
unfoldable pub frame_of : List ℕ → Frame
frame_of line = cond (is_hex line) (frame_in (bytes_of line)) (Err NotHexadecimal)

-- the last so many of a list
abbrev pub last_bytes : ℕ → List ℕ → List ℕ
last_bytes count bytes = drop (length bytes - count) bytes

-- the bytes that come with a request are the last of its frame
abbrev pub last_of : Frame → List ℕ → List ℕ
last_of (Ok (request, count)) bytes = last_bytes count bytes
last_of (Err refusal) bytes = []

unfoldable pub payload_of : List ℕ → List ℕ
payload_of line = last_of (frame_of line) (bytes_of line)

-- What decoding a line gives: its frame, and the bytes that come with it at the start of a buffer, of which nothing else changes.
pub record Decodes (line old : List ℕ) (r : Frame) (new : List ℕ) : Type 0 where
  pub frame : r ≡ frame_of line
  pub bytes : new ≡ overwritten 0 (payload_of line) old

-- the operation of a request and the values of its fields
abbrev pub operation_of : Request → Operation
operation_of (Use (Join task share)) = join
operation_of (Use (Schedule event task)) = schedule event
operation_of (Use (Make task kind extension length prefix)) = make
operation_of (Use (Refresh task kind extension handle)) = refresh
operation_of (Use (Read task handle)) = read
operation_of (Use (Write task handle offset)) = write
operation_of (Use (Batch task kind extension)) = batch
operation_of (Use (Release task handle)) = release
operation_of Report = report
operation_of (Remaining task handle) = remaining

abbrev pub values_of : Request → List ℕ
values_of (Use (Join task share)) = task ∷ share.small.reserve ∷ share.small.limit ∷ share.large.reserve ∷ share.large.limit ∷ []
values_of (Use (Schedule event task)) = task ∷ []
values_of (Use (Make task kind extension length prefix)) = task ∷ kind_number kind ∷ extension ∷ length ∷ prefix ∷ []
values_of (Use (Refresh task kind extension handle)) = task ∷ kind_number kind ∷ extension ∷ handle ∷ []
values_of (Use (Read task handle)) = task ∷ handle ∷ []
values_of (Use (Write task handle offset)) = task ∷ handle ∷ offset ∷ []
values_of (Use (Batch task kind extension)) = task ∷ kind_number kind ∷ extension ∷ []
values_of (Use (Release task handle)) = task ∷ handle ∷ []
values_of Report = []
values_of (Remaining task handle) = task ∷ handle ∷ []

-- a request with its bytes, as a line
unfoldable pub line_of : Request → List ℕ → List ℕ
line_of request bytes =
    let o = operation_of request in
    hex_of (operation_number o ∷ in_fields (widths_of o) (values_of request) ++ bytes)

-- The round trip: from its line a request comes back with those of its bytes that are handed on, where its values fit their fields and so
-- many bytes may follow them.
abbrev pub RoundTrip : Type 0
RoundTrip =
    (request : Request) (bytes : List ℕ) → let o = operation_of request in
    let count = handed_on (tail_of o) (length bytes) in
    FitFields (widths_of o) (values_of request) → All (λ (b : ℕ). b < 256) bytes → is_tail (tail_of o) (length bytes) ≡ true
    → (frame_of (line_of request bytes) ≡ Ok (request, count)) × (payload_of (line_of request bytes) ≡ last_bytes count bytes)
