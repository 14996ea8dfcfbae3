-- The round trip: the line of a request and its bytes gives the request and its bytes back.
use Prim.Native.Nat.{ℕ, ◌+◌, ◌-◌, ◌<◌}
use native.Mathlib.Omega.{arith}
use mathlib.Core.Bool.{true}
use mathlib.Core.List.{List, [], ◌∷◌, ◌++◌}
use mathlib.Core.Option.{Option, some}
use mathlib.Core.Path.{◌≡◌, refl, ap, ◌∙◌}
use lib.ListN.{length, length-append}
use lib.Seq.{drop_at}
use Rattle.std.specs.Prelude.{Ok}
use Rattle.lists.specs.Tests.{All}
use Rattle.lists.proofs.All.{all_append}
use Rattle.ledger.specs.declared.Call.TheVariants.{Join, Schedule, Make, Refresh, Read, Write, Batch, Release}
use Rattle.ledger.specs.declared.Event.TheVariants.{Leave, Block, Resume, Tick, View}
use Rattle.ledger.specs.declared.Kind.TheVariants.{Local, Global, Pinned}
use Rattle.ledger.specs.declared.Request.{Request}
use Rattle.ledger.specs.declared.Request.TheVariants.{Use, Report, Remaining}
use Rattle.text.specs.Fields.{in_fields, FitFields}
use Rattle.frames.specs.Frames.{Operation, join, schedule, make, refresh, read, write, report, remaining, batch, release, operations, operation_number, operation_in, widths_of, head_size, tail_of, is_tail, handed_on, request_of, frame_as, frame_by, frame_in, frame_of, last_bytes, payload_of, operation_of, values_of, line_of, RoundTrip}
use Rattle.text.specs.Hex.{is_hex, bytes_of}
use Rattle.text.proofs.Digits.{hex_hex, bytes_hex}
use Rattle.text.proofs.Fields.{fields_in, fields_below, length_in_fields}
use Rattle.frames.proofs.Frames.{of_size}
use Rattle.frames.proofs.Payloads.{last_after, handed_on_lem}

-- an operation is found by its number, which is a byte
found : (o : Operation) → (operation_in operations (operation_number o) ≡ some o) × (operation_number o < 256)
found join = (refl, omega arith)
found (schedule Leave) = (refl, omega arith)
found (schedule Block) = (refl, omega arith)
found (schedule Resume) = (refl, omega arith)
found (schedule Tick) = (refl, omega arith)
found make = (refl, omega arith)
found refresh = (refl, omega arith)
found read = (refl, omega arith)
found write = (refl, omega arith)
found report = (refl, omega arith)
found remaining = (refl, omega arith)
found batch = (refl, omega arith)
found release = (refl, omega arith)
found (schedule View) = (refl, omega arith)

-- its fields' values make the request
same_request : (request : Request) → request_of (operation_of request) (values_of request) ≡ some request
same_request (Use (Join task share)) = refl
same_request (Use (Schedule event task)) = refl
same_request (Use (Make task Local extension length prefix)) = refl
same_request (Use (Make task Global extension length prefix)) = refl
same_request (Use (Make task Pinned extension length prefix)) = refl
same_request (Use (Refresh task Local extension handle)) = refl
same_request (Use (Refresh task Global extension handle)) = refl
same_request (Use (Refresh task Pinned extension handle)) = refl
same_request (Use (Read task handle)) = refl
same_request (Use (Write task handle offset)) = refl
same_request (Use (Batch task Local extension)) = refl
same_request (Use (Batch task Global extension)) = refl
same_request (Use (Batch task Pinned extension)) = refl
same_request (Use (Release task handle)) = refl
same_request Report = refl
same_request (Remaining task handle) = refl

module _ (request : Request) (bytes : List ℕ) (fit : FitFields (widths_of (operation_of request)) (values_of request))
    (below : All (λ (b : ℕ). b < 256) bytes) (follow : is_tail (tail_of (operation_of request)) (length bytes) ≡ true) where
  abbrev o : Operation
  o = operation_of request

  abbrev head : List ℕ
  head = operation_number o ∷ in_fields (widths_of o) (values_of request)

  head_size_lem : length head ≡ head_size o
  head_size_lem = rw (length_in_fields (widths_of o) (values_of request) fit) (omega arith)

  size : length (head ++ bytes) ≡ head_size o + length bytes
  size = rw (length-append, head_size_lem)

  abbrev count : ℕ
  count = handed_on (tail_of o) (length bytes)

  framed : frame_as o (head ++ bytes) ≡ Ok (request, count)
  unfolding frame_as
  framed =
      let rest : length (head ++ bytes) - head_size o ≡ length bytes = omega (arith, size) in
      let right = of_size o (length (head ++ bytes)) (omega (arith, size)) (rw rest follow) in
      let values = fields_in (operation_number o ∷ []) bytes (widths_of o) (values_of request) fit in
      rw (right, values, same_request request, rest)

  bytes_below : All (λ (b : ℕ). b < 256) (head ++ bytes)
  bytes_below = ((found o).1, all_append _ (in_fields (widths_of o) (values_of request)) bytes (fields_below (widths_of o) (values_of request)) below)

  hex : is_hex (line_of request bytes) ≡ true
  unfolding line_of
  hex = hex_hex (head ++ bytes) bytes_below

  spelled : bytes_of (line_of request bytes) ≡ head ++ bytes
  unfolding line_of
  spelled = bytes_hex (head ++ bytes) bytes_below

  frame_back : frame_of (line_of request bytes) ≡ Ok (request, count)
  unfolding frame_of frame_in
  frame_back = rw (hex, spelled) (ap (λ (x : Option Operation). frame_by x (head ++ bytes)) (found o).0 ∙ framed)

  bytes_back : payload_of (line_of request bytes) ≡ last_bytes count bytes
  unfolding payload_of
  bytes_back =
      let few = (handed_on_lem (tail_of o) (length bytes) follow).1 in
      rw (frame_back, spelled, last_after (head ++ bytes) (head_size o) count (omega (arith, size)), drop_at head bytes (head_size o) head_size_lem)

pub round_trip : RoundTrip
round_trip request bytes fit below follow = (frame_back request bytes fit below follow, bytes_back request bytes fit below follow)
