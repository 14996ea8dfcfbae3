-- F12: what is handed on of a frame is enough.
use Rattle.std.specs.Prelude.{ℕ, List, ◌≡◌, drop, Ok}
use Rattle.ledger.specs.Ledger.{Ledger, reply_to_request, after_request}
use Rattle.ledger.specs.declared.Request.{Request}
use Rattle.text.specs.Hex.{bytes_of}
use Rattle.frames.specs.Frames.{head_size, frame_of, payload_of, operation_of}

-- To the request of a line every ledger answers with the bytes handed on as with all bytes after the fields, and goes on the same.
abbrev pub HandsOnEnough : Type 0
HandsOnEnough =
    (L : Ledger) (line : List ℕ) (request : Request) (count : ℕ) → frame_of line ≡ Ok (request, count)
    → let following = drop (head_size (operation_of request)) (bytes_of line) in
    (reply_to_request L request (payload_of line) ≡ reply_to_request L request following)
    × (after_request L request (payload_of line) ≡ after_request L request following)
