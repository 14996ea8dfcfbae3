-- Line by line: a frame that yields no call is answered 16 to 19, and changes nothing.
use Prim.Native.Nat.{ℕ}
use mathlib.Core.Bool.{Bool, true, not}
use mathlib.Core.List.{List, [], ◌∷◌, ◌++◌}
use mathlib.Core.Logic.{◌↔◌}
use mathlib.Core.Option.{Option, none, some}
use mathlib.Core.Path.{◌≡◌, refl, sym, subst}
use borrow.Author.Tests.{eq-eqb, not-true}
use lib.ListN.{length, get_or}
use Rattle.std.specs.Prelude.{Ok, Err}
use Rattle.lists.specs.Tests.{All}
use Rattle.lists.proofs.Cases.{by_test}
use Rattle.ledger.specs.Objects.{Reply, plain}
use Rattle.ledger.specs.Ledger.{Ledger, Sent, fresh, replies, reply_to_frame, after_frame, Frame}
use Rattle.ledger.specs.Room.{is_room, peaks, Fits, HasRoom}
use Rattle.ledger.specs.declared.Answer.TheVariants.{Refused}
use Rattle.ledger.specs.declared.Request.{Request}
use Rattle.ledger.proofs.Room.{peaks_fit, has_room}
use Rattle.record.specs.Reading.{fresh_pool}
use Rattle.record.proofs.FreshReads.{fresh_reads, fresh_well_formed}
use Rattle.text.specs.Hex.{is_hex, bytes_of}
use Rattle.text.specs.Fields.{fields_at}
use Rattle.text.specs.Lines.{lines_of}
use Rattle.frames.specs.Frames.{Operation, operations, operation_in, is_size_of, request_of, widths_of, frame_with, frame_as, frame_by, frame_in, frame_of, payload_of}
use Rattle.frames.specs.Scripts.{sent_by, calls_in, calls_of}
use Rattle.script.specs.Output.{after_line, replies_to_lines}
use Rattle.script.specs.Room.{ScriptHasRoom}
use Rattle.script.proofs.Lines.{lines_follow}

-- no frame is refused for want of room
abbrev is_spared : Frame → Bool
is_spared (Ok (request, count)) = true
is_spared (Err why) = not (is_room why)

spared_with : (request : Option Request) (count : ℕ) → is_spared (frame_with request count) ≡ true
spared_with none count = refl
spared_with (some request) count = refl

spared_by : (o : Option Operation) (bytes : List ℕ) → is_spared (frame_by o bytes) ≡ true
unfolding frame_as
spared_by none bytes = refl
spared_by (some o) bytes = by_test (is_size_of o (length bytes)) (λ e. rw e (spared_with (request_of o (fields_at 1 (widths_of o) bytes)) _)) (λ e. rw e)

spared : (line : List ℕ) → is_spared (frame_of line) ≡ true
unfolding frame_of frame_in
spared line = by_test (is_hex line) (λ e. rw e (spared_by (operation_in operations (get_or (bytes_of line) 0 0)) (bytes_of line))) (λ e. rw e)

-- One frame: its answer and what follows, or what follows alone.
by_frame : (L : Ledger) (f : Frame) (b : List ℕ) (lines : List (List ℕ)) → is_spared f ≡ true
    → (All HasRoom (replies_to_lines (after_frame L f b) lines) ↔ All HasRoom (replies (after_frame L f b) (calls_in lines)))
    → (HasRoom (reply_to_frame L f b) × All HasRoom (replies_to_lines (after_frame L f b) lines)) ↔ All HasRoom (replies L (sent_by f b ++ calls_in lines))
unfolding replies
by_frame L (Ok (request, count)) b lines e (to, fro) = (λ (y, ys). (y, to ys), λ (y, ys). (y, fro ys))
by_frame L (Err why) b lines e (to, fro) = (λ (y, ys). to ys, λ ys. (has_room (plain (Refused why)) (not-true _ e), fro ys))

lines_room : (lines : List (List ℕ)) (L : Ledger) → All HasRoom (replies_to_lines L lines) ↔ All HasRoom (replies L (calls_in lines))
unfolding replies_to_lines replies
lines_room [] L = (λ a. tt, λ a. tt)
lines_room (line ∷ lines) L = by_frame L (frame_of line) (payload_of line) lines (spared line) (lines_room lines (after_line L line))

pub script_has_room : ScriptHasRoom
unfolding fresh_pool
script_has_room limits may small large s l script written read ys p' small' large' run =
    let fit = fresh_well_formed limits may in
    let (same, _) = lines_follow run fit (rw (eq-eqb _ _ s, eq-eqb _ _ l)) (fresh limits) (fresh_reads limits small large) in
    let (to, fro) = lines_room (lines_of written) (fresh limits) in
    let (up, down) = peaks_fit limits may (calls_of script) in
    subst (λ (zs : List Reply). All HasRoom zs ↔ Fits limits (peaks limits (calls_of script))) (sym same)
    (λ a. up (subst (λ (cs : List Sent). All HasRoom (replies (fresh limits) cs)) read (to a)), λ f. fro (subst (λ (cs : List Sent). All HasRoom (replies (fresh limits) cs)) (sym read) (down f)))
