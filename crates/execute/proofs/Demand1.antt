-- Demand 1.
use Prim.Native.Nat.{ℕ}
use mathlib.Core.Bool.{Bool, true, and-eq-true_iff}
use mathlib.Core.List.{List}
use mathlib.Core.Option.{Option, none, some}
use mathlib.Core.Path.{◌≡◌, refl, ap, subst, ◌∙◌}
use borrow.Author.Tests.{leb-true}
use lib.Dec.{leb}
use lib.ListN.{length, get_or}
use Rattle.std.specs.Prelude.{Ok, Err}
use Rattle.lists.proofs.Cases.{by_test}
use Rattle.ledger.specs.Ledger.{Frame}
use Rattle.ledger.specs.Numbers.{number_of, answer_number}
use Rattle.ledger.specs.declared.Answer.TheVariants.{Refused}
use Rattle.ledger.specs.declared.Refusal.{Refusal}
use Rattle.ledger.specs.declared.Request.{Request}
use Rattle.record.specs.declared.Pool.{Pool}
use Rattle.calls.specs.Contract.{Refuses}
use Rattle.calls.specs.Served.{Called, reply_of, IsReplyTo}
use Rattle.text.specs.Fields.{fields_at}
use Rattle.ledger.specs.Limits.{is_within}
use Rattle.text.specs.Hex.{is_hex, bytes_of}
use Rattle.frames.specs.Frames.{Operation, operations, operation_in, widths_of, is_size_of, request_of, frame_with, frame_as, frame_by, frame_in, frame_of, payload_of}
use Rattle.execute.specs.Execution.{Performs, Demand1}
use Rattle.answers.proofs.Shown.{shows_none}

module _ (bytes : List ℕ) (p : Pool) (small large : List ℕ) (r : Called) (small' large' : List ℕ) where
  is_reply : (frame : Frame) → Performs frame bytes p small large r small' large' → IsReplyTo frame bytes p small large (reply_of r small' large') r.pool small' large'
  is_reply (Ok (request, count)) s = s.obeys
  is_reply (Err why) (same, s, l) =
      record { refused = rw (same, shows_none small' large' 0 refl); same_pool = rw same; same_small = s; same_large = l }

  -- a refusal changes nothing, whether of the frame or of the pool
  refuses : (frame : Frame) → Performs frame bytes p small large r small' large' → (why : Refusal) → r.answer ≡ Refused why
      → Refuses why p small large (reply_of r small' large') r.pool small' large'
  refuses (Ok (request, count)) s why e = s.obeys.keeps why e
  refuses (Err refusal) (same, s, l) why e =
      record { refused = rw (e, same, shows_none small' large' 0 refl); same_pool = rw same; same_small = s; same_large = l }

  refused_by_lem : {frame : Frame} {why : Refusal} → frame ≡ Err why → Performs frame bytes p small large r small' large' → r.answer ≡ Refused why
  refused_by_lem e s = ap (λ (c : Called). c.answer) (subst (λ (f : Frame). Performs f bytes p small large r small' large') e s).0

-- what a frame is refused with
abbrev is_of_frames : Frame → Bool
is_of_frames (Ok (request, count)) = true
is_of_frames (Err why) = is_within 16 19 (number_of why)

by_request : (request : Option Request) (count : ℕ) → is_of_frames (frame_with request count) ≡ true
by_request none count = refl
by_request (some request) count = refl

by_operation : (o : Option Operation) (bytes : List ℕ) → is_of_frames (frame_by o bytes) ≡ true
unfolding frame_as
by_operation none bytes = refl
by_operation (some o) bytes = by_test (is_size_of o (length bytes)) (λ e. rw e (by_request (request_of o (fields_at 1 (widths_of o) bytes)) _)) (λ e. rw e)

of_frames : (line : List ℕ) → is_of_frames (frame_of line) ≡ true
unfolding frame_of frame_in
of_frames line = by_test (is_hex line) (λ e. rw e (by_operation (operation_in operations (get_or (bytes_of line) 0 0)) (bytes_of line))) (λ e. rw e)

pub demand_1 : Demand1
demand_1 line p small large out r small' large' out' x =
    record {
      reply = reply_of x.called small' large';
      replies = rw x.left (is_reply (payload_of line) p small large x.called small' large' (frame_of line) x.performs);
      numbered = x.numbered;
      shown = x.shown;
      no_call = λ why e.
          let (low, high) = (and-eq-true_iff (leb 16 (number_of why)) (leb (number_of why) 19)).0 (rw e at (of_frames line)) in
          let n = x.numbered ∙ ap answer_number (refused_by_lem (payload_of line) p small large x.called small' large' e x.performs) in
          rw n (leb-true 16 _ low, leb-true _ 19 high);
      refused = λ why e. rw x.left (refuses (payload_of line) p small large x.called small' large' (frame_of line) x.performs why e);
    }
