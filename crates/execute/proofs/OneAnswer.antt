-- A line has one answer: its frame is refused, or the pool has one reply.
use Prim.Native.Nat.{ℕ, ◌+◌}
use mathlib.Core.List.{List}
use mathlib.Core.Path.{◌≡◌, sym, ap, ◌∙◌}
use lib.ListN.{length}
use Rattle.std.specs.Prelude.{Ok, Err}
use Rattle.lists.specs.Blocks.{overwritten}
use Rattle.ledger.specs.Ledger.{Frame}
use Rattle.ledger.specs.Numbers.{answer_number}
use Rattle.ledger.specs.Objects.{Reply}
use Rattle.record.specs.Reading.{Typed}
use Rattle.record.specs.Tables.{tables_of}
use Rattle.record.specs.declared.Pool.{Pool}
use Rattle.calls.specs.Served.{Called, reply_of}
use Rattle.calls.proofs.OneReply.{one_reply}
use Rattle.answers.specs.Answers.{answer_line}
use Rattle.frames.specs.Frames.{frame_of, payload_of}
use Rattle.execute.specs.Execution.{Performs, OneAnswer}

module _ (p : Pool) (small large : List ℕ) (types : Typed (tables_of p)) where
  same_reply : (frame : Frame) (bytes : List ℕ) (r r₂ : Called) (small' small'' large' large'' : List ℕ)
      → Performs frame bytes p small large r small' large' → Performs frame bytes p small large r₂ small'' large''
      → reply_of r small' large' ≡ reply_of r₂ small'' large''
  same_reply (Ok (request, count)) bytes r r₂ small' small'' large' large'' s s₂ =
      one_reply request bytes p small large types _ _ _ _ _ _ _ _ s.obeys s₂.obeys
  same_reply (Err why) bytes r r₂ small' small'' large' large'' (same, s, l) (same₂, s₂, l₂) = rw (same, s, l, same₂, s₂, l₂)

pub one_answer : OneAnswer
one_answer line p small large out types r r₂ small' small'' large' large'' out' out'' x x₂ =
    let same = same_reply p small large types (frame_of line) (payload_of line) x.called x₂.called small' small'' large' large'' x.performs x₂.performs in (
      x.numbered ∙ ap (λ (y : Reply). answer_number y.answer) same ∙ sym x₂.numbered,
      x.shown.next ∙ ap (λ (y : Reply). 0 + length (answer_line y.answer y.bytes)) same ∙ sym x₂.shown.next,
      x.shown.bytes ∙ ap (λ (y : Reply). overwritten 0 (answer_line y.answer y.bytes) out) same ∙ sym x₂.shown.bytes,
    )
