-- A line carried out, by its frame.
use Prim.Native.Nat.{ℕ}
use mathlib.Core.List.{List, []}
use mathlib.Core.Path.{◌≡◌, refl}
use lib.ListN.{take}
use Rattle.std.specs.Prelude.{Ok, Err}
use Rattle.ledger.specs.Ledger.{Frame}
use Rattle.ledger.specs.Numbers.{answer_number}
use Rattle.ledger.specs.declared.Answer.TheVariants.{Refused}
use Rattle.ledger.specs.declared.Refusal.{Refusal}
use Rattle.ledger.specs.declared.Request.{Request}
use Rattle.record.specs.Reading.{block_bytes}
use Rattle.record.specs.declared.Pool.{Pool}
use Rattle.calls.specs.Served.{Called, without_bytes, Serves}
use Rattle.answers.specs.Answers.{answer_line}
use Rattle.frames.specs.Frames.{Decodes}
use Rattle.text.specs.Hex.{Puts}
use Rattle.frames.proofs.Payloads.{payload_front}
use Rattle.execute.specs.Execution.{Executes}
use Rattle.answers.proofs.Shown.{shows_none}

module _ {line : List ℕ} {old new : List ℕ} {frame : Frame} (d : Decodes line old frame new) where
  module _ (p : Pool) (small large out out' : List ℕ) (n : ℕ) where
    pub refused_executes : {why : Refusal} → frame ≡ Err why → {none : List ℕ} → none ≡ []
        → {number : ℕ} → number ≡ answer_number (Refused why) → Puts 0 (answer_line (Refused why) none) out out' n
        → Executes line p small large out (record { pool = p; number = number; length = n }) small large out'
    refused_executes {why} e z m put =
        record {
          called = without_bytes (Refused why) p;
          performs = rw (← d.frame, e) (refl, refl, refl);
          left = refl;
          numbered = m;
          shown = rw (shows_none small large 0 refl) (rw z at put);
        }

    pub served_executes : {request : Request} {count : ℕ} → frame ≡ Ok (request, count) → {r : Called} {small' large' : List ℕ}
        → Serves request (take count new) p small large r small' large'
        → {number : ℕ} → number ≡ answer_number r.answer → Puts 0 (answer_line r.answer (block_bytes small' large' r.block r.length)) out out' n
        → Executes line p small large out (record { pool = r.pool; number = number; length = n }) small' large' out'
    served_executes e {r} s m put =
        record {
          called = r;
          performs = rw (← d.frame, e) (rw (payload_front (rw e at d)) at s);
          left = refl;
          numbered = m;
          shown = put;
        }
