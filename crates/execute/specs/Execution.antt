-- D1, demand 1: a line of any bytes is carried out or refused, on any record with any stores; and what the ledger makes of a frame.
use Rattle.record.specs.declared.ExpirationTable.{ExpirationTable}
use Rattle.record.specs.declared.BlockTable.{BlockTable}
use Rattle.std.specs.Prelude.{ℕ, ◌≤◌, List, ◌≡◌, Ok, Err}
use Rattle.ledger.specs.Ledger.{Frame}
use Rattle.ledger.specs.Numbers.{answer_number}
use Rattle.ledger.specs.Objects.{Reply}
use Rattle.ledger.specs.declared.Answer.TheVariants.{Refused}
use Rattle.ledger.specs.declared.Refusal.{Refusal}
use Rattle.record.specs.Reading.{Typed}
use Rattle.record.specs.Tables.{tables_of, pooled}
use Rattle.record.specs.declared.Pool.{Pool}
use Rattle.calls.specs.Contract.{Refuses}
use Rattle.calls.specs.Served.{Called, without_bytes, reply_of, Serves, IsReplyTo}
use Rattle.answers.specs.Answers.{answer_line}
use Rattle.frames.specs.Frames.{frame_of, payload_of}
use Rattle.text.specs.Hex.{Puts}
use Rattle.execute.specs.declared.Executed.{Executed}
use Rattle.execute.specs.declared.Carried.{Carried}

-- F26: a frame carried out: refused with nothing changed, or served by the pool
abbrev pub Performs : Frame → List ℕ → Pool → List ℕ → List ℕ → Called → List ℕ → List ℕ → Type 0
Performs (Ok (request, count)) bytes p small large r small' large' = Serves request bytes p small large r small' large'
Performs (Err why) bytes p small large r small' large' =
    (r ≡ without_bytes (Refused why) p) × (small' ≡ small) × (large' ≡ large)

-- A line carried out: what its frame gives, the record that is left, the answer's number, and its line in a buffer.
pub record Executes (line : List ℕ) (p : Pool) (small large out : List ℕ) (r : Executed) (small' large' out' : List ℕ) : Type 0 where
  pub called : Called
  pub performs : Performs (frame_of line) (payload_of line) p small large called small' large'
  pub left : r.pool ≡ called.pool
  pub numbered : r.number ≡ answer_number called.answer
  pub shown : Puts 0 (answer_line called.answer (reply_of called small' large').bytes) out out' r.length

-- what a caller by value is given, with the tables that were left
abbrev pub executed_of : Carried → BlockTable → ExpirationTable → Executed
executed_of r blocks expirations = record { pool = pooled r.head blocks expirations; number = r.number; length = r.length }

-- what a caller is given that lends the record to store into
abbrev pub executed_by : Carried → Pool → Executed
executed_by r left = record { pool = left; number = r.number; length = r.length }

-- The contract settles the answer: any two results that it allows for one line on one record with its stores and buffer have the same
-- number, length and buffer. `Typed` is what the record's type gives of every value.
abbrev pub OneAnswer : Type 0
OneAnswer =
    (line : List ℕ) (p : Pool) (small large out : List ℕ) → Typed (tables_of p)
    → (r r₂ : Executed) (small' small'' large' large'' out' out'' : List ℕ)
    → Executes line p small large out r small' large' out' → Executes line p small large out r₂ small'' large'' out''
    → (r.number ≡ r₂.number) × (r.length ≡ r₂.length) × (out' ≡ out'')

-- A line has that reply, by its number and in its line: 16 to 19 where it yields no call. Every refusal is its number alone and leaves
-- record and both stores the same.
pub record Answered (line : List ℕ) (p : Pool) (small large out : List ℕ) (r : Executed) (small' large' out' : List ℕ) : Type 0 where
  pub reply : Reply
  pub replies : IsReplyTo (frame_of line) (payload_of line) p small large reply r.pool small' large'
  pub numbered : r.number ≡ answer_number reply.answer
  pub shown : Puts 0 (answer_line reply.answer reply.bytes) out out' r.length
  pub no_call : (why : Refusal) → frame_of line ≡ Err why → (16 ≤ r.number) × (r.number ≤ 19)
  pub refused : (why : Refusal) → reply.answer ≡ Refused why → Refuses why p small large reply r.pool small' large'

-- Demand 1, of all that the contract allows and so of this code; every call ends, as every Rattle function does
abbrev pub Demand1 : Type 0
Demand1 =
    (line : List ℕ) (p : Pool) (small large out : List ℕ) (r : Executed) (small' large' out' : List ℕ)
    → Executes line p small large out r small' large' out' → Answered line p small large out r small' large' out'
