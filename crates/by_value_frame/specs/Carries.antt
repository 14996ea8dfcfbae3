-- What the entry of a frame promises.
use Rattle.std.specs.Prelude.{ℕ, ◌≤◌, ◌<◌, List, ◌≡◌, length}
use Rattle.record.specs.declared.Pool.{Pool}
use Rattle.answers.specs.Answers.{longest_answer}
use Rattle.execute.specs.Execution.{Executes}
use Rattle.by_value.specs.Told.{too_short}

-- A line carried out, with its answer's line in the host's buffer; a buffer too short is told before the line is looked at.
pub record Carries (line : List ℕ) (p : Pool) (small large out : List ℕ) (old : ℕ) (number : ℕ) (p' : Pool) (small' large' out' : List ℕ) (new : ℕ) : Type 0 where
  pub short : length out < longest_answer → (number ≡ too_short) × (p' ≡ p) × (small' ≡ small) × (large' ≡ large) × (out' ≡ out) × (new ≡ old)
  pub roomy : longest_answer ≤ length out → Executes line p small large out (record { pool = p'; number = number; length = new }) small' large' out'
