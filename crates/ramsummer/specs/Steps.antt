-- One action of a host: what it does through an entry, what it is told, and what becomes of record and stores. Every entry's promise is
-- such an action.
use Rattle.std.specs.Prelude.{ℕ, Bool, true, false, List, [], ◌∷◌, ◌≢◌, ◌≡◌, leb, length, Result}
use Rattle.std.proofs.Math.Option.{Option, some}
use Rattle.ledger.specs.Ledger.{Frame}
use Rattle.ledger.specs.Numbers.{answer_number}
use Rattle.ledger.specs.Objects.{Reply}
use Rattle.ledger.specs.declared.Call.TheVariants.{Make, Refresh, Read, Write, Batch}
use Rattle.ledger.specs.declared.Kind.{Kind}
use Rattle.ledger.specs.declared.Refusal.{Refusal}
use Rattle.ledger.specs.declared.Request.{Request}
use Rattle.ledger.specs.declared.Request.TheVariants.{Use}
use Rattle.ledger.specs.Limits.{is_allowed}
use Rattle.ledger.specs.declared.Limits.{Limits}
use Rattle.record.specs.Reading.{whole_small, whole_large}
use Rattle.record.specs.declared.Pool.{Pool}
use Rattle.answers.specs.Answers.{answer_line, longest_answer}
use Rattle.frames.specs.Frames.{frame_of, payload_of, frame_with, with_kind}
use Rattle.text.specs.HandleBytes.{handle_bytes}
use Rattle.calls.specs.Served.{IsReplyTo}
use Rattle.by_value.specs.Told.{too_short, Loans, lent_numbers, buffered, Told, with_number, filled, told_by}
use Rattle.by_value_frame.specs.Carries.{Carries}
use Rattle.by_value.specs.Entries.{Renews, TellsAwaited, TellsShare, DoesWith, MakesBy, RefreshesBy, RefreshesAllBy, WritesTo, CopiesOut}

-- a call by its own entry, with the bytes of a write or a batch, or no call where its kind is none; or a line
pub data Asked : Type 0 where
  entry : Option Request → List ℕ → Asked
  line : List ℕ → Asked

abbrev pub frame_asked : Asked → Frame
frame_asked (entry request bytes) = frame_with request 0
frame_asked (line text) = frame_of text

abbrev pub bytes_asked : Asked → List ℕ
bytes_asked (entry request bytes) = bytes
bytes_asked (line text) = payload_of text

-- a line is not looked at where the buffer may be too short for its answer
abbrev pub is_heard : Asked → Loans → Bool
is_heard (entry request bytes) loans = true
is_heard (line text) loans = leb longest_answer (length loans.buffer)

-- a reply as a line, and how long the line is
abbrev pub told_as_line : Reply → Loans → Told
told_as_line y loans =
    let line = answer_line y.answer y.bytes in
    with_number (answer_number y.answer) (filled (length line ∷ []) line loans)

abbrev pub tells : Asked → Reply → Loans → Told
tells (entry request bytes) y loans = told_by y loans
tells (line text) y loans = told_as_line y loans

pub record Gives (asked : Asked) (loans : Loans) (p : Pool) (small large : List ℕ) (told : Told) (p' : Pool) (small' large' : List ℕ) : Type 0 where
  pub unheard : is_heard asked loans ≡ false → told ≡ with_number too_short loans
  pub heard : is_heard asked loans ≡ true
      → (y : Reply) × IsReplyTo (frame_asked asked) (bytes_asked asked) p small large y p' small' large' × (told ≡ tells asked y loans)
  -- whatever number it is but 0, record and stores are what they were
  pub kept : told.number ≢ 0 → (p' ≡ p) × (small' ≡ small) × (large' ≡ large)

-- A host looks for whom the global time waits, and lends a number for it: record and stores stay.
pub record Awaits (old : ℕ) (p : Pool) (small large : List ℕ) (told : Told) (p' : Pool) (small' large' : List ℕ) : Type 0 where
  pub tasks : ℕ
  pub awaited : TellsAwaited p old told.number tasks
  pub shown : told.loans ≡ lent_numbers (tasks ∷ [])
  pub same_pool : p' ≡ p
  pub same_small : small' ≡ small
  pub same_large : large' ≡ large

-- Or it looks what a task made and may have, and lends six.
pub record Shares (task : ℕ) (old : List ℕ) (p : Pool) (small large : List ℕ) (told : Told) (p' : Pool) (small' large' : List ℕ) : Type 0 where
  pub numbers : List ℕ
  pub share : TellsShare p task old told.number numbers
  pub shown : told.loans ≡ lent_numbers numbers
  pub same_pool : p' ≡ p
  pub same_small : small' ≡ small
  pub same_large : large' ≡ large

-- A host asks, and lends numbers and a buffer; or it has a pool made of these figures, and from then on lends these stores, which are as
-- long as the blocks need where a site may choose the figures; or it looks for whom the global time waits, or what a task made and may
-- have.
pub data Action : Type 0 where
  asks : Asked → Loans → Action
  renews : (limits : Limits) (small large : List ℕ)
      → (is_allowed limits ≡ true → (length small ≡ whole_small limits) × (length large ≡ whole_large limits)) → Action
  awaits : ℕ → Action
  shares : ℕ → List ℕ → Action

abbrev pub Acts : Action → Pool → List ℕ → List ℕ → Told → Pool → List ℕ → List ℕ → Type 0
Acts (asks asked loans) p small large told p' small' large' = Gives asked loans p small large told p' small' large'
Acts (renews limits new_small new_large whole) p small large told p' small' large' =
    Renews limits told.number p' × (told.loans ≡ lent_numbers []) × (small' ≡ new_small) × (large' ≡ new_large)
Acts (awaits old) p small large told p' small' large' = Awaits old p small large told p' small' large'
Acts (shares task old) p small large told p' small' large' = Shares task old p small large told p' small' large'

-- Each entry's promise gives `Gives`, and those of fresh, awaited and share are what `Acts` says; of one that touches no store, whatever
-- stores stand beside the record.
pub record EachGives : Type 0 where
  pub does : (request : Request) (new : List ℕ) (p : Pool) (numbers : List ℕ) (number : ℕ) (p' : Pool) (numbers' small large : List ℕ)
      → DoesWith request new p numbers number p' numbers'
      → Gives (entry (some request) new) (lent_numbers numbers) p small large (with_number number (lent_numbers numbers')) p' small large
  pub makes : (kind : Result Kind Refusal) (task extension size prefix : ℕ) (p : Pool) (small large numbers : List ℕ) (number : ℕ) (p' : Pool) (small' large' numbers' : List ℕ)
      → MakesBy kind task extension size prefix p small large numbers number p' small' large' numbers'
      → Gives (entry (with_kind kind (λ (k : Kind). Use (Make task k extension size prefix))) []) (lent_numbers numbers) p small large (with_number number (lent_numbers numbers')) p' small' large'
  pub refreshes : (kind : Result Kind Refusal) (task extension handle : ℕ) (p : Pool) (number : ℕ) (p' : Pool) (small large : List ℕ)
      → RefreshesBy kind task extension handle p number p'
      → Gives (entry (with_kind kind (λ (k : Kind). Use (Refresh task k extension handle))) []) (lent_numbers []) p small large (with_number number (lent_numbers [])) p' small large
  pub refreshes_all : (kind : Result Kind Refusal) (task extension : ℕ) (handles : List ℕ) (p : Pool) (number : ℕ) (p' : Pool) (small large : List ℕ)
      → RefreshesAllBy kind task extension handles p number p'
      → Gives (entry (with_kind kind (λ (k : Kind). Use (Batch task k extension))) (handle_bytes handles)) (lent_numbers []) p small large (with_number number (lent_numbers [])) p' small large
  pub writes : (task handle offset : ℕ) (bytes : List ℕ) (p : Pool) (small large : List ℕ) (number : ℕ) (p' : Pool) (small' large' : List ℕ)
      → WritesTo task handle offset bytes p small large number p' small' large'
      → Gives (entry (some (Use (Write task handle offset))) bytes) (lent_numbers []) p small large (with_number number (lent_numbers [])) p' small' large'
  pub copies : (task handle : ℕ) (p : Pool) (small large : List ℕ) (loans : Loans) (number : ℕ) (loans' : Loans)
      → CopiesOut task handle p small large loans number loans'
      → Gives (entry (some (Use (Read task handle))) []) loans p small large (with_number number loans') p small large
  pub carries : (text : List ℕ) (p : Pool) (small large out : List ℕ) (old number : ℕ) (p' : Pool) (small' large' out' : List ℕ) (new : ℕ)
      → Carries text p small large out old number p' small' large' out' new
      → Gives (line text) (buffered old out) p small large (with_number number (buffered new out')) p' small' large'
