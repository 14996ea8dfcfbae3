-- From what the calls on lent tables promise to what the entries promise: the record put together, and the reply told.
use Prim.Native.Nat.{ℕ}
use mathlib.Core.List.{List, [], ◌∷◌}
use mathlib.Core.Path.{◌≡◌, refl, ap, ◌∙◌}
use denote.Laws.{Is}
use mir.Val.{Val}
use Rattle.lists.specs.Blocks.{overwritten}
use Rattle.ledger.specs.Numbers.{answer_number}
use Rattle.ledger.specs.Objects.{Reply, plain}
use Rattle.ledger.specs.Rules.{reply_to}
use Rattle.ledger.specs.Ledger.{Ledger}
use Rattle.ledger.specs.declared.Answer.{Answer}
use Rattle.ledger.specs.declared.Answer.TheVariants.{Done}
use Rattle.ledger.specs.declared.Call.TheVariants.{Make, Refresh, Batch}
use Rattle.ledger.specs.declared.Kind.{Kind}
use Rattle.ledger.specs.declared.Request.{Request}
use Rattle.ledger.specs.declared.Request.TheVariants.{Use}
use Rattle.record.specs.declared.Pool.{Pool}
use Rattle.record.specs.contracts.Pool.{the_row}
use Rattle.calls.specs.Contract.{Obeys, FollowsWith, Makes}
use Rattle.by_value.specs.Told.{lent_numbers, with_number, numbers_of, told_by, handle_or}
use Rattle.by_value.specs.Entries.{DoesWith, Does, MakesOne}
use Rattle.by_value.specs.declared.Numbered.{Numbered}
use Rattle.by_value.proofs.Replies.{carried_out, by_reply}

-- an answer by its number, and the record that is left: what `store_head` and `refused` leave
abbrev pub Gave : Answer → Pool → Numbered → Type 0
Gave answer p' r = (r.number ≡ answer_number answer) × (r.pool ≡ p')

-- what the lent numbers come to after an answer
pub record Tells (answer : Answer) (numbers numbers' : List ℕ) : Type 0 where
  pub now : numbers' ≡ overwritten 0 (numbers_of answer []) numbers

pub told : (answer : Answer) {number : ℕ} {numbers numbers' : List ℕ} → number ≡ answer_number answer → Tells answer numbers numbers'
    → with_number number (lent_numbers numbers') ≡ told_by (plain answer) (lent_numbers numbers)
unfolding overwritten
told answer n t = rw (n, t.now)

-- by what the answer is
pub tells_by : {answer x : Answer} (new : Answer → List ℕ) {numbers : List ℕ} → answer ≡ x → new x ≡ overwritten 0 (numbers_of x []) numbers → Tells answer numbers (new answer)
tells_by new e n = rw e (record { now = n })

pub answered : {y y₂ : Reply} → y ≡ y₂ → y.answer ≡ y₂.answer
answered e = ap (λ (y : Reply). y.answer) e

-- a make tells its handle; write and the calls of `does-silently` tell no number
module _ {p : Pool} {vs : List Val} (is : Is the_row p vs) {answer : Answer} {p' : Pool} {new small large small' large' : List ℕ} where
  tells_handle : {task : ℕ} {kind : Kind} {extension size prefix : ℕ} → Obeys (Use (Make task kind extension size prefix)) new p small large (plain answer) p' small' large'
      → (old : ℕ) → Tells answer (old ∷ []) (handle_or old answer ∷ [])
  unfolding reply_to overwritten
  tells_handle o old =
      by_reply is o (λ why e. tells_by (λ (a : Answer). handle_or old a ∷ []) (answered e) refl) (λ L e. tells_by (λ (a : Answer). handle_or old a ∷ []) (answered e) refl)

  pub silent : {request : Request} → ((L : Ledger) → (carried_out request L).answer ≡ Done) → Obeys request new p small large (plain answer) p' small' large' → Tells answer [] []
  unfolding overwritten
  silent done o =
      by_reply is o (λ why e. tells_by (λ (a : Answer). []) (answered e) refl) (λ L e. tells_by (λ (a : Answer). []) (answered e ∙ done L) refl)

-- a call that was carried out on `q`, which is the record, and gave this
module _ {p : Pool} {vs : List Val} (is : Is the_row p vs) {q : Pool} (same : q ≡ p) {answer : Answer} {p' : Pool} {r : Numbered} (gave : Gave answer p' r) where
  pub does : {request : Request} {new numbers numbers' : List ℕ} → FollowsWith request new q answer p' → (FollowsWith request new p answer p' → Tells answer numbers numbers')
      → DoesWith request new p numbers r.number r.pool numbers'
  does f t = let g = rw same at f in record { answer = answer; follows = rw gave.1 g; told = told answer gave.0 (t g) }

  -- join, resume, refresh, batch and release
  pub does_silently : {request : Request} {new : List ℕ} → ((L : Ledger) → (carried_out request L).answer ≡ Done) → FollowsWith request new q answer p'
      → DoesWith request new p [] r.number r.pool []
  does_silently done f = does f (λ g. silent is done (g [] []))

  pub refreshes : {task : ℕ} {kind : Kind} {extension handle : ℕ} → FollowsWith (Use (Refresh task kind extension handle)) [] q answer p'
      → Does (Use (Refresh task kind extension handle)) p [] r.number r.pool []
  unfolding reply_to
  refreshes f = does_silently (λ L. refl) f

  pub refreshes_each : {task : ℕ} {kind : Kind} {extension : ℕ} {new : List ℕ} → FollowsWith (Use (Batch task kind extension)) new q answer p'
      → DoesWith (Use (Batch task kind extension)) new p [] r.number r.pool []
  unfolding reply_to
  refreshes_each f = does_silently (λ L. refl) f

  pub makes : {task : ℕ} {kind : Kind} {extension size prefix : ℕ} {small large small' large' : List ℕ} {old new : ℕ}
      → Makes task kind extension size prefix q small large answer p' small' large' → new ≡ handle_or old answer
      → MakesOne task kind extension size prefix p small large (old ∷ []) r.number r.pool small' large' (new ∷ [])
  makes f n =
      let m = rw same at f in rw n (record { answer = answer; makes = rw gave.1 m; told = told answer gave.0 (tells_handle is m _) })
