-- The five events and join on the columns of a record: leave, block and tick tell whether time advanced, join, resume and view nothing.
use Prim.Native.Nat.{ℕ}
use mathlib.Core.Bool.{Bool, true, false, cond}
use mathlib.Core.List.{List, [], ◌∷◌}
use mathlib.Core.Path.{◌≡◌, refl}
use denote.Laws.{Is}
use mir.Val.{Val, bool_byte}
use Rattle.lists.specs.Blocks.{overwritten}
use Rattle.lists.proofs.Cases.{by_test}
use Rattle.ledger.specs.Tasks.{is_tested}
use Rattle.ledger.specs.Rules.{reply_to}
use Rattle.ledger.specs.declared.Answer.{Answer}
use Rattle.ledger.specs.declared.Call.TheVariants.{Join, Schedule}
use Rattle.ledger.specs.declared.Event.{Event}
use Rattle.ledger.specs.declared.Share.{Share}
use Rattle.ledger.specs.declared.Request.TheVariants.{Use}
use Rattle.record.specs.declared.Pool.{Pool}
use Rattle.record.specs.contracts.Pool.{the_row}
use Rattle.calls.specs.Contract.{Follows}
use Rattle.by_value.specs.Entries.{Does}
use Rattle.by_value.specs.declared.Numbered.{Numbered}
use Rattle.by_value.proofs.Replies.{by_reply}
use Rattle.by_value.proofs.Promises.{Gave, Tells, tells_by, answered, does, does_silently}
use Rattle.by_value_tasks.specs.Advanced.{advance_or}

bool_number : (b : Bool) → bool_byte b ≡ cond b 1 0
bool_number true = refl
bool_number false = refl

-- an event that was carried out on `q`, which is the record, and gave this
module _ {p : Pool} {vs : List Val} (is : Is the_row p vs) {q : Pool} (same : q ≡ p) {answer : Answer} {p' : Pool} {r : Numbered} (gave : Gave answer p' r) {event : Event} {task : ℕ}
    (f : Follows (Use (Schedule event task)) q answer p') where
  tells_advance : (old : ℕ) → Follows (Use (Schedule event task)) p answer p' → Tells answer (old ∷ []) (advance_or old answer ∷ [])
  unfolding reply_to overwritten
  tells_advance old g =
      by_reply is (g [] []) (λ why e. tells_by new (answered e) refl)
      (λ L e. by_test (is_tested event) (λ t. tells_by new (rw t at (answered e)) (rw (bool_number _))) (λ t. tells_by new (rw t at (answered e)) refl))
    where
      new : Answer → List ℕ
      new a = advance_or old a ∷ []

  pub event_told : {old new : ℕ} → new ≡ advance_or old answer → Does (Use (Schedule event task)) p (old ∷ []) r.number r.pool (new ∷ [])
  event_told n = rw n (does is same gave f (tells_advance _))

  pub event_silent : is_tested event ≡ false → Does (Use (Schedule event task)) p [] r.number r.pool []
  unfolding reply_to
  event_silent t = does_silently is same gave (λ L. rw t) f

-- the same of a join
pub join_silent : {p : Pool} {vs : List Val} → Is the_row p vs → {q : Pool} → q ≡ p → {answer : Answer} {p' : Pool} {r : Numbered} → Gave answer p' r → {task : ℕ} {share : Share}
    → Follows (Use (Join task share)) q answer p' → Does (Use (Join task share)) p [] r.number r.pool []
unfolding reply_to
join_silent is same gave f = does_silently is same gave (λ L. refl) f
