-- A reply that the contract of a call allows is a refusal, or what the call answers when it is carried out on some ledger.
use Prim.Native.Nat.{ℕ}
use mathlib.Core.Bool.{true, true≢false}
use mathlib.Core.List.{List}
use mathlib.Core.Option.{Option, none, some}
use mathlib.Core.Path.{◌≡◌, refl, sym, ◌∙◌}
use mir.Val.{Val}
use denote.Laws.{Is}
use Rattle.lists.proofs.Cases.{by_test}
use Rattle.ledger.specs.Numbers.{answer_number}
use Rattle.ledger.specs.Objects.{Reply, plain, usage}
use Rattle.ledger.specs.Rules.{reply_to}
use Rattle.ledger.specs.Remaining.{remaining_life}
use Rattle.ledger.specs.Ledger.{Ledger, verdict_on, standing_verdict_on, reply_by, reply}
use Rattle.ledger.specs.declared.Answer.{Answer}
use Rattle.ledger.specs.declared.Answer.TheVariants.{Refused, Done, Advanced, Handle, Bytes, Counted, Lasts}
use Rattle.ledger.specs.declared.Refusal.{Refusal}
use Rattle.ledger.specs.declared.Request.{Request}
use Rattle.ledger.specs.declared.Request.TheVariants.{Use, Report, Remaining}
use Rattle.record.specs.Reading.{Typed}
use Rattle.record.specs.Tables.{tables_of}
use Rattle.record.specs.Pools.{is_well_formed}
use Rattle.record.specs.declared.Pool.{Pool}
use Rattle.record.proofs.Exists.{every_fit_record_reads}
use Rattle.record.specs.contracts.Pool.{the_row}
use Rattle.stores.specs.Lengths.{are_whole}
use Rattle.calls.specs.Contract.{is_stored, Obeys}
use Rattle.calls.proofs.Lent.{lent_typed}
use Rattle.record.proofs.Types.{pool_typed}

-- what a request answers when it is carried out
abbrev pub carried_out : Request → Ledger → Reply
carried_out (Use call) L = reply_to call L.memory
carried_out Report L = plain (Counted (usage L.memory L.expirations))
carried_out (Remaining task handle) L = plain (Lasts (remaining_life task handle L.memory.clocks L.expirations))

typed : (p : Pool) (vs : List Val) → Is the_row p vs → Typed (tables_of p)
typed p vs is =
    let (types, sized) = pool_typed p vs is in
    lent_typed p.head p.blocks p.expirations types sized.blocks sized.entries

-- by the ledger's verdict
by_verdict : {C : Type 0} {y done : Reply} (v : Option Refusal) → ((why : Refusal) → y ≡ plain (Refused why) → C) → (y ≡ done → C) → y ≡ reply_by v done → C
by_verdict none refused carried e = carried e
by_verdict (some why) refused carried e = refused why e

module _ {C : Type 0} {p : Pool} {vs : List Val} (is : Is the_row p vs) {new small large : List ℕ} {y : Reply} {p' : Pool} {small' large' : List ℕ} where
  by_ledger : (request : Request) → ((why : Refusal) → y ≡ plain (Refused why) → C) → ((L : Ledger) → y ≡ carried_out request L → C)
      → is_well_formed p ≡ true → (is_stored request ≡ true → are_whole p.head.limits small large ≡ true) → Obeys request new p small large y p' small' large' → C
  unfolding reply
  by_ledger Report refused carried w whole o =
      let (L, reads) = every_fit_record_reads p (typed p vs is) w small large in carried L (o.answers (record { fit = w; whole = whole }) L reads)
  by_ledger (Remaining task handle) refused carried w whole o =
      let (L, reads) = every_fit_record_reads p (typed p vs is) w small large in
      by_verdict (standing_verdict_on L task handle) refused (carried L) (o.answers (record { fit = w; whole = whole }) L reads)
  by_ledger (Use call) refused carried w whole o =
      let (L, reads) = every_fit_record_reads p (typed p vs is) w small large in by_verdict (verdict_on L call new) refused (carried L) (o.answers (record { fit = w; whole = whole }) L reads)

  pub by_reply : {request : Request} → Obeys request new p small large y p' small' large'
      → ((why : Refusal) → y ≡ plain (Refused why) → C) → ((L : Ledger) → y ≡ carried_out request L → C) → C
  by_reply {request} o refused carried =
      by_test (is_well_formed p)
      (λ w.
      by_test (are_whole p.head.limits small large) (λ whole. by_ledger request refused carried w (λ s. whole) o)
      (λ part.
      by_test (is_stored request) (λ s. refused _ (o.wrong w s part).refused)
      (λ s. by_ledger request refused carried w (λ t. absurd (true≢false (sym t ∙ s))) o)))
      (λ u. refused _ (o.unfit u).refused)

-- an answer that is not 0 is a refusal
pub refusal_in_lem : (answer : Answer) → (answer_number answer ≡ 0 → ⊥) → (why : Refusal) × (answer ≡ Refused why)
refusal_in_lem (Refused why) n = (why, refl)
refusal_in_lem Done n = absurd (n refl)
refusal_in_lem (Advanced b) n = absurd (n refl)
refusal_in_lem (Handle handle) n = absurd (n refl)
refusal_in_lem Bytes n = absurd (n refl)
refusal_in_lem (Counted usage) n = absurd (n refl)
refusal_in_lem (Lasts life) n = absurd (n refl)
