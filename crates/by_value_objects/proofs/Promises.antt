-- From what the calls on the objects that stand promise of the columns to what their entries promise: the record put together, and the
-- reply told.
use Prim.Native.Nat.{ℕ, ◌≤◌, ◌<◌}
use native.Mathlib.Omega.{arith}
use mathlib.Core.List.{List, [], ◌∷◌}
use mathlib.Core.Path.{◌≡◌, refl, sym, ap, ◌∙◌}
use borrow.Author.Tests.{le-ltb, lt-ltb}
use denote.Laws.{Is}
use lib.ListN.{length}
use mir.Val.{Val}
use Rattle.lists.specs.Blocks.{overwritten}
use Rattle.ledger.specs.Numbers.{number_of, answer_number}
use Rattle.ledger.specs.Rules.{reply_to}
use Rattle.ledger.specs.declared.Answer.{Answer}
use Rattle.ledger.specs.declared.Answer.TheVariants.{Refused, Bytes, Counted, Lasts}
use Rattle.ledger.specs.declared.Call.TheVariants.{Release}
use Rattle.ledger.specs.declared.Life.{Life}
use Rattle.ledger.specs.declared.Refusal.{Refusal}
use Rattle.ledger.specs.declared.Refusal.TheVariants.{NoSuchTask, TaskPresent, TaskAbsent, TaskWaiting, TaskRunning, ExtensionTooLong, LengthOutOfRange, HandlesSpent, NoFreeBlock, NoFreeExpiration, HandleNotGiven, ObjectGone, OutsideObject, WrongStoreLength, NotWellFormed, NotHexadecimal, UnknownOperation, WrongFrameLength, UnknownKind, BatchOutOfRange, OnlyMakePins, NotPinned, SumDiffers, ReserveAboveLimit, ReserveNotFree, AtLimit, OnlyViews, PrefixTooLong, LimitsOutOfRange}
use Rattle.ledger.specs.declared.Request.{Request}
use Rattle.ledger.specs.declared.Request.TheVariants.{Use, Remaining}
use Rattle.ledger.specs.declared.Usage.{Usage}
use Rattle.record.specs.declared.Pool.{Pool}
use Rattle.record.specs.contracts.Pool.{the_row}
use Rattle.calls.specs.Contract.{Follows, Writes, ReadsBack, ReadsTo}
use Rattle.by_value.specs.Told.{too_short, buffered}
use Rattle.by_value.specs.Entries.{Does, WritesTo, CopiesOut}
use Rattle.by_value.specs.declared.Numbered.{Numbered}
use Rattle.by_value.proofs.Replies.{by_reply, refusal_in_lem}
use Rattle.by_value.proofs.Promises.{Gave, Tells, told, tells_by, answered, silent, does_silently}

-- a write or a release that was carried out on `q`, which is the record, and gave this
module _ {p : Pool} {vs : List Val} (is : Is the_row p vs) {q : Pool} (same : q ≡ p) {answer : Answer} {p' : Pool} {r : Numbered} (gave : Gave answer p' r) where
  pub writes : {task handle offset : ℕ} {bytes small large small' large' : List ℕ} → Writes task handle offset bytes q small large answer p' small' large'
      → WritesTo task handle offset bytes p small large r.number r.pool small' large'
  unfolding reply_to
  writes f =
      let w = rw same at f in record { answer = answer; writes = rw gave.1 w; told = told answer gave.0 (silent is (λ L. refl) w) }

  pub releases : {task handle : ℕ} → Follows (Use (Release task handle)) q answer p' → Does (Use (Release task handle)) p [] r.number r.pool []
  unfolding reply_to
  releases f = does_silently is same gave (λ L. refl) f

-- report and remaining life leave the record
pub reports : {request : Request} {p : Pool} (answer : Answer) {number : ℕ} {numbers numbers' : List ℕ}
    → Follows request p answer p → Tells answer numbers numbers' → number ≡ answer_number answer → Does request p numbers number p numbers'
reports answer f t n = record { answer = answer; follows = f; told = told answer n t }

-- a refusal tells no number
pub tells_none : {why : Refusal} (numbers : List ℕ) → Tells (Refused why) numbers numbers
unfolding overwritten
tells_none numbers = record { now = refl }

-- the figures
pub tells_usage : {u : Usage} {a b c d : ℕ} → Tells (Counted u) (a ∷ b ∷ c ∷ d ∷ []) (u.small ∷ u.large ∷ u.expirations ∷ u.given ∷ [])
unfolding overwritten
tells_usage = record { now = refl }

-- the two of a life
pub tells_life : {answer : Answer} {life : Life} {a b : ℕ} → answer ≡ Lasts life → Tells answer (a ∷ b ∷ []) (life.local ∷ life.global ∷ [])
unfolding overwritten
tells_life e = record { now = rw e }

-- remaining life, where it gives none: it was refused
pub no_life : {p : Pool} {vs : List Val} → Is the_row p vs → {answer : Answer} {p' : Pool} {task handle : ℕ} → Follows (Remaining task handle) p answer p'
    → ((life : Life) → answer ≡ Lasts life → ⊥) → (numbers : List ℕ) → Tells answer numbers numbers
unfolding overwritten
no_life is f none numbers =
    by_reply is (f [] []) (λ why e. tells_by (λ (a : Answer). numbers) (answered e) refl)
    (λ L e. absurd (none _ (answered e)))

-- the three ends of a read: refused,
module _ {task handle : ℕ} {p : Pool} {small large : List ℕ} {number : ℕ} where
  refusal_told : (why : Refusal) {out : List ℕ} {old : ℕ} → ReadsBack task handle p small large (Refused why) [] → number ≡ number_of why
      → CopiesOut task handle p small large (buffered old out) number (buffered old out)
  unfolding overwritten
  refusal_told why {out} reads n = record { answer = Refused why; bytes = []; reads = reads; told = rw (n, le-ltb (length out) 0 (omega arith)) }

  pub read_refused : {part out : List ℕ} {old : ℕ} → ReadsTo task handle p small large number part → (number ≡ 0 → ⊥)
      → CopiesOut task handle p small large (buffered old out) number (buffered old out)
  read_refused r n =
      let (why, e) = refusal_in_lem r.answer (λ z. n (r.numbered ∙ z)) in
      refusal_told why (rw (r.reads.keeps why e).refused at r.reads) (r.numbered ∙ ap answer_number e)

-- or with a part to copy: no refusal is numbered 0
above_0 : (why : Refusal) → number_of why ≡ 0 → ⊥
above_0 NoSuchTask e = omega arith
above_0 TaskPresent e = omega arith
above_0 TaskAbsent e = omega arith
above_0 TaskWaiting e = omega arith
above_0 TaskRunning e = omega arith
above_0 ExtensionTooLong e = omega arith
above_0 LengthOutOfRange e = omega arith
above_0 HandlesSpent e = omega arith
above_0 NoFreeBlock e = omega arith
above_0 NoFreeExpiration e = omega arith
above_0 HandleNotGiven e = omega arith
above_0 ObjectGone e = omega arith
above_0 OutsideObject e = omega arith
above_0 WrongStoreLength e = omega arith
above_0 NotWellFormed e = omega arith
above_0 NotHexadecimal e = omega arith
above_0 UnknownOperation e = omega arith
above_0 WrongFrameLength e = omega arith
above_0 UnknownKind e = omega arith
above_0 BatchOutOfRange e = omega arith
above_0 OnlyMakePins e = omega arith
above_0 NotPinned e = omega arith
above_0 SumDiffers e = omega arith
above_0 ReserveAboveLimit e = omega arith
above_0 ReserveNotFree e = omega arith
above_0 AtLimit e = omega arith
above_0 OnlyViews e = omega arith
above_0 PrefixTooLong e = omega arith
above_0 LimitsOutOfRange e = omega arith

module _ {task handle : ℕ} {p : Pool} {vs : List Val} (is : Is the_row p vs) {small large part : List ℕ} {number : ℕ} (r : ReadsTo task handle p small large number part) (zero : number ≡ 0) where
  reads_bytes : ReadsBack task handle p small large Bytes part
  unfolding reply_to
  reads_bytes =
      let bytes : r.answer ≡ Bytes = by_reply is r.reads (λ why e. absurd (above_0 why (sym (ap answer_number (answered e)) ∙ sym r.numbered ∙ zero))) (λ L e. answered e) in
      rw bytes at r.reads

  pub read_short : {out : List ℕ} {old : ℕ} → length out < length part → CopiesOut task handle p small large (buffered old out) too_short (buffered old out)
  read_short {out} short = record { answer = Bytes; bytes = part; reads = reads_bytes; told = rw (lt-ltb (length out) (length part) short) }

  pub read_copied : {out out' : List ℕ} {old : ℕ} → length part ≤ length out → out' ≡ overwritten 0 part out
      → CopiesOut task handle p small large (buffered old out) 0 (buffered (length part) out')
  unfolding overwritten
  read_copied {out} room done = record { answer = Bytes; bytes = part; reads = reads_bytes; told = rw (done, le-ltb (length out) (length part) room) }
