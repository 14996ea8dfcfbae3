-- Each entry's promise is a step.
use Prim.Native.Nat.{ℕ}
use native.Mathlib.Nat.{zero-add}
use mathlib.Core.Bool.{true, false, true≢false}
use mathlib.Core.List.{List, []}
use mathlib.Core.Option.{none, some}
use mathlib.Core.Path.{◌≡◌, refl, ap, ◌∙◌}
use borrow.Author.Tests.{leb-true, leb-false}
use lib.Dec.{leb}
use lib.ListN.{length}
use Rattle.std.specs.Prelude.{Result, Ok, Err}
use Rattle.lists.specs.Blocks.{overwritten}
use Rattle.lists.proofs.Cases.{by_test}
use Rattle.ledger.specs.Numbers.{number_of, answer_number}
use Rattle.ledger.specs.Objects.{Reply, plain}
use Rattle.ledger.specs.declared.Answer.{Answer}
use Rattle.ledger.specs.declared.Answer.TheVariants.{Refused}
use Rattle.ledger.specs.declared.Call.TheVariants.{Make, Refresh, Batch}
use Rattle.ledger.specs.declared.Kind.{Kind}
use Rattle.ledger.specs.declared.Refusal.{Refusal}
use Rattle.ledger.specs.declared.Refusal.TheVariants.{UnknownKind}
use Rattle.ledger.specs.declared.Request.{Request}
use Rattle.ledger.specs.declared.Request.TheVariants.{Use}
use Rattle.record.specs.declared.Pool.{Pool}
use Rattle.calls.specs.Contract.{Obeys}
use Rattle.text.specs.Hex.{Puts}
use Rattle.answers.specs.Answers.{answer_line, longest_answer}
use Rattle.frames.specs.Frames.{with_kind}
use Rattle.text.specs.HandleBytes.{handle_bytes}
use Rattle.execute.specs.Execution.{Answered}
use Rattle.execute.proofs.Demand1.{demand_1}
use Rattle.by_value.specs.Told.{too_short, lent_numbers, buffered, Told, with_number, told_by}
use Rattle.by_value_frame.specs.Carries.{Carries}
use Rattle.by_value.specs.Entries.{MakesBy, RefreshesBy, RefreshesAllBy}
use Rattle.by_value.proofs.Replies.{refusal_in_lem}
use Rattle.ramsummer.specs.Steps.{entry, line, Gives, EachGives, told_as_line}

-- a call that is told by numbers alone
module _ {request : Request} {bytes : List ℕ} {p : Pool} {small large : List ℕ} (answer : Answer) {p' : Pool} {small' large' : List ℕ} where
  called : {numbers numbers' : List ℕ} {number : ℕ} → Obeys request bytes p small large (plain answer) p' small' large'
      → with_number number (lent_numbers numbers') ≡ told_by (plain answer) (lent_numbers numbers)
      → Gives (entry (some request) bytes) (lent_numbers numbers) p small large (with_number number (lent_numbers numbers')) p' small' large'
  called {number = number} o told =
      let numbered : number ≡ answer_number answer = ap (λ (t : Told). t.number) told in
      record {
        unheard = λ e. absurd (true≢false e);
        heard = λ e. (plain answer, o, told);
        kept = λ n.
            let (why, r) = refusal_in_lem answer (λ z. n (numbered ∙ z)) in
            let kept = o.keeps why r in (kept.same_pool, kept.same_small, kept.same_large);
      }

-- a kind that is none
unknown : {bytes : List ℕ} {p p' : Pool} {small large small' large' numbers numbers' : List ℕ} {number : ℕ}
    → number ≡ number_of UnknownKind → p' ≡ p → small' ≡ small → large' ≡ large → numbers' ≡ numbers
    → Gives (entry none bytes) (lent_numbers numbers) p small large (with_number number (lent_numbers numbers')) p' small' large'
unfolding overwritten
unknown n a b c d =
    record {
      unheard = λ e. absurd (true≢false e);
      heard = λ e. (plain (Refused UnknownKind), record { refused = refl; same_pool = a; same_small = b; same_large = c }, rw (n, d));
      kept = λ e. (a, b, c);
    }

make_gives : (kind : Result Kind Refusal) (task extension size prefix : ℕ) (p : Pool) (small large numbers : List ℕ) (number : ℕ) (p' : Pool) (small' large' numbers' : List ℕ)
    → MakesBy kind task extension size prefix p small large numbers number p' small' large' numbers'
    → Gives (entry (with_kind kind (λ (k : Kind). Use (Make task k extension size prefix))) []) (lent_numbers numbers) p small large (with_number number (lent_numbers numbers')) p' small' large'
make_gives (Ok kind) task extension size prefix p small large numbers number p' small' large' numbers' m = called m.answer m.makes m.told
make_gives (Err why) task extension size prefix p small large numbers number p' small' large' numbers' (n, a, b, c, d) = unknown n a b c d

refresh_gives : (kind : Result Kind Refusal) (task extension handle : ℕ) (p : Pool) (number : ℕ) (p' : Pool) (small large : List ℕ)
    → RefreshesBy kind task extension handle p number p'
    → Gives (entry (with_kind kind (λ (k : Kind). Use (Refresh task k extension handle))) []) (lent_numbers []) p small large (with_number number (lent_numbers [])) p' small large
refresh_gives (Ok kind) task extension handle p number p' small large d = called d.answer (d.follows small large) d.told
refresh_gives (Err why) task extension handle p number p' small large (n, a) = unknown n a refl refl refl

batch_gives : (kind : Result Kind Refusal) (task extension : ℕ) (handles : List ℕ) (p : Pool) (number : ℕ) (p' : Pool) (small large : List ℕ)
    → RefreshesAllBy kind task extension handles p number p'
    → Gives (entry (with_kind kind (λ (k : Kind). Use (Batch task k extension))) (handle_bytes handles)) (lent_numbers []) p small large (with_number number (lent_numbers [])) p' small large
batch_gives (Ok kind) task extension handles p number p' small large d = called d.answer (d.follows small large) d.told
batch_gives (Err why) task extension handles p number p' small large (n, a) = unknown n a refl refl refl

as_line : (y : Reply) (old : ℕ) {number new : ℕ} {out out' : List ℕ} → number ≡ answer_number y.answer
    → Puts 0 (answer_line y.answer y.bytes) out out' new → with_number number (buffered new out') ≡ told_as_line y (buffered old out)
unfolding overwritten
as_line y old n placed = rw (n, placed.next, placed.bytes, zero-add)

line_gives : (text : List ℕ) (p : Pool) (small large out : List ℕ) (old number : ℕ) (p' : Pool) (small' large' out' : List ℕ) (new : ℕ)
    → Carries text p small large out old number p' small' large' out' new
    → Gives (line text) (buffered old out) p small large (with_number number (buffered new out')) p' small' large'
line_gives text p small large out old number p' small' large' out' new c =
    record {
      unheard = λ e. let (n, a, b, d, o, m) = short e in rw (n, o, m);
      heard = λ e. let a = answered e in (a.reply, a.replies, as_line a.reply old a.numbered a.shown);
      kept = λ n.
          by_test (leb longest_answer (length out))
          (λ e.
          let a = answered e in
          let (why, r) = refusal_in_lem a.reply.answer (λ z. n (a.numbered ∙ z)) in
          let kept = a.refused why r in (kept.same_pool, kept.same_small, kept.same_large))
          (λ e. let (m, a, b, d, o, c) = short e in (a, b, d));
    }
  where
    short : leb longest_answer (length out) ≡ false → (number ≡ too_short) × (p' ≡ p) × (small' ≡ small) × (large' ≡ large) × (out' ≡ out) × (new ≡ old)
    short e = c.short (leb-false longest_answer (length out) e)

    answered : leb longest_answer (length out) ≡ true → Answered text p small large out (record { pool = p'; number = number; length = new }) small' large' out'
    answered e = demand_1 text p small large out _ small' large' out' (c.roomy (leb-true longest_answer (length out) e))

pub each_gives : EachGives
each_gives =
    record {
      does = λ request new p numbers number p' numbers' small large d. called d.answer (d.follows small large) d.told;
      makes = make_gives;
      refreshes = refresh_gives;
      refreshes_all = batch_gives;
      writes = λ task handle offset bytes p small large number p' small' large' w. called w.answer w.writes w.told;
      copies =
          λ task handle p small large loans number loans' r.
          record {
            unheard = λ e. absurd (true≢false e);
            heard = λ e. (record { answer = r.answer; bytes = r.bytes }, r.reads, r.told);
            kept = λ n. (refl, refl, refl);
          };
      carries = line_gives;
    }
