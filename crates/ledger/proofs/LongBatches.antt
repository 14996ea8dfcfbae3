-- Batches that are too long: one is refused like the other, whatever handles they have.
use Prim.Native.Nat.{ℕ, ◌<◌}
use mathlib.Core.Bool.{true, true≢false, ◌||◌}
use mathlib.Core.List.{List}
use mathlib.Core.Option.{Option, none, some}
use mathlib.Core.Path.{◌≡◌, refl, sym, ◌∙◌}
use borrow.Author.Tests.{lt-ltb}
use lib.Dec.{eqb, ltb}
use lib.ListN.{length}
use Rattle.lists.proofs.Cases.{or_right}
use Rattle.ledger.specs.Limits.{largest_batch}
use Rattle.ledger.specs.Objects.{handles_of}
use Rattle.ledger.specs.Refusals.{verdict}
use Rattle.ledger.specs.Rules.{tests_of}
use Rattle.ledger.specs.Ledger.{Ledger, facts_in, after_by, verdict_on, reply, next}
use Rattle.ledger.specs.declared.Call.{Call}
use Rattle.ledger.specs.declared.Call.TheVariants.{Batch}
use Rattle.ledger.specs.declared.Kind.{Kind}
use Rattle.ledger.specs.declared.Refusal.{Refusal}
use Rattle.ledger.proofs.Passed.{passed}

-- a refusal, whichever it is, leaves everything as it was
stays : {A : Type 0} (v : Option Refusal) (after now : A) → (v ≡ none → ⊥) → after_by v after now ≡ now
stays none after now h = absurd (h refl)
stays (some r) after now h = refl

module _ (L : Ledger) (task : ℕ) (kind : Kind) (extension : ℕ) where
  abbrev call : Call
  call = Batch task kind extension

  module _ (bytes : List ℕ) (long : largest_batch < length (handles_of bytes)) where
    too_many : (eqb (length (handles_of bytes)) 0 || ltb largest_batch (length (handles_of bytes))) ≡ true
    too_many = or_right (eqb (length (handles_of bytes)) 0) (lt-ltb largest_batch (length (handles_of bytes)) long)

    refused : verdict_on L call bytes ≡ none → ⊥
    unfolding tests_of
    refused e =
        let (known, (present, (active, (acts, (count, later))))) = passed (facts_in L) (tests_of call bytes) e in true≢false
        (sym too_many ∙ count)

    unchanged : next L call bytes ≡ L
    unfolding next
    unchanged = stays (verdict_on L call bytes) _ L refused

  module _ (xs ys : List ℕ) (long : largest_batch < length (handles_of xs)) (also : largest_batch < length (handles_of ys)) where
    pub long_reply : reply L call xs ≡ reply L call ys
    unfolding reply tests_of verdict
    long_reply = rw (too_many xs long, too_many ys also)

    pub long_next : next L call xs ≡ next L call ys
    long_next = unchanged xs long ∙ sym (unchanged ys also)
