-- Flags set for the blocks that entries name.
use Rattle.std.proofs.Common.{◌≡◌, ℕ, ◌+◌, ◌<◌, ◌≤◌, Bool, true, false, ◌||◌, eqb, List, get_or, set, replicate, sym, refl, ◌∙◌, arith, length-set, get_or-set_other, get_or-set_same, ne_eqb, eqb-true}
use mathlib.Core.Bool.{or-true, or-false}
use borrow.Author.Tests.{eqb-false}
use lib.ListN.{length-replicate, get_or-replicate}
use Rattle.lists.proofs.Cases.{by_test}
use Rattle.record.specs.Tables.{block_entries, expiration_entries, byte_values}
use Rattle.expirations.specs.Naming.{is_named_at, is_slot_at, BlockMarks, NamedSlots}
use Rattle.expirations.specs.Standing.{is_dated_at}
use Rattle.expirations.proofs.Places.{asked_start, asked_turn, asked_skip, asked_same, asked_end}

pub marks_start : (p : ℕ → ℕ → Bool) → BlockMarks p 0 (replicate byte_values false)
marks_start p =
    record {
      size = length-replicate byte_values false;
      so = λ block b. rw (get_or-replicate byte_values block false false (omega arith)) (asked_start (p block) 0);
    }

module _ {p : ℕ → ℕ → Bool} {i : ℕ} {flags : List Bool} (s : BlockMarks p i flags) where
  -- places that pass with no block
  pub marks_skip : {j : ℕ} → i ≤ j → ((block k : ℕ) → block < block_entries → i ≤ k → k < j → p block k ≡ false) → BlockMarks p j flags
  marks_skip h f = record { size = s.size; so = λ block b. asked_skip (s.so block b) h (λ k. f block k b) }

  -- one that passes with one flag's alone sets that
  pub marks_turn : (at : ℕ) → ((block : ℕ) → p block i ≡ eqb at block) → BlockMarks p (i + 1) (set flags at true)
  marks_turn at e =
      record {
        size = simp length-set s.size;
        so = λ block b.
            let set_as : get_or (set flags at true) block false ≡ (get_or flags block false || p block i) =
            rw (e block)
            (by_test (eqb at block)
            (λ t. rw (t, eqb-true at block t, get_or-set_same flags block true false (omega (arith, s.size)), or-true))
            (λ t. rw (t, get_or-set_other flags at block true false (λ g. eqb-false at block t (sym g)), or-false))) in
            rw set_as (asked_turn (s.so block b) refl);
      }

  pub marks_end : {n : ℕ} → i ≤ n → n ≤ i → BlockMarks p n flags
  marks_end h k = record { size = s.size; so = λ block b. asked_end (s.so block b) h k }

  -- the same by another test
  pub marks_same : {q : ℕ → ℕ → Bool} → ((block k : ℕ) → block < block_entries → k < i → p block k ≡ q block k) → BlockMarks q i flags
  marks_same f = record { size = s.size; so = λ block b. asked_same (s.so block b) (λ k l m. f block k b m) }

module _ (clocks named : List ℕ) {slots : List ℕ} (s : NamedSlots clocks named slots) where
  -- the flag that an entry sets is that of the block which it names, and no block's where it names none
  pub slot_named : (block k : ℕ) → block < block_entries → k < expiration_entries → is_slot_at slots block k ≡ is_named_at clocks named block k
  slot_named block k b m =
      rw (s.so k m)
      (by_test (is_dated_at clocks k) (λ d. rw d) (λ d. rw d (ne_eqb 255 block (λ e. omega arith))))

  pub slot_none : (block k : ℕ) → block < block_entries → k < expiration_entries → is_dated_at clocks k ≡ false → is_slot_at slots block k ≡ false
  slot_none block k b m d = slot_named block k b m ∙ rw d refl
