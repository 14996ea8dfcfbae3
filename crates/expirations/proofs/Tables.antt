-- What was asked by places, as the tables have it.
use Rattle.std.proofs.Common.{◌≡◌, ℕ, zero, suc, ◌<◌, Bool, true, false, eqb, leb, List, [], ◌∷◌, length, get_or, sym, refl, ap, ◌∙◌, arith, le-ltb, lt-ltb, ne_eqb, eqb-true, le-leb, leb-false, leb-true}
use borrow.Author.Tests.{eqb-false, lt-leb}
use Rattle.lists.specs.Tables.{first_from}
use Rattle.lists.specs.Tests.{any}
use Rattle.lists.proofs.Cases.{by_test, or_right}
use Rattle.lists.proofs.First.{first_within, first_passes}
use Rattle.record.specs.Codes.{due_by, is_dated, free_entry, local_code, global_code, departed_code, pinned_code}
use Rattle.record.specs.Tables.{ExpirationEntry, expiration_entry, entries_of, SizedEntries, expiration_entries}
use Rattle.record.specs.WellFormed.{is_naming}
use Rattle.record.proofs.Columns.{length_entries, entry_at}
use Rattle.expirations.specs.Naming.{is_named_at}
use Rattle.expirations.specs.Places.{SomeBetween}
use Rattle.expirations.specs.Standing.{is_dated_clock}
use Rattle.expirations.proofs.Places.{split, asked_at, asked_same}

module _ {ℓ} {A : Type ℓ} (p : A → Bool) (d : A) where
  any_none : (xs : List A) → ((k : ℕ) → k < length xs → p (get_or xs k d) ≡ false) → any p xs ≡ false
  any_none [] h = refl
  any_none (x ∷ xs) h = rw (h 0 (omega arith)) (any_none xs (λ k l. h (suc k) (omega arith)))

  any_place : (xs : List A) (k : ℕ) → k < length xs → p (get_or xs k d) ≡ true → any p xs ≡ true
  any_place [] k l e = absurd (omega arith)
  any_place (x ∷ xs) zero l e = rw e
  any_place (x ∷ xs) (suc k) l e = or_right (p x) (any_place xs k (omega arith) e)

  -- all places asked
  asked_any : (xs : List A) {n : ℕ} {r : Bool} → length xs ≡ n → SomeBetween (λ k. p (get_or xs k d)) 0 n r → r ≡ any p xs
  asked_any xs {r = r} e s =
      by_test r
      (λ t. let (k, l, m, h) = s.some t in t ∙ sym (any_place xs k (omega arith) h))
      (λ t. t ∙ sym (any_none xs (λ k l. s.none t k (omega arith) (omega arith))))

-- the clock of an expiration in use
dated_clock : (clock due : ℕ) → is_dated_clock clock ≡ is_dated (due_by clock due)
unfolding due_by
dated_clock clock due =
    by_test (eqb clock 0)
    (λ z. rw (eqb-true clock 0 z))
    (λ z.
    split clock global_code
    (λ l.
    let low = lt-leb global_code clock l in
    let below = le-leb clock pinned_code (omega arith) in
    by_test (leb local_code clock)
    (λ m. rw (z, low, lt-ltb clock global_code l, m, below))
    (λ m. rw (z, low, m, ne_eqb clock pinned_code (λ e. omega arith))))
    (λ l.
    let least = le-leb local_code clock (omega arith) in
    let high = le-leb global_code clock l in
    by_test (leb clock departed_code)
    (λ m. rw (z, high, least, m, le-leb clock pinned_code (omega (arith, leb-true clock departed_code m))))
    (λ m.
    by_test (eqb clock pinned_code)
    (λ p. rw (eqb-true clock pinned_code p))
    (λ p.
    let above = lt-leb clock pinned_code (omega (arith, leb-false clock departed_code m, eqb-false clock pinned_code p)) in
    rw (z, high, m, least, le-ltb clock global_code l, p, above)))))

-- what a test of the entries finds, by a test of their numbers at each place
module _ {cs ns ds : List ℕ} (sized : SizedEntries cs ns ds) where
  pub size_of : length (entries_of cs ns ds) ≡ expiration_entries
  size_of = length_entries cs ns ds sized.of_clocks sized.of_named sized.of_dues

  pub entry_of : (k : ℕ) → get_or (entries_of cs ns ds) k free_entry ≡ expiration_entry (get_or cs k 0) (get_or ns k 0) (get_or ds k 0)
  entry_of = entry_at cs ns ds sized.of_clocks sized.of_named sized.of_dues

  pub asked_entries : (p : ExpirationEntry → Bool) {q : ℕ → Bool} {r : Bool}
      → ((k : ℕ) → q k ≡ p (expiration_entry (get_or cs k 0) (get_or ns k 0) (get_or ds k 0))) → SomeBetween q 0 expiration_entries r → r ≡ any p (entries_of cs ns ds)
  asked_entries p f s = asked_any p free_entry (entries_of cs ns ds) size_of (asked_same s (λ k l m. f k ∙ ap p (sym (entry_of k))))

-- a block is named where one of all places names it
pub asked_naming : {cs ns ds : List ℕ} → SizedEntries cs ns ds → (block : ℕ) {r : Bool} → SomeBetween (is_named_at cs ns block) 0 expiration_entries r
    → r ≡ any (is_naming block) (entries_of cs ns ds)
asked_naming {cs} {ns} {ds} sized block s = asked_entries sized (is_naming block) (λ k. rw (dated_clock (get_or cs k 0) (get_or ds k 0))) s

-- and one of them does, where it is named
pub naming_asked : {cs ns ds : List ℕ} → SizedEntries cs ns ds → (block : ℕ) → any (is_naming block) (entries_of cs ns ds) ≡ true
    → SomeBetween (is_named_at cs ns block) 0 expiration_entries true
naming_asked {cs} {ns} {ds} sized block e =
    let xs = entries_of cs ns ds in
    let k = first_from 0 (is_naming block) xs in
    asked_at (is_named_at cs ns block) k (omega arith) (omega (arith, first_within (is_naming block) xs e, size_of sized))
    (rw (dated_clock (get_or cs k 0) (get_or ds k 0)) (sym (ap (is_naming block) (entry_of sized k)) ∙ first_passes (is_naming block) free_entry xs e))
