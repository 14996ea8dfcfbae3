-- The pinned expiration of a block: by the numbers of its entry, and as the tables have it.
use Rattle.std.proofs.Common.{◌≡◌, ℕ, Bool, ◌&&◌, eqb, ltb, leb, List, length, get_or, eqb-true}
use Rattle.lists.proofs.Cases.{by_test}
use Rattle.record.specs.Codes.{is_global_clock, due_by, is_pinned_due, local_code, global_code, pinned_code}
use Rattle.record.specs.Tables.{SizedEntries, expiration_entries}
use Rattle.record.specs.WellFormed.{is_pin_on}
use Rattle.expirations.specs.Pinning.{is_pin_at, Pins}
use Rattle.expirations.specs.Places.{SomeBetween}
use Rattle.expirations.proofs.Tables.{asked_entries}

-- its clock is no other's
pub pinned_clock : (clock due : ℕ) → eqb clock pinned_code ≡ is_pinned_due (due_by clock due)
unfolding due_by
pinned_clock clock due =
    by_test (eqb clock pinned_code)
    (λ p. rw (eqb-true clock pinned_code p))
    (λ p.
    by_test (eqb clock 0)
    (λ z. rw (p, z))
    (λ z.
    by_test (is_global_clock clock)
    (λ g. rw (p, z, g))
    (λ g. by_test (leb local_code clock && ltb clock global_code) (λ l. rw (p, z, g, l)) (λ l. rw (p, z, g, l)))))

module _ {cs ns : List ℕ} (c : length cs ≡ expiration_entries) (n : length ns ≡ expiration_entries) where
  pub sized_with : {ds : List ℕ} → length ds ≡ expiration_entries → SizedEntries cs ns ds
  sized_with d = record { of_clocks = c; of_named = n; of_dues = d }

  -- all places asked
  pub pins_all : {block : ℕ} {r : Bool} → SomeBetween (is_pin_at block cs ns) 0 expiration_entries r → Pins block cs ns r
  pins_all {block} s =
      record { so = λ ds d. asked_entries (sized_with d) (is_pin_on block) (λ k. rw (pinned_clock (get_or cs k 0) (get_or ds k 0))) s }
