-- Handles of which no two are the same, by the places where they stand.
use Prim.Native.Nat.{ℕ, suc, ◌<◌}
use native.Mathlib.Omega.{arith}
use mathlib.Core.Bool.{Bool, true, false≢true, not, ◌||◌}
use mathlib.Core.List.{List, [], ◌∷◌}
use mathlib.Core.Logic.{◌≢◌}
use mathlib.Core.Path.{◌≡◌, refl, sym, ap, ◌∙◌}
use borrow.Author.Tests.{eqb-true, eqb-false, eq-eqb}
use lib.Dec.{eqb}
use lib.ListN.{length, get_or}
use Rattle.lists.specs.Tests.{any}
use Rattle.lists.proofs.Cases.{by_test}
use Rattle.record.specs.Tables.{BlockEntry, blocks_of}
use Rattle.record.specs.WellFormed.{is_distinct}
use Rattle.record.proofs.Columns.{block_at, handles_of_lem}
use Rattle.record.proofs.Distinct.{handle_at, same_handle}

-- a test that some element passes, some place passes
pub any_place {ℓ κ} : {A : Type ℓ} {C : Type κ} (p : A → Bool) (d : A) (xs : List A) → any p xs ≡ true
    → ((j : ℕ) → j < length xs → p (get_or xs j d) ≡ true → C) → C
any_place p d [] e f = absurd (false≢true e)
any_place p d (x ∷ xs) e f =
    by_test (p x) (λ t. f 0 (omega arith) t) (λ t. any_place p d xs (rw t at e) (λ j l h. f (suc j) (omega arith) h))

-- a handle stands at one place only
abbrev pub OnePlace : List ℕ → Type 0
OnePlace hs = (i j : ℕ) → i < length hs → j < length hs → get_or hs i 0 ≢ 0 → get_or hs i 0 ≡ get_or hs j 0 → i ≡ j

pub distinct_by : (hs : List ℕ) → OnePlace hs → is_distinct hs ≡ true
distinct_by [] f = refl
distinct_by (h ∷ hs) f =
    let new : (eqb h 0 || not (any (eqb h) hs)) ≡ true =
    by_test (eqb h 0)
    (λ z. rw z)
    (λ z.
    by_test (any (eqb h) hs)
    (λ t.
    absurd
    (any_place (eqb h) 0 hs t
    (λ j l e. omega (arith, f 0 (suc j) (omega arith) (omega arith) (eqb-false h 0 z) (eqb-true h (get_or hs j 0) e)))))
    (λ t. rw (z, t))) in
    rw new (distinct_by hs (λ i j a b used same. omega (arith, f (suc i) (suc j) (omega arith) (omega arith) used same)))

pub distinct_places : (hs : List ℕ) → is_distinct hs ≡ true → OnePlace hs
distinct_places hs e i j a b used same =
    let bs = blocks_of hs hs in
    let at : (k : ℕ) → handle_at bs k ≡ get_or hs k 0 = λ k. ap (λ (x : BlockEntry). x.handle) (block_at hs hs refl refl k) in
    let told = same_handle bs (rw (handles_of_lem hs hs refl refl) e) i j (λ z. used (sym (at i) ∙ z)) in
    sym (eqb-true j i (sym told ∙ eq-eqb (handle_at bs j) (handle_at bs i) (at j ∙ sym same ∙ sym (at i))))
