-- What it shows that the handles of the blocks are distinct.
use Rattle.std.proofs.Common.{◌≡◌, ℕ, zero, suc, true, not, ◌||◌, eqb, ◌≢◌, List, [], ◌∷◌, map, get_or, sym, refl, ap, ◌∙◌, eq-eqb, ne_eqb, eqb-true}
use mathlib.Core.Bool.{and-eq-true_iff}
use borrow.Author.Tests.{not-true, eqb-false}
use Rattle.lists.specs.Tests.{any, All}
use Rattle.lists.proofs.Cases.{by_test}
use Rattle.lists.proofs.All.{all_every, all_imp, all_get_or, none→All}
use Rattle.lists.proofs.Counts.{any_map}
use Rattle.lists.proofs.Pairwise.{Pairwise}
use Rattle.record.specs.Codes.{free_block}
use Rattle.record.specs.WellFormed.{is_distinct, handle_of}
use Rattle.record.specs.Tables.{BlockEntry}

-- two blocks have two handles, if the first has any
abbrev pub Apart : BlockEntry → BlockEntry → Type 0
Apart b c = b.handle ≢ 0 → b.handle ≢ c.handle

-- a block's handle is that of no later one
apart_later : (b : BlockEntry) (bs : List BlockEntry) → (eqb b.handle 0 || not (any (eqb b.handle) (map handle_of bs))) ≡ true
    → All (Apart b) bs
apart_later b bs e =
    by_test (eqb b.handle 0)
    (λ z. all_every (Apart b) (λ c n. absurd (n (eqb-true b.handle 0 z))) bs)
    (λ z.
    let none = sym (any_map (eqb b.handle) handle_of bs) ∙ not-true _ (rw z at e) in
    all_imp (λ c d n. eqb-false b.handle c.handle d) bs (none→All (λ (c : BlockEntry). eqb b.handle c.handle) bs none))

pub apart_blocks : (bs : List BlockEntry) → is_distinct (map handle_of bs) ≡ true → Pairwise Apart bs
apart_blocks [] e = tt
apart_blocks (b ∷ bs) e = let (head, tail) = (and-eq-true_iff _ _).0 e in (apart_later b bs head, apart_blocks bs tail)

abbrev pub handle_at : List BlockEntry → ℕ → ℕ
handle_at bs i = (get_or bs i free_block).handle

-- a handle stands at one place only
same_place : (bs : List BlockEntry) → Pairwise Apart bs → (i j : ℕ) → handle_at bs i ≢ 0 → handle_at bs i ≡ handle_at bs j → i ≡ j
same_place [] d i j used e = absurd (used refl)
same_place (b ∷ bs) (d, ds) zero zero used e = refl
same_place (b ∷ bs) (d, ds) zero (suc j) used e = absurd (all_get_or (Apart b) free_block (λ m. m) bs d j used e)
same_place (b ∷ bs) (d, ds) (suc i) zero used e = absurd (all_get_or (Apart b) free_block (λ m. m) bs d i (λ z. used (e ∙ z)) (sym e))
same_place (b ∷ bs) (d, ds) (suc i) (suc j) used e = ap suc (same_place bs ds i j used e)

-- the handle of a block in use tells its place
pub same_handle : (bs : List BlockEntry) → is_distinct (map handle_of bs) ≡ true → (i j : ℕ) → handle_at bs i ≢ 0
    → eqb (handle_at bs j) (handle_at bs i) ≡ eqb j i
same_handle bs distinct i j used =
    by_test (eqb j i)
    (λ e. rw e (eq-eqb _ _ (ap (handle_at bs) (eqb-true j i e))))
    (λ e. rw e (ne_eqb _ _ (λ q. eqb-false j i e (sym (same_place bs (apart_blocks bs distinct) i j used (sym q))))))
