-- No block and no entry past the figures comes into use where others are ended or freed.
use Prim.Native.Nat.{ℕ, suc}
use mathlib.Core.Bool.{true, and-eq-true_iff, or-true}
use mathlib.Core.List.{List, [], ◌∷◌, map}
use mathlib.Core.Path.{◌≡◌, refl}
use lib.Dec.{eqb}
use Rattle.lists.specs.Tests.{any}
use Rattle.lists.specs.Tables.{all_from}
use Rattle.lists.proofs.Cases.{by_test}
use Rattle.ledger.specs.declared.Limits.{Limits}
use Rattle.record.specs.WellFormed.{is_naming, is_block_at, is_entry_at}
use Rattle.record.specs.Tables.{BlockEntry, ExpirationEntry}
use Rattle.steps.specs.Events.{kept_block}

pub kept_listed : (limits : Limits) (xs : List ExpirationEntry) (block : ℕ) (b : BlockEntry) → is_block_at limits block b ≡ true
    → is_block_at limits block (kept_block xs block b) ≡ true
kept_listed limits xs block b h = by_test (any (is_naming block) xs) (λ n. rw n h) (λ n. rw n)

pub counted_map : (limits : Limits) (f : ExpirationEntry → ExpirationEntry) → ((e : ExpirationEntry) → eqb e.clock 0 ≡ true → eqb (f e).clock 0 ≡ true)
    → (i : ℕ) (xs : List ExpirationEntry) → all_from i (is_entry_at limits) xs ≡ true → all_from i (is_entry_at limits) (map f xs) ≡ true
counted_map limits f free i [] h = refl
counted_map limits f free i (e ∷ es) h =
    let (head, tail) = (and-eq-true_iff (is_entry_at limits i e) _).0 h in
    rw (counted_map limits f free (suc i) es tail)
    (by_test (eqb e.clock 0) (λ z. rw (free e z)) (λ z. let below = rw z at head in rw (below, or-true)))
