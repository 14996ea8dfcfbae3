-- Passes over columns, row by row.
use Prim.Native.Nat.{ℕ, ◌≤◌}
use native.Mathlib.Omega.{arith}
use mathlib.Core.List.{List, [], ◌∷◌, map}
use mathlib.Core.Path.{◌≡◌, refl, ap}
use lib.Dec.{eqb}
use lib.ListN.{length, get_or}
use Rattle.lists.specs.Tables.{map_from}
use Rattle.lists.specs.Tests.{filter, All}
use Rattle.lists.proofs.Cases.{by_test}
use Rattle.lists.proofs.Tables.{map_from_suc, map_from_map_from, map_from_same}
use Rattle.sheet.specs.Rows.{Row, row_of, rows, is_left}
use Rattle.sheet.specs.Passes.{units_by}
use Rattle.sheet.specs.Kept.{kept}
use Rattle.sheet.specs.Aged.{most_units, FitRow}

pub units_join : (f g : ℕ → ℕ → ℕ) (cs us : List ℕ) → units_by f cs (units_by g cs us) ≡ units_by (λ c u. f c (g c u)) cs us
units_join f g cs us = map_from_map_from 0 _ _ us

pub units_same : (f g : ℕ → ℕ → ℕ) → ((c u : ℕ) → f c u ≡ g c u) → (cs us : List ℕ) → units_by f cs us ≡ units_by g cs us
units_same f g e cs us = map_from_same _ _ (length us) (λ k l u. e (get_or cs k 0) u) 0 us (omega arith)

-- three columns of one length, and a pass over the last or the first of them
pub rows_timed : (g : ℕ → ℕ → ℕ → ℕ) (cs ps us : List ℕ)
    → rows cs ps (map_from 0 (λ (i u : ℕ). g (get_or cs i 0) (get_or ps i 0) u) us)
    ≡ map (λ (r : Row). row_of r.clock r.place (g r.clock r.place r.units)) (rows cs ps us)
unfolding rows
rows_timed g [] [] [] = refl
rows_timed g [] [] (u ∷ us) = refl
rows_timed g [] (p ∷ ps) [] = refl
rows_timed g [] (p ∷ ps) (u ∷ us) = refl
rows_timed g (c ∷ cs) [] [] = refl
rows_timed g (c ∷ cs) [] (u ∷ us) = refl
rows_timed g (c ∷ cs) (p ∷ ps) [] = refl
rows_timed g (c ∷ cs) (p ∷ ps) (u ∷ us) =
    rw (map_from_suc 0 (λ (i v : ℕ). g (get_or (c ∷ cs) i 0) (get_or (p ∷ ps) i 0) v) us)
    (ap (λ (rs : List Row). row_of c p (g c p u) ∷ rs) (rows_timed g cs ps us))

pub rows_clocked : (g : ℕ → ℕ) (cs ps us : List ℕ) → rows (map g cs) ps us ≡ map (λ (r : Row). row_of (g r.clock) r.place r.units) (rows cs ps us)
unfolding rows
rows_clocked g [] [] [] = refl
rows_clocked g [] [] (u ∷ us) = refl
rows_clocked g [] (p ∷ ps) [] = refl
rows_clocked g [] (p ∷ ps) (u ∷ us) = refl
rows_clocked g (c ∷ cs) [] [] = refl
rows_clocked g (c ∷ cs) [] (u ∷ us) = refl
rows_clocked g (c ∷ cs) (p ∷ ps) [] = refl
rows_clocked g (c ∷ cs) (p ∷ ps) (u ∷ us) = ap (λ (rs : List Row). row_of (g c) p u ∷ rs) (rows_clocked g cs ps us)

-- what is left of the rows
pub rows_kept : (cs ps us : List ℕ) → length cs ≡ length us → length ps ≡ length us → rows (kept us cs) (kept us ps) (kept us us) ≡ filter is_left (rows cs ps us)
unfolding rows
rows_kept [] [] [] n m = refl
rows_kept [] ps (u ∷ us) n m = absurd (omega (arith, n))
rows_kept (c ∷ cs) ps [] n m = absurd (omega (arith, n))
rows_kept [] (p ∷ ps) [] n m = refl
rows_kept (c ∷ cs) [] (u ∷ us) n m = absurd (omega (arith, m))
rows_kept (c ∷ cs) (p ∷ ps) (u ∷ us) n m =
    let rest = rows_kept cs ps us (omega (arith, n)) (omega (arith, m)) in
    by_test (eqb u 0) (λ e. rw e rest) (λ e. rw e (ap (λ (rs : List Row). row_of c p u ∷ rs) rest))

-- the units of fit rows
pub fit_units : (cs ps us : List ℕ) → length cs ≡ length us → length ps ≡ length us → All FitRow (rows cs ps us) → All (λ (u : ℕ). u ≤ most_units) us
unfolding rows
fit_units cs ps [] n m h = tt
fit_units [] ps (u ∷ us) n m h = absurd (omega (arith, n))
fit_units (c ∷ cs) [] (u ∷ us) n m h = absurd (omega (arith, m))
fit_units (c ∷ cs) (p ∷ ps) (u ∷ us) n m (h, rest) = (h.most, fit_units cs ps us (omega (arith, n)) (omega (arith, m)) rest)
