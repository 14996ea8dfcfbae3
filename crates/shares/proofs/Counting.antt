-- Loops that count blocks from one place to another: the start, the turn and the end of their invariants.
use Prim.Native.Nat.{ℕ, ◌+◌, ◌-◌, ◌≤◌, ◌<◌}
use native.Mathlib.Numerals.{add-one}
use native.Mathlib.Omega.{arith}
use mathlib.Core.Bool.{Bool, true, false, cond, ◌&&◌}
use mathlib.Core.List.{List}
use mathlib.Core.Path.{◌≡◌, refl, sym, ◌∙◌}
use borrow.Author.Tests.{eqb-true, eqb-false}
use lib.Dec.{eqb}
use lib.ListN.{length, get_or, set, take, drop, replicate, length-set, length-take, length-drop, length-replicate, get_or-replicate}
use lib.Seq.{take-suc, get_or-take, get_or-drop, get_or-set_same, get_or-set_other}
use mir.Val.{Fits, bool_byte}
use mir.Syntax.{w8}
use Rattle.std.specs.List.{slice_range, sum}
use Rattle.lists.specs.Tests.{count}
use Rattle.lists.proofs.All.{get_or_all}
use Rattle.lists.proofs.Cases.{by_test}
use Rattle.lists.proofs.Counts.{count_append}
use Rattle.lists.proofs.Summing.{sum_total, total_below}
use Rattle.lists.proofs.Sums.{total_within}
use Rattle.record.specs.Codes.{free_block}
use Rattle.record.specs.Tables.{BlockEntry, maker_in}
use Rattle.record.specs.WellFormed.{is_used}
use Rattle.shares.specs.Counting.{Span, is_used_by, Few, Added, Tallied, CountedIn, Totals}

one_more : (p : BlockEntry → Bool) (i : ℕ) (blocks : List BlockEntry) → i < length blocks
    → count p (take (i + 1) blocks) ≡ count p (take i blocks) + bool_byte (p (get_or blocks i free_block))
one_more p i blocks h =
    rw (add-one, take-suc blocks i free_block h, count_append) (by_test (p (get_or blocks i free_block)) (λ e. rw e) (λ e. rw e))

-- a counter that is added to, among all
set_adds : (table : List ℕ) (m k n : ℕ) → m < length table → get_or (set table m (get_or table m 0 + n)) k 0 ≡ get_or table k 0 + cond (eqb m k) n 0
set_adds table m k n h =
    by_test (eqb m k)
    (λ e. rw (e, ← eqb-true m k e) (get_or-set_same table m _ 0 h))
    (λ e. rw e (get_or-set_other table m k _ 0 (λ q. eqb-false m k e (sym q)) ∙ omega arith))

-- in use, and so counted, for this maker
only_its : (u e : Bool) → cond e (bool_byte u) 0 ≡ bool_byte (u && e)
only_its true true = refl
only_its true false = refl
only_its false true = refl
only_its false false = refl

pub flag_most : (u e : Bool) → cond e (bool_byte u) 0 ≤ 1
flag_most true true = omega arith
flag_most true false = omega arith
flag_most false true = omega arith
flag_most false false = omega arith

module _ {used : List Bool} {extents : List ℕ} where
  -- one block
  pub added_one : {i m : ℕ} {table : List ℕ} → Few i table → i < 96 → m < 256 → m ≡ maker_in (get_or extents i 0)
      → Added used extents i (i + 1) table (set table m (get_or table m 0 + bool_byte (get_or used i false)))
  added_one {i} {m} {table} few within below e =
      let step : (k : ℕ) → get_or (set table m (get_or table m 0 + bool_byte (get_or used i false))) k 0 ≡ get_or table k 0 + cond (eqb m k) (bool_byte (get_or used i false)) 0
      = λ k. set_adds table m k (bool_byte (get_or used i false)) (omega (arith, few.size)) in
      record {
        few = record {
          size = simp length-set few.size;
          so = λ k l. rw (step k) (omega (arith, few.so k l, flag_most (get_or used i false) (eqb m k)));
        };
        so = λ blocks told k l.
            let maker : m ≡ (get_or blocks i free_block).maker = e ∙ told.maker_at i within in
            rw (step k, one_more (is_used_by k) i blocks (omega (arith, told.size)), only_its, told.use_at i within, maker) (omega arith);
      }

  pub added_two : {i j n : ℕ} {a b c : List ℕ} → Added used extents i j a b → Added used extents j n b c → Added used extents i n a c
  added_two x y = record { few = y.few; so = λ blocks told k l. omega (arith, x.so blocks told k l, y.so blocks told k l) }

  -- the same place in other words
  pub added_at : {i j n : ℕ} {a b : List ℕ} → Added used extents i j a b → j ≡ n → Added used extents i n a b
  added_at x e = rw e at x

  pub tallied_start : {from : ℕ} → Tallied used extents from from (replicate 256 0)
  tallied_start =
      let none : ℕ = 0 in
      record {
        few = record { size = length-replicate 256 none; so = λ k l. rw (get_or-replicate 256 k none none l) (omega arith) };
        so = λ blocks told k l. rw (get_or-replicate 256 k none none l) (omega arith);
      }

  pub tallied_turn : {from i j : ℕ} {a b : List ℕ} → Tallied used extents from i a → Added used extents i j a b → Tallied used extents from j b
  tallied_turn x y = record { few = y.few; so = λ blocks told k l. omega (arith, x.so blocks told k l, y.so blocks told k l) }

  pub tallied_at : {from i j : ℕ} {a : List ℕ} → Tallied used extents from i a → i ≡ j → Tallied used extents from j a
  tallied_at x e = rw e at x

-- how many are in use
pub counted_start : {used : List Bool} {from : ℕ} → CountedIn used from from 0
counted_start = record { most = omega arith; so = λ extents blocks told. omega arith }

pub counted_turn : {used : List Bool} {from i n : ℕ} → CountedIn used from i n → i < 96 → CountedIn used from (i + 1) (n + bool_byte (get_or used i false))
counted_turn {used} {from} {i} {n} x within =
    record {
      most = omega (arith, x.most, flag_most (get_or used i false) true);
      so = λ extents blocks told.
          rw (one_more is_used i blocks (omega (arith, told.size)), ← told.use_at i within) (omega (arith, x.so extents blocks told));
    }

pub counted_at : {used : List Bool} {from i n j : ℕ} → CountedIn used from i n → i ≡ j → CountedIn used from j n
counted_at x e = rw e at x

-- the same by a part of the flags
pub counted_part : {used : List Bool} {from to i n : ℕ} → Span from to → length used ≡ 96 → i < length (slice_range used from to)
    → CountedIn used from (from + i) n
    → (from + (i + 1) ≤ to) × CountedIn used from (from + (i + 1)) (n + bool_byte (get_or (slice_range used from to) i false))
counted_part {used} {from} {to} {i} {n} span size h x =
    let within : i < to - from = omega (arith, length-take (to - from) (drop from used), length-drop from used) in
    let same : get_or (slice_range used from to) i false ≡ get_or used (from + i) false = get_or-take (to - from) (drop from used) i false within ∙ get_or-drop from used i false in
    let next = counted_turn x (omega (arith, span.within)) in
    let place : from + i + 1 ≡ from + (i + 1) = omega arith in
    (omega arith, rw (same, ← place) next)

-- the sum of a byte of each task
pub totals_of : {numbers : List ℕ} {r : ℕ} → length numbers ≡ 16 → ((k : ℕ) → Fits w8 (get_or numbers k 0)) → r ≡ sum numbers → Totals numbers r
totals_of {numbers} size f e =
    let same = sum_total numbers in
    record {
      so = e ∙ same ∙ rw (← size) (total_below numbers);
      most = omega (arith, total_within 255 numbers (get_or_all (λ (x : ℕ). x ≤ 255) 0 numbers (λ k. omega (arith, f k))));
    }
