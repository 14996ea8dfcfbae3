-- The flags of the blocks that pinned expirations name: one more expiration, pinned or not.
use Rattle.std.proofs.Common.{◌≡◌, ℕ, zero, suc, ◌+◌, ◌-◌, ◌<◌, ◌≤◌, Bool, true, false, not, ◌&&◌, ◌||◌, eqb, ltb, leb, List, [], ◌∷◌, ◌++◌, length, get_or, take, drop, set, replicate, sym, refl, ap, ◌∙◌, add-zero, add-one, arith, length-drop, length-set, length-take, get_or-drop, take_all, get_or-take, take-suc, eq-eqb, ne_eqb, eqb-true}
use mathlib.Core.Bool.{and-true, and-false}
use borrow.Author.Tests.{eqb-false, not-true}
use lib.ListN.{length-replicate}
use Rattle.lists.specs.Tests.{any, all}
use Rattle.lists.proofs.Cases.{by_test}
use Rattle.lists.proofs.Counts.{any_append}
use Rattle.lists.proofs.Loops.{Marked, marked_start, marked_turn, marked_none}
use Rattle.lists.proofs.Searches.{passes_within}
use Rattle.record.specs.Codes.{is_global_clock, due_by, due_of, is_pinned_due, free_entry}
use Rattle.record.specs.Tables.{ExpirationEntry, entries_of}
use Rattle.record.specs.WellFormed.{is_pin_on, is_pinned_once}
use Rattle.record.proofs.Columns.{length_entries, entry_at}
use Rattle.fitness.specs.Checks.{SizedCodes}
use Rattle.fitness.specs.Pins.{is_unpinned, PinsTo, PinnedOnce}

-- one code alone is a pinned expiration's
pinned_code_lem : (clock due : ℕ) → is_pinned_due (due_by clock due) ≡ eqb clock 49
unfolding due_by
pinned_code_lem clock due =
    by_test (eqb clock 49)
    (λ p. rw (eqb-true clock 49 p))
    (λ p.
    by_test (eqb clock 0)
    (λ z. rw (z, p))
    (λ z.
    by_test (is_global_clock clock)
    (λ g. rw (z, g, p))
    (λ g. by_test (leb 16 clock && ltb clock 32) (λ l. rw (z, g, l, p)) (λ l. rw (z, g, l, p)))))

eqb_swap : (a b : ℕ) → eqb a b ≡ eqb b a
eqb_swap a b =
    by_test (eqb a b)
    (λ e. rw e (sym (eq-eqb b a (sym (eqb-true a b e)))))
    (λ e. rw e (sym (ne_eqb b a (λ s. eqb-false a b e (sym s)))))

-- Two that are pinned, x and the last one: same is whether they name one block; among the others, twice is whether one names that of x,
-- later whether one names that of the last, and others whether none of them is pinned twice.
last_apart : (x last same twice later others : Bool)
    → ((not x || not (twice || ((last && same) || false))) && (others && not (last && later)))
    ≡ (((not x || not twice) && others) && not (last && ((x && same) || later)))
last_apart true true true true later others = refl
last_apart true true true false later others = sym (and-false others)
last_apart true true false true later others = refl
last_apart true true false false later others = refl
last_apart true false same true later others = refl
last_apart true false same false later others = refl
last_apart false last same twice later others = refl

-- one more at the end
once_last : (xs : List ExpirationEntry) (e : ExpirationEntry)
    → is_pinned_once (xs ++ (e ∷ [])) ≡ (is_pinned_once xs && not (is_pinned_due (due_of e) && any (is_pin_on e.block) xs))
once_last [] e = by_test (is_pinned_due (due_of e)) (λ p. rw p) (λ p. rw p)
once_last (x ∷ xs) e =
    rw (once_last xs e, any_append (is_pin_on x.block) xs (e ∷ []), eqb_swap x.block e.block)
    (last_apart (is_pinned_due (due_of x)) (is_pinned_due (due_of e)) (eqb e.block x.block) (any (is_pin_on x.block) xs) (any (is_pin_on e.block) xs) (is_pinned_once xs))

module _ {clocks named : List ℕ} (s : SizedCodes clocks named) where
  -- the entries, whatever their due numbers
  module _ (dues : List ℕ) (d : length dues ≡ 256) where
    abbrev entries : List ExpirationEntry
    entries = entries_of clocks named dues

    size : length entries ≡ 256
    size = length_entries clocks named dues s.of_clocks s.of_named d

    pinning_at : (i k : ℕ) → is_pin_on k (get_or entries i free_entry) ≡ (eqb (get_or clocks i 0) 49 && eqb (get_or named i 0) k)
    pinning_at i k = rw (entry_at clocks named dues s.of_clocks s.of_named d i, pinned_code_lem (get_or clocks i 0) (get_or dues i 0))

    once_next : (i : ℕ) → i < 256
        → is_pinned_once (take (i + 1) entries)
        ≡ (is_pinned_once (take i entries) && not (eqb (get_or clocks i 0) 49 && any (is_pin_on (get_or named i 0)) (take i entries)))
    once_next i h =
        rw
        (add-one, take-suc entries i free_entry (omega (arith, size)), once_last (take i entries) (get_or entries i free_entry), entry_at clocks named dues s.of_clocks s.of_named d i, pinned_code_lem (get_or clocks i 0) (get_or dues i 0))

  pub pins_start : PinsTo clocks named 0 (replicate 256 false) true
  pins_start =
      record {
        size = length-replicate 256 false;
        names = λ dues d. (marked_start is_pin_on (entries_of clocks named dues) 256 256 256 (size dues d) (omega arith)).so;
        once = λ dues d. refl;
      }

  module _ {i : ℕ} {flags : List Bool} {fit : Bool} (m : PinsTo clocks named i flags fit) where
    marked : (dues : List ℕ) → length dues ≡ 256 → Marked is_pin_on (entries_of clocks named dues) 256 256 i flags
    marked dues d = record { size = size dues d; within = omega (arith, m.size); so = m.names dues d }

    -- one that is not pinned
    pub pins_kept : i < 256 → eqb (get_or clocks i 0) 49 ≡ false → PinsTo clocks named (i + 1) flags fit
    pins_kept h p =
        record {
          size = m.size;
          names = λ dues d. (marked_none is_pin_on free_entry (marked dues d) h (λ k l. pinning_at dues d i k ∙ rw p)).so;
          once = λ dues d. m.once dues d ∙ sym (once_next dues d i h ∙ rw p (and-true _));
        }

    -- one that is pinned sets the flag of its block
    pub pins_turn : {at : ℕ} → i < 256 → eqb (get_or clocks i 0) 49 ≡ true → at ≡ get_or named i 0 → at < 256
        → PinsTo clocks named (i + 1) (set flags at true) (fit && not (get_or flags at false))
    pins_turn {at} h p e b =
        record {
          size = simp length-set m.size;
          names = λ dues d. (marked_turn is_pin_on at free_entry (marked dues d) h (λ k l. pinning_at dues d i k ∙ rw (p, ← e))).so;
          once = λ dues d. rw (m.once dues d, m.names dues d at b) (sym (once_next dues d i h ∙ rw (p, ← e)));
        }

    pub pins_end : {n : ℕ} → i ≤ n → n ≤ i → PinsTo clocks named n flags fit
    pins_end {n} h k = let same : i ≡ n = omega arith in rw same at m

    pub pinned_end : 256 ≤ i → PinnedOnce clocks named fit
    pinned_end h = record { so = λ dues d. m.once dues d ∙ ap is_pinned_once (take_all i (entries_of clocks named dues) (omega (arith, size dues d))) }

  -- none of these is pinned
  pins_past : {i : ℕ} {flags : List Bool} {fit : Bool} (n : ℕ) → PinsTo clocks named i flags fit → i + n ≤ 256
      → ((k : ℕ) → i ≤ k → k < i + n → eqb (get_or clocks k 0) 49 ≡ false) → PinsTo clocks named (i + n) flags fit
  pins_past {i = i} zero m h f = rw (add-zero i) m
  pins_past {i = i} (suc n) m h f =
      let same : i + 1 + n ≡ i + suc n = omega arith in
      rw same at (pins_past {i = i + 1} n (pins_kept m (omega arith) (f i (omega arith) (omega arith))) (omega arith) (λ k l b. f k (omega arith) (omega arith)))

  -- nor of a group that was asked
  pub pins_none : {i : ℕ} {flags : List Bool} {fit : Bool} → PinsTo clocks named i flags fit → i + 32 ≤ 256 → all is_unpinned (drop i (take (i + 32) clocks)) ≡ true
      → PinsTo clocks named (i + 32) flags fit
  pins_none {i} m h e =
      pins_past 32 m h
      (λ k l b.
      let place : i + (k - i) ≡ k = omega arith in
      let within : k - i < length (drop i (take (i + 32) clocks)) = simp (length-drop, length-take) (omega (arith, s.of_clocks)) in
      not-true _ (rw (get_or-drop i (take (i + 32) clocks) (k - i) 0, place, get_or-take (i + 32) clocks k 0 b) at (passes_within is_unpinned (drop i (take (i + 32) clocks)) (k - i) 0 e within)))
