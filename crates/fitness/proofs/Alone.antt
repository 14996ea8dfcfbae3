-- Expirations by themselves: one is fit if its codes there are and it is due in time; and the flags of the blocks that they name.
use Rattle.std.proofs.Common.{◌≡◌, ℕ, ◌-◌, ◌<◌, Bool, true, false, ◌&&◌, eqb, ltb, leb, List, [], ◌∷◌, length, get_or, sym, refl, ap, ◌∙◌, true≢false, arith, ltb-false, ltb-true, ne_eqb, eqb-true, le-leb, leb-true}
use mathlib.Core.Bool.{false≢true, and-eq-true_iff}
use borrow.Author.Tests.{eqb-false}
use Rattle.std.specs.List.{fold, zip}
use Rattle.lists.specs.Tests.{all}
use Rattle.lists.proofs.Folds.{fold_all}
use Rattle.lists.proofs.Cases.{by_test, refuted, and₃}
use Rattle.lists.proofs.Counts.{any_pairs, all_two}
use Rattle.lists.proofs.Searches.{passes_within}
use Rattle.record.specs.Codes.{is_global_clock, due_by, is_dated, absent_entry, free_entry}
use Rattle.record.specs.Tables.{ExpirationEntry, SizedEntries, entries_of}
use Rattle.record.specs.WellFormed.{is_fit_due, is_naming}
use Rattle.record.specs.declared.TaskEntry.{TaskEntry}
use Rattle.record.specs.declared.GlobalTime.{GlobalTime}
use Rattle.record.specs.declared.Due.{Due}
use Rattle.record.specs.declared.Due.TheVariants.{Free, Local, Global, Pinned, Unknown}
use Rattle.record.proofs.Columns.{length_entries, entry_at}
use Rattle.fitness.specs.Checks.{is_coded_by, is_coded, CodedTimes, is_timely, slot_by, is_byte, AllCoded, Flags, Names}
use Rattle.fitness.proofs.Named.{is_fit_alone}
use Rattle.ledger.specs.declared.Limits.{Limits}

-- a code that there is and that is neither the global time's nor a pinned expiration's
not_global : (clock : ℕ) → leb clock 49 ≡ true → eqb clock 49 ≡ false → is_global_clock clock ≡ false → ltb clock 32 ≡ true
not_global clock most p g =
    by_test (ltb clock 32)
    (λ t. t)
    (λ t.
    let last : leb clock 48 ≡ true = le-leb clock 48 (omega (arith, leb-true clock 49 most, eqb-false clock 49 p)) in
    absurd (true≢false (rw (le-leb 32 clock (ltb-false clock 32 t), last) at g)))

-- a code that there is not
unknown : (clock block : ℕ) → eqb clock 0 ≡ false → eqb clock 49 ≡ false → is_global_clock clock ≡ false → (leb 16 clock && ltb clock 32) ≡ false
    → is_coded_by clock block ≡ false
unknown clock block z p g l =
    refuted (is_coded_by clock block)
    (λ t.
    let (least, most, _) = and₃ (leb 16 clock) (leb clock 49) (ltb block 96) (rw z at t) in
    false≢true (sym l ∙ rw (least, not_global clock most p g)))

-- the test of the block apart from the others
block_apart : (limits : Limits) (setter : TaskEntry) (global : GlobalTime) (used : Bool) (due : Due) → is_dated due ≡ true
    → is_fit_due limits setter global used due ≡ (used && is_fit_due limits setter global true due)
unfolding is_fit_due
block_apart limits setter global true due d = refl
block_apart limits setter global false Free d = absurd (false≢true d)
block_apart limits setter global false (Local task at) d = refl
block_apart limits setter global false (Global task at) d = refl
block_apart limits setter global false (Pinned due) d = refl
block_apart limits setter global false Unknown d = refl

-- the codes of entries side by side
coded_pairs : (clocks named dues : List ℕ) → length clocks ≡ length named → length clocks ≡ length dues
    → all (λ (p : ℕ × ℕ). is_coded_by p.0 p.1) (zip clocks named) ≡ all is_coded (entries_of clocks named dues)
unfolding entries_of
coded_pairs [] [] [] n d = refl
coded_pairs [] [] (x ∷ dues) n d = absurd (omega (arith, d))
coded_pairs [] (x ∷ named) dues n d = absurd (omega (arith, n))
coded_pairs (c ∷ clocks) [] dues n d = absurd (omega (arith, n))
coded_pairs (c ∷ clocks) (x ∷ named) [] n d = absurd (omega (arith, d))
coded_pairs (c ∷ clocks) (x ∷ named) (y ∷ dues) n d = ap (λ b. is_coded_by c x && b) (coded_pairs clocks named dues (omega (arith, n)) (omega (arith, d)))

pub coded_by : (clocks named : List ℕ) (r : Bool) → length clocks ≡ 256 → length named ≡ 256
    → r ≡ fold (λ fit p. fit && is_coded_by p.0 p.1) true (zip clocks named) → AllCoded clocks named r
coded_by clocks named r c n e =
    record {
      so = λ dues d.
          e ∙ fold_all (λ (p : ℕ × ℕ). is_coded_by p.0 p.1) (zip clocks named) ∙ coded_pairs clocks named dues (omega (arith, c, n)) (omega (arith, c, d));
    }

module _ (limits : Limits) (tasks : List TaskEntry) (global : GlobalTime) where
  alone_parts : (e : ExpirationEntry) → is_fit_alone limits tasks global e ≡ (is_coded e && is_timely limits tasks global e)
  unfolding is_fit_due due_by
  alone_parts e =
      by_test (eqb e.clock 0)
      (λ z. rw (eqb-true e.clock 0 z))
      (λ z.
      by_test (eqb e.clock 49)
      (λ p. rw (eqb-true e.clock 49 p))
      (λ p.
      by_test (is_global_clock e.clock)
      (λ g.
      let (least, last) = (and-eq-true_iff (leb 32 e.clock) (leb e.clock 48)).0 g in
      let most : leb e.clock 49 ≡ true = le-leb e.clock 49 (omega (arith, leb-true e.clock 48 last)) in
      rw
      (z, g, most, le-leb 16 e.clock (omega (arith, leb-true 32 e.clock least)))
      (block_apart limits (get_or tasks (e.clock - 32) absent_entry) global (ltb e.block 96) (Global (e.clock - 32) (record { 0 = e.due })) refl))
      (λ g.
      by_test (leb 16 e.clock && ltb e.clock 32)
      (λ l.
      let (least, below) = (and-eq-true_iff (leb 16 e.clock) (ltb e.clock 32)).0 l in
      let most : leb e.clock 49 ≡ true = le-leb e.clock 49 (omega (arith, ltb-true e.clock 32 below)) in
      rw (z, g, least, below, most) (block_apart limits (get_or tasks (e.clock - 16) absent_entry) global (ltb e.block 96) (Local (e.clock - 16) (record { 0 = e.due })) refl))
      (λ l. rw (unknown e.clock e.block z p g l, z, p, g, l)))))

  pub by_parts : (xs : List ExpirationEntry) → all (is_fit_alone limits tasks global) xs ≡ (all is_coded xs && all (is_timely limits tasks global) xs)
  by_parts = all_two is_coded (is_timely limits tasks global) (is_fit_alone limits tasks global) alone_parts

-- a code that there is
code_below : (clock block : ℕ) → is_coded_by clock block ≡ true → clock < 50
code_below clock block e =
    by_test (eqb clock 0)
    (λ z. omega (arith, eqb-true clock 0 z))
    (λ z. omega (arith, leb-true clock 49 (and₃ (leb 16 clock) (leb clock 49) (ltb block 96) (rw z at e)).1))

-- an entry sets the flag of the block that it names, and of no other
names_slot : (clock block due k : ℕ) → is_coded_by clock block ≡ true → k < 96 → eqb (slot_by clock block) k ≡ (is_dated (due_by clock due) && eqb block k)
unfolding due_by
names_slot clock block due k e h =
    by_test (eqb clock 0)
    (λ z. rw (z, ne_eqb 255 k (omega arith)))
    (λ z.
    by_test (eqb clock 49)
    (λ p. rw (eqb-true clock 49 p))
    (λ p.
    by_test (is_global_clock clock)
    (λ g. rw (z, g))
    (λ g.
    let (least, most, _) = and₃ (leb 16 clock) (leb clock 49) _ (rw z at e) in
    rw (z, g, least, not_global clock most p g))))

module _ {clocks named dues : List ℕ} (s : SizedEntries clocks named dues) (coded : all is_coded (entries_of clocks named dues) ≡ true) where
  size : length (entries_of clocks named dues) ≡ 256
  size = length_entries clocks named dues s.of_clocks s.of_named s.of_dues

  entry : (i : ℕ) → get_or (entries_of clocks named dues) i free_entry ≡ record { clock = get_or clocks i 0; block = get_or named i 0; due = get_or dues i 0 }
  entry = entry_at clocks named dues s.of_clocks s.of_named s.of_dues

  known : (i : ℕ) → i < 256 → is_coded_by (get_or clocks i 0) (get_or named i 0) ≡ true
  known i l = rw (entry i) at (passes_within is_coded (entries_of clocks named dues) i free_entry coded (omega (arith, size)))

  pub coded_times : CodedTimes clocks dues
  coded_times =
      record {
        codes = record { size = s.of_clocks; below = λ k l. code_below (get_or clocks k 0) (get_or named k 0) (known k l) };
        of_dues = s.of_dues;
      }

  pub names_by : {flags : List Bool} → Flags clocks named flags → Names flags (entries_of clocks named dues)
  names_by f =
      record {
        so = λ k h.
            f.marks.so k (omega arith)
            ∙ any_pairs (is_byte k) (is_naming k) 0 free_entry f.bytes (entries_of clocks named dues) (f.slots.size ∙ sym size)
            (λ i l.
            let within : i < 256 = omega (arith, f.slots.size) in
            rw (f.slots.so i within, entry i) (names_slot (get_or clocks i 0) (get_or named i 0) (get_or dues i 0) k (known i within) h));
      }
