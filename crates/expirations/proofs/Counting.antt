-- Entries in use counted, and a free one found and set.
use Rattle.std.proofs.Common.{◌≡◌, ℕ, ◌+◌, ◌<◌, ◌≤◌, Bool, eqb, List, length, take, drop, set, sym, ap, ◌∙◌, arith, length-drop, length-set, take-append-drop, take_all, leb-false}
use borrow.Author.Tests.{lt-leb}
use Rattle.std.specs.List.{slice_range}
use Rattle.lists.proofs.Counts.{count_append, count_map, length_filter}
use Rattle.lists.proofs.Filters.{count_length}
use Rattle.lists.proofs.First.{first_full, first_map}
use Rattle.lists.proofs.Loops.{Scanned, scanned_start}
use Rattle.record.specs.Tables.{ExpirationEntry, entries_of, SizedEntries, expiration_entries}
use Rattle.record.proofs.Columns.{clocks_of, entries_set}
use Rattle.steps.specs.Objects.{free_slot, standing_in}
use Rattle.expirations.specs.Setting.{entry_of, Sets}
use Rattle.expirations.specs.declared.Entry.{Entry}
use Rattle.expirations.specs.Standing.{is_used_clock, standing_of, free_in, half_size}

abbrev pub is_free : ℕ → Bool
is_free clock = eqb clock 0

-- the part is counted from its start
pub part_start : (n : ℕ) (part : List ℕ) → length part ≡ n → Scanned (standing_of part) part n 0 (λ ys. 0 + standing_of ys)
part_start n part e = let s = scanned_start standing_of part n e in record { size = s.size; within = s.within; so = omega (arith, s.so) }

-- so far there are no more than the part has
pub part_within : (n m : ℕ) {part : List ℕ} {i : ℕ} → length part ≡ n → Scanned (standing_of part) part n i (λ ys. m + standing_of ys) → m ≤ n
part_within n m {part} e s = omega (arith, e, s.so, count_length is_used_clock part, length_filter is_used_clock part)

-- how many stand, by the clocks or by the entries
pub standing_of_lem : {cs ns ds : List ℕ} → SizedEntries cs ns ds → standing_of cs ≡ standing_in (entries_of cs ns ds)
standing_of_lem {cs} {ns} {ds} e =
    ap standing_of (sym (clocks_of cs ns ds e.of_clocks e.of_named e.of_dues))
    ∙ count_map is_used_clock (λ (x : ExpirationEntry). x.clock) (entries_of cs ns ds)

pub halves : (clocks : List ℕ) → length clocks ≡ expiration_entries
    → standing_of clocks ≡ standing_of (slice_range clocks 0 half_size) + standing_of (slice_range clocks half_size expiration_entries)
halves clocks h =
    ap standing_of (sym (take-append-drop half_size clocks))
    ∙ count_append is_used_clock (take half_size clocks) (drop half_size clocks)
    ∙ rw (take_all half_size (drop half_size clocks) (simp length-drop (omega arith)))

-- the first free entry, by either
pub free_of : {cs ns ds : List ℕ} → SizedEntries cs ns ds → free_in cs ≡ free_slot (entries_of cs ns ds)
free_of {cs} {ns} {ds} e =
    ap free_in (sym (clocks_of cs ns ds e.of_clocks e.of_named e.of_dues))
    ∙ first_map is_free (λ (x : ExpirationEntry). x.clock) 0 (entries_of cs ns ds)

-- where fewer stand than there are entries, there is a free one
pub free_within : {clocks named dues : List ℕ} {at : ℕ} → SizedEntries clocks named dues → standing_of clocks < expiration_entries → at ≡ free_in clocks → at < expiration_entries
free_within {clocks} s k e =
    let full = sym (first_full is_free 0 clocks) ∙ lt-leb (length clocks) (standing_of clocks) (omega (arith, s.of_clocks)) in
    omega (arith, s.of_clocks, leb-false (0 + length clocks) (free_in clocks) full)

-- an entry put into all columns
pub put_entry : (e : Entry) {clocks named dues : List ℕ} {at : ℕ} → SizedEntries clocks named dues → at ≡ free_in clocks
    → Sets e (record { clocks = clocks; named = named; dues = dues })
    (record { clocks = set clocks at e.clock; named = set named at e.block; dues = set dues at e.due })
put_entry e {clocks} {named} {dues} {at} s h =
    let xs = entries_of clocks named dues in
    record {
      sized = record { of_clocks = simp length-set s.of_clocks; of_named = simp length-set s.of_named; of_dues = simp length-set s.of_dues };
      entries = entries_set clocks named dues at e.clock e.block e.due ∙ ap (λ (i : ℕ). set xs i (entry_of e)) (h ∙ free_of s);
    }
