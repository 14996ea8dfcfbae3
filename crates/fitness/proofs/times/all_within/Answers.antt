-- Those that are not within are counted, whatever blocks they name; each due number is seen to be below the range.
use Rattle.std.proofs.Common.{◌≡◌, ℕ, ◌+◌, ◌<◌, Bool, not, eqb, List, length, get_or, take, drop, ap, ◌∙◌, arith, take_all, rules}
use lib.Seq.{set-get_or}
use mir.Val.{bool_byte}
use Rattle.lists.specs.Tests.{count}
use Rattle.lists.proofs.Counts.{none_fails}
use Rattle.lists.proofs.Filling.{filled_turn}
use Rattle.lists.proofs.Loops.{Scanned, count_from, count_turn, count_within, count_end}
use Rattle.record.specs.Codes.{free_entry}
use Rattle.record.specs.Tables.{ExpirationEntry, entries_of}
use Rattle.record.proofs.Columns.{length_entries, entry_at}
use Rattle.fitness.specs.Checks.{is_in_units, is_in_units_by, no_time, Codes, CodeAt, CodedTimes}
use Rattle.fitness.specs.declared.times.Time.{Time}
use Rattle.fitness.proofs.times.all_within.Goals as goal

abbrev is_out : List Time → List ℕ → ExpirationEntry → Bool
is_out firsts units e = not (is_in_units firsts units e)

size : (clocks named dues : List ℕ) → Codes clocks → length named ≡ 256 → length dues ≡ 256 → length (entries_of clocks named dues) ≡ 256
size clocks named dues c n d = length_entries clocks named dues c.size n d

-- one more is counted
counted : (firsts : List Time) (units : List ℕ) {clocks dues : List ℕ} → CodedTimes clocks dues → {i : ℕ} (out : ℕ) {within : Bool} {code : ℕ} → i < 256 → CodeAt clocks i code
    → within ≡ is_in_units_by (get_or units code 0) (get_or firsts code no_time) (get_or dues i 0)
    → ((named : List ℕ) → length named ≡ 256
    → Scanned (count (is_out firsts units) (drop 0 (take 256 (entries_of clocks named dues)))) (entries_of clocks named dues) 256 i (λ ys. out + count (is_out firsts units) ys))
    → (named : List ℕ) → length named ≡ 256
    → Scanned (count (is_out firsts units) (drop 0 (take 256 (entries_of clocks named dues)))) (entries_of clocks named dues) 256 (i + 1)
    (λ ys. out + bool_byte (not within) + count (is_out firsts units) ys)
counted firsts units {clocks} {dues} r {i} out {within} {code} l at e m named n =
    let entry = entry_at clocks named dues r.codes.size n r.of_dues i in
    let so : within ≡ is_in_units firsts units (get_or (entries_of clocks named dues) i free_entry) = e ∙ rw (at.so, entry) in
    count_turn (is_out firsts units) free_entry out (m named n) l (ap not so)

pub loop-i-init : goal.loop-i-init
loop-i-init c = (
  λ named n. count_from (is_out c.args.firsts c.args.units) 0 (omega arith) (omega (arith, size c.args.clocks.now named c.args.dues.now c.requires.codes n c.requires.of_dues)),
  record { size = c.requires.of_dues; so = λ k l. absurd (omega arith) },
)

-- there are no more than the entries, whatever blocks they name
pub overflow_add-out : goal.overflow_add-out
overflow_add-out c =
    let more = counted c.args.firsts c.args.units c.requires c.loop-i.out (search rules) c.code_at-code.ensures c.is_within.ensures.so c.loop-i.invariant.0 in
    omega (arith, count_within (is_out c.args.firsts c.args.units) 0 _ (more c.args.clocks.now c.requires.codes.size))

pub loop-i-preserved : goal.loop-i-preserved
loop-i-preserved c =
    let dues = c.args.dues.now in (
      counted c.args.firsts c.args.units c.requires c.loop-i.out (search rules) c.code_at-code.ensures c.is_within.ensures.so c.loop-i.invariant.0,
      rw (set-get_or dues c.loop-i.i 0) at (filled_turn (get_or dues c.loop-i.i 0) c.loop-i.invariant.1 (search rules) c.is_within.ensures.below),
    )

pub returns : goal.returns
returns c =
    let table = λ (named : List ℕ). entries_of c.args.clocks.now named c.args.dues.now in
    record {
      so = λ named n.
          ap (λ k. eqb k 0)
          (count_end (is_out c.args.firsts c.args.units) c.loop-i.out (c.loop-i.invariant.0 named n) (search rules)
          ∙ ap (count (is_out c.args.firsts c.args.units))
          (take_all 256 (table named) (omega (arith, size c.args.clocks.now named c.args.dues.now c.requires.codes n c.requires.of_dues))))
          ∙ none_fails (is_in_units c.args.firsts c.args.units) (table named);
      below = λ k h. c.loop-i.invariant.1.so k (omega (arith, c.loop-i-test.false));
    }
