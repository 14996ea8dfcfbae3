-- Those that are not within are counted, whatever blocks they name; each due number is seen to be below the range.
use Rattle.std.proofs.Common.{◌≡◌, ℕ, ◌+◌, ◌<◌, Bool, not, List, length, take, drop}
use Rattle.lists.specs.Filled.{Filled}
use Rattle.lists.specs.Tests.{count}
use Rattle.lists.proofs.Loops.{Scanned}
use Rattle.ledger.specs.Limits.{counter_range}
use Rattle.record.specs.Tables.{ExpirationEntry, entries_of}
use Rattle.fitness.specs.Checks.{is_in_units}
use Rattle.fitness.specs.declared.times.Time.{Time}
use Rattle.fitness.proofs.times.all_within.Given as goal

abbrev is_out : List Time → List ℕ → ExpirationEntry → Bool
is_out firsts units e = not (is_in_units firsts units e)

abbrev pub invariant-loop-i : goal.invariant-loop-i
invariant-loop-i l = ((named : List ℕ) → length named ≡ 256
    → Scanned (count (is_out l.firsts l.units) (drop 0 (take 256 (entries_of l.clocks named l.dues)))) (entries_of l.clocks named l.dues) 256 l.i (λ ys. l.out + count (is_out l.firsts l.units) ys))
    × Filled 0 (λ k due. due < counter_range) 256 l.i l.dues
