-- The rows of the rules K hold: the checker computes one test over the table.
use Prim.Native.Nat.{ℕ}
use mathlib.Core.Bool.{Bool, ◌&&◌}
use mathlib.Core.List.{map}
use mathlib.Core.Path.{◌≡◌, refl}
use lib.Dec.{T, eqb, eqb→eq}
use Rattle.lists.specs.Sums.{total, sum_below}
use Rattle.lists.specs.Blocks.{overwritten}
use Rattle.lists.specs.Tests.{all}
use Rattle.lists.proofs.Tests.{both, same_by, same_by→eq, all→All}
use Rattle.ledger.specs.Limits.{counter_range, standard, last_handle}
use Rattle.ledger.specs.Tasks.{fresh_clocks, moved, all_ticked, tasks_after, advances, clocks_after, entered}
use Rattle.ledger.specs.Expirations.{due_after, remaining, put_off, deserted, lasting, released, set_on_each}
use Rattle.ledger.specs.Objects.{fresh_memory, object_at, written, makers_after, shares_after, handles_of, usage}
use Rattle.ledger.specs.Shares.{made, unmet, is_full, is_short, is_at_limit}
use Rattle.ledger.specs.Refusals.{verdict}
use Rattle.ledger.specs.Rules.{reply_to, memory_after, expirations_after, tests_of}
use Rattle.ledger.specs.Remaining.{remaining_life}
use Rattle.ledger.specs.Ledger.{fresh, reply, next, replies}
use Rattle.ledger.specs.Room.{roomy_next, roomy_states, peaks}
use Rattle.ledger.specs.Rows.{numbers, Line}
use Rattle.ledger.specs.RoomRows.{Need, script, NeedHolds, room_rows, Room}
use Rattle.ledger.specs.declared.Peaks.{Peaks}
use Rattle.ledger.proofs.Room.{peaks_fit}

abbrev same_peaks : Peaks → Peaks → Bool
same_peaks p q = eqb p.small q.small && (eqb p.large q.large && eqb p.expirations q.expirations)

same_peaks_lem : (p q : Peaks) → T (same_peaks p q) → p ≡ q
same_peaks_lem p q t =
    let (small, rest) = both (eqb p.small q.small) (eqb p.large q.large && eqb p.expirations q.expirations) t in
    let (large, expirations) = both (eqb p.large q.large) (eqb p.expirations q.expirations) rest in
    by (eqb→eq p.small q.small small) (eqb→eq p.large q.large large) (eqb→eq p.expirations q.expirations expirations)
  where
    peaks_by : ℕ → ℕ → ℕ → Peaks
    peaks_by small large expirations = record { small = small; large = large; expirations = expirations }

    by : {a b c x y z : ℕ} → a ≡ x → b ≡ y → c ≡ z → peaks_by a b c ≡ peaks_by x y z
    by e f g = rw (e, f, g)

unfoldable passes : Need → Bool
passes need =
    same_by (same_by eqb) (map numbers (replies (fresh need.limits) (script need))) (map (λ (l : Line). l.answer) need.lines)
    && same_peaks (peaks need.limits (script need)) need.room

passing_holds : (need : Need) → T (passes need) → NeedHolds need
unfolding passes
passing_holds need t =
    let given = map numbers (replies (fresh need.limits) (script need)) in
    let (answers, room) = both (same_by (same_by eqb) given (map (λ (l : Line). l.answer) need.lines)) (same_peaks (peaks need.limits (script need)) need.room) t in
    record {
      answers = same_by→eq (same_by eqb) (same_by→eq eqb eqb→eq) given (map (λ (l : Line). l.answer) need.lines) answers;
      room = same_peaks_lem (peaks need.limits (script need)) need.room room;
    }

all_pass : T (all passes room_rows)
unfolding passes room_rows peaks roomy_next roomy_states fresh reply next replies tests_of verdict
    fresh_memory object_at written overwritten total reply_to memory_after expirations_after handles_of set_on_each usage due_after remaining remaining_life put_off deserted lasting released
    fresh_clocks moved all_ticked tasks_after advances clocks_after entered makers_after shares_after sum_below made unmet is_full is_short is_at_limit
    standard last_handle counter_range
all_pass = tt

pub room : Room
unfolding room_rows
room = record { fit = peaks_fit; twelve = refl; rows = all→All passes passing_holds room_rows all_pass }
