-- Units left by counters that go round.
use Rattle.std.proofs.Common.{◌≡◌, ℕ, ◌+◌, ◌%◌, ◌^◌, ◌<◌, arith}
use Rattle.ledger.specs.Limits.{counter_range}
use Rattle.record.specs.Codes.{units_left}

-- the one number below the range that, added to now, gives due
pub left_of_lem : (r due now : ℕ) → r < 2 ^ 32 → due < 2 ^ 32 → now < 2 ^ 32 → (r + now) % 2 ^ 32 ≡ due → r ≡ units_left due now
unfolding counter_range
left_of_lem r due now hr hd hn e = omega arith
