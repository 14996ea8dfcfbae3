-- What a call by an unknown kind leaves: all that it was lent. This follows from what the entries promise of it.
use Rattle.std.specs.Prelude.{ℕ, List, ◌≡◌, Err}
use Rattle.ledger.specs.declared.Refusal.TheVariants.{UnknownKind}
use Rattle.record.specs.declared.Pool.{Pool}
use Rattle.by_value.specs.Entries.{MakesBy, RefreshesBy, RefreshesAllBy}

pub make_stays : (task extension size prefix : ℕ) (p : Pool) (small large numbers : List ℕ) (number : ℕ) (p' : Pool) (small' large' numbers' : List ℕ)
    → MakesBy (Err UnknownKind) task extension size prefix p small large numbers number p' small' large' numbers'
    → (p' ≡ p) × (small' ≡ small) × (large' ≡ large) × (numbers' ≡ numbers)
make_stays task extension size prefix p small large numbers number p' small' large' numbers' (n, record_stays, small_stays, large_stays, numbers_stay) =
    (record_stays, small_stays, large_stays, numbers_stay)

pub refresh_stays : (task extension handle : ℕ) (p : Pool) (number : ℕ) (p' : Pool) → RefreshesBy (Err UnknownKind) task extension handle p number p' → p' ≡ p
refresh_stays task extension handle p number p' (n, stays) = stays

pub refresh_all_stays : (task extension : ℕ) (handles : List ℕ) (p : Pool) (number : ℕ) (p' : Pool)
    → RefreshesAllBy (Err UnknownKind) task extension handles p number p' → p' ≡ p
refresh_all_stays task extension handles p number p' (n, stays) = stays
