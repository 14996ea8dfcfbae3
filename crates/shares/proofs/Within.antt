-- Quotas against what is made.
use Prim.Native.Nat.{ℕ, ◌+◌, ◌-◌}
use native.Mathlib.Omega.{arith}
use mathlib.Core.Bool.{◌&&◌}
use mathlib.Core.Path.{◌≡◌}
use borrow.Author.Tests.{leb-true, leb-false, le-leb, lt-leb}
use lib.Dec.{leb}
use Rattle.lists.proofs.Cases.{by_test}

pub both_within : (made reserve limit : ℕ) → leb (made + (reserve - made)) limit ≡ (leb reserve limit && leb made limit)
both_within made reserve limit =
    by_test (leb reserve limit)
    (λ r. by_test (leb made limit)
    (λ m. rw (r, m) (le-leb _ limit (omega (arith, leb-true reserve limit r, leb-true made limit m))))
    (λ m. rw (r, m) (lt-leb _ limit (omega (arith, leb-false made limit m)))))
    (λ r. rw r (lt-leb _ limit (omega (arith, leb-false reserve limit r))))
