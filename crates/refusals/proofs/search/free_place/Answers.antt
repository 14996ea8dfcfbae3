-- The search of either store, of as many blocks as its figures say.
use Prim.Native.Nat.{◌+◌}
use native.Mathlib.Omega.{arith}
use mathlib.Core.Path.{◌≡◌, ◌∙◌}
use borrow.Author.Tests.{le-leb, lt-leb}
use Rattle.ledger.specs.Limits.{capacity}
use Rattle.ledger.proofs.Figures.{allowed}
use Rattle.steps.specs.Objects.{free_place_in}
use Rattle.refusals.proofs.search.free_place.Goals as goal

pub first_with-requires : goal.first_with-requires
first_with-requires c =
    let e : c.end_for-end.result ≡ c.args.limits.small = c.end_for-end.ensures ∙ rw (le-leb _ _ c.if-size-le-SMALL_SIZE.true) in
    (omega arith, omega (arith, e, (allowed c.args.limits c.requires).most_small))

pub first_with-requires-else-size-le-SMALL_SIZE : goal.first_with-requires-else-size-le-SMALL_SIZE
first_with-requires-else-size-le-SMALL_SIZE c =
    let e : c.end_for-end.result ≡ capacity.small + c.args.limits.large = c.end_for-end.ensures ∙ rw (lt-leb _ _ c.if-size-le-SMALL_SIZE.false) in
    (omega (arith, e), omega (arith, e, (allowed c.args.limits c.requires).most_large))

pub returns-then-size-le-SMALL_SIZE : goal.returns-then-size-le-SMALL_SIZE
unfolding free_place_in
returns-then-size-le-SMALL_SIZE c =
    let e : c.end_for-end.result ≡ c.args.limits.small = c.end_for-end.ensures ∙ rw (le-leb _ _ c.if-size-le-SMALL_SIZE.true) in
    rw (le-leb _ _ c.if-size-le-SMALL_SIZE.true) (rw e at c.first_with.ensures)

pub returns-else-size-le-SMALL_SIZE : goal.returns-else-size-le-SMALL_SIZE
unfolding free_place_in
returns-else-size-le-SMALL_SIZE c =
    let e : c.end_for-end.result ≡ capacity.small + c.args.limits.large = c.end_for-end.ensures ∙ rw (lt-leb _ _ c.if-size-le-SMALL_SIZE.false) in
    rw (lt-leb _ _ c.if-size-le-SMALL_SIZE.false) (rw e at c.first_with-else-size-le-SMALL_SIZE.ensures)
