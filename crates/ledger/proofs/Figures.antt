-- What a proof may know of the figures: that they are in the ranges a site may choose from. 01's are.
use Prim.Native.Nat.{◌≤◌}
use mathlib.Core.Bool.{true, and-eq-true_iff}
use mathlib.Core.Path.{◌≡◌, refl}
use borrow.Author.Tests.{leb-true}
use Rattle.ledger.specs.Limits.{capacity, standard, is_allowed}
use Rattle.ledger.specs.declared.Limits.{Limits}

pub record Allowed (limits : Limits) : Type 0 where
  pub some_small : 1 ≤ limits.small
  pub some_large : 1 ≤ limits.large
  pub some_expirations : 1 ≤ limits.expirations
  pub most_small : limits.small ≤ capacity.small
  pub most_large : limits.large ≤ capacity.large
  pub most_expirations : limits.expirations ≤ capacity.expirations
  pub most_extension_lem : limits.extension ≤ capacity.extension

pub allowed : (limits : Limits) → is_allowed limits ≡ true → Allowed limits
unfolding is_allowed
allowed limits e =
    let (e, extension) = (and-eq-true_iff _ _).0 e in
    let (e, expirations) = (and-eq-true_iff _ _).0 e in
    let (small, large) = (and-eq-true_iff _ _).0 e in
    let (some_small, most_small) = (and-eq-true_iff _ _).0 small in
    let (some_large, most_large) = (and-eq-true_iff _ _).0 large in
    let (some_expirations, most_expirations) = (and-eq-true_iff _ _).0 expirations in
    record {
      some_small = leb-true _ _ some_small;
      some_large = leb-true _ _ some_large;
      some_expirations = leb-true _ _ some_expirations;
      most_small = leb-true _ _ most_small;
      most_large = leb-true _ _ most_large;
      most_expirations = leb-true _ _ most_expirations;
      most_extension_lem = leb-true _ _ extension;
    }

pub standard_allowed : is_allowed standard ≡ true
unfolding is_allowed standard
standard_allowed = refl
