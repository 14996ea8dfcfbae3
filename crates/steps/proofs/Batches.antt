-- A batch on a well-formed record follows the ledger that it reads as: it is one refresh after another, each of which would be accepted.
use Prim.Native.Nat.{ℕ, ◌+◌, ◌≤◌, ◌<◌}
use native.Mathlib.Omega.{arith}
use mathlib.Core.Bool.{true, false}
use mathlib.Core.List.{List, [], ◌∷◌}
use mathlib.Core.Path.{◌≡◌, refl}
use borrow.Author.Tests.{not-false, ltb-false}
use lib.Dec.{eqb}
use lib.ListN.{length}
use Rattle.lists.specs.Tests.{All}
use Rattle.lists.proofs.All.{all_imp, none→All}
use Rattle.lists.proofs.Cases.{or_false_parts}
use Rattle.ledger.specs.Limits.{largest_batch}
use Rattle.ledger.specs.Expirations.{Expiration, due_after, set_on_each}
use Rattle.ledger.specs.Objects.{Memory, handles_of}
use Rattle.ledger.specs.Ledger.{Ledger}
use Rattle.ledger.specs.Refusals.{is_pinning}
use Rattle.ledger.specs.Rules.{memory_after, expirations_after, tests_of}
use Rattle.ledger.specs.declared.Kind.{Kind}
use Rattle.ledger.specs.declared.Call.TheVariants.{Refresh, Batch}
use Rattle.record.specs.Reading.{Typed, Reads}
use Rattle.record.specs.WellFormed.{is_well_formed}
use Rattle.record.specs.Tables.{Tables}
use Rattle.record.proofs.Facts.{Fit, fit_parts}
use Rattle.steps.specs.Facts.{is_here, verdict_by}
use Rattle.steps.specs.Objects.{standing_in, refreshed_pool, batched_pool}
use Rattle.steps.specs.Staying.{Stays}
use Rattle.steps.proofs.Chosen.{all_passed, may_set, slot_free, Renewed}
use Rattle.steps.proofs.ObjectTypes.{typed_refreshed}
use Rattle.steps.proofs.ObjectsFollow.{carried, refresh_fits, refresh_reads}
use Rattle.steps.proofs.ReadMade.{standing_more}
use Rattle.steps.proofs.Rooms.{entries_alike}
use Rattle.steps.proofs.Finding.{every_object_stands}
use Rattle.steps.proofs.Staying.{same_stays, stays_on, refresh_stays}
use Rattle.steps.proofs.Taken.{MaySet}
use Rattle.std.specs.Prelude.{Ok}

-- what a batch has that is accepted: it is not too long, each of its objects stands, and there is room for all
pub record Renewable (task : ℕ) (kind : Kind) (extension : ℕ) (handles : List ℕ) (p : Tables) : Type 0 where
  pub may : MaySet task extension p
  pub plain : is_pinning kind ≡ false
  pub here : All (λ (handle : ℕ). is_here p.blocks handle ≡ true) handles
  pub few : length handles ≤ largest_batch
  pub room : standing_in p.expirations + length handles ≤ p.limits.expirations

pub batch_takes : (task : ℕ) (kind : Kind) (extension : ℕ) (new : List ℕ) (p : Tables) → Fit p
    → verdict_by (tests_of (Batch task kind extension) new) p ≡ Ok tt → Renewable task kind extension (handles_of new) p
unfolding tests_of
batch_takes task kind extension new p fit v =
    let (known, (present, (active, (acts, (count, (plain, (within, (given, (gone, (room, end)))))))))) = all_passed [] [] _ p v in
    record {
      may = may_set task kind extension p fit known present within;
      plain = plain;
      here = all_imp (λ handle. not-false _) (handles_of new) (none→All _ (handles_of new) gone);
      few = ltb-false _ _ (or_false_parts (eqb (length (handles_of new)) 0) _ count).1;
      room = ltb-false _ _ room;
    }

abbrev ledger_of : Memory → List Expiration → Ledger
ledger_of m xs = record { memory = m; expirations = xs }

-- the first of them has what a refresh has
first_renewed : (task : ℕ) (kind : Kind) (extension handle : ℕ) (handles : List ℕ) (p : Tables) → Fit p → Typed p
    → Renewable task kind extension (handle ∷ handles) p → Renewed task kind extension handle p
first_renewed task kind extension handle handles p fit types r =
    let room : standing_in p.expirations < p.limits.expirations = omega (arith, r.room) in
    record { may = r.may; plain = r.plain; here = r.here.0; room = room; entry = slot_free p fit types room }

abbrev on_each : ℕ → Kind → ℕ → Memory → List ℕ → List Expiration → List Expiration
on_each task kind extension m handles xs = set_on_each (due_after m.clocks task kind extension) handles xs

module _ (task : ℕ) (kind : Kind) (extension : ℕ) {small large : List ℕ} (m : Memory) where
  -- a refresh of the ledger takes no object away
  refreshed_ledger : (handle : ℕ) (p : Tables) (xs : List Expiration) → Fit p → Reads p small large (ledger_of m xs)
      → carried (Refresh task kind extension handle) [] (ledger_of m xs) ≡ ledger_of m (on_each task kind extension m (handle ∷ []) xs)
  unfolding memory_after expirations_after set_on_each
  refreshed_ledger handle p xs fit reads = rw (standing_more _ xs m.objects (every_object_stands fit reads))

  -- and after it the others, with one entry less
  rest_stand : (handle : ℕ) (handles : List ℕ) (p : Tables) (xs : List Expiration) → Fit p → Reads p small large (ledger_of m xs)
      → Renewable task kind extension (handle ∷ handles) p
      → Fit (refreshed_pool task kind extension handle p)
      → Reads (refreshed_pool task kind extension handle p) small large (ledger_of m (on_each task kind extension m (handle ∷ []) xs))
      → Renewable task kind extension handles (refreshed_pool task kind extension handle p)
  unfolding refreshed_pool set_on_each
  rest_stand handle handles p xs fit reads r fit₁ reads₁ =
      record {
        may = record { known = r.may.known; present = r.may.present; short = r.may.short; most = r.may.most };
        plain = r.plain;
        here = r.here.1;
        few = omega (arith, r.few);
        room = omega (arith, r.room, entries_alike fit reads, entries_alike fit₁ reads₁);
      }

  batch_follows : (handles : List ℕ) (p : Tables) (xs : List Expiration) → is_well_formed p ≡ true → Typed p → Reads p small large (ledger_of m xs)
      → Renewable task kind extension handles p
      → (is_well_formed (batched_pool task kind extension handles p) ≡ true)
      × Reads (batched_pool task kind extension handles p) small large (ledger_of m (on_each task kind extension m handles xs))
  unfolding batched_pool set_on_each
  batch_follows [] p xs w types reads r = (w, reads)
  batch_follows (handle ∷ handles) p xs w types reads r =
      let v = first_renewed task kind extension handle handles p (fit_parts p w) types r in
      let w₁ = refresh_fits w types reads task kind extension handle v in
      let reads₁ = rw (refreshed_ledger handle p xs (fit_parts p w) reads) at (refresh_reads w types reads task kind extension handle v) in
      batch_follows handles (refreshed_pool task kind extension handle p) _ w₁ (typed_refreshed task kind extension handle p types) reads₁
      (rest_stand handle handles p xs (fit_parts p w) reads r (fit_parts _ w₁) reads₁)

-- the record after a batch that is accepted
module _ {p : Tables} {small large : List ℕ} {L : Ledger} (w : is_well_formed p ≡ true) (types : Typed p) (reads : Reads p small large L)
    (task : ℕ) (kind : Kind) (extension : ℕ) (new : List ℕ) (v : verdict_by (tests_of (Batch task kind extension) new) p ≡ Ok tt) where
  after : (is_well_formed (batched_pool task kind extension (handles_of new) p) ≡ true)
      × Reads (batched_pool task kind extension (handles_of new) p) small large
      (ledger_of L.memory (on_each task kind extension L.memory (handles_of new) L.expirations))
  after =
      batch_follows task kind extension L.memory (handles_of new) p L.expirations w types reads
      (batch_takes task kind extension new p (fit_parts p w) v)

  pub batch_fits : is_well_formed (batched_pool task kind extension (handles_of new) p) ≡ true
  batch_fits = after.0

  -- no object goes, since each has the expirations that it had
  pub batch_reads : Reads (batched_pool task kind extension (handles_of new) p) small large (carried (Batch task kind extension) new L)
  unfolding memory_after expirations_after
  batch_reads = rw (every_object_stands (fit_parts _ batch_fits) after.1) after.1

pub batch_stays : (task : ℕ) (kind : Kind) (extension : ℕ) (handles : List ℕ) (p : Tables) → Stays p (batched_pool task kind extension handles p)
unfolding batched_pool
batch_stays task kind extension [] p = same_stays refl refl refl
batch_stays task kind extension (handle ∷ handles) p =
    stays_on (refresh_stays task kind extension handle p) (batch_stays task kind extension handles (refreshed_pool task kind extension handle p))
