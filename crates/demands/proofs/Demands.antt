-- Demands 2 and 3 of the pool: by the contracts a list of calls follows the ledger step by step, and the ledger meets demand 3.
use Prim.Native.Nat.{ℕ}
use mathlib.Core.Bool.{true}
use mathlib.Core.List.{List, ◌∷◌, map}
use mathlib.Core.Path.{◌≡◌, refl, ap₂}
use borrow.Author.Tests.{eq-eqb}
use Rattle.ledger.specs.Objects.{Reply}
use Rattle.ledger.specs.Ledger.{Ledger, Sent, fresh, replies, after_all, after_request}
use Rattle.ledger.specs.Heap.{sent}
use Rattle.ledger.proofs.Demand3.{demand3}
use Rattle.record.specs.Pools.{is_well_formed, Reads}
use Rattle.record.specs.declared.Pool.{Pool}
use Rattle.record.proofs.FreshReads.{fresh_reads, fresh_well_formed}
use Rattle.steps.proofs.Staying.{same_stays, limits_stay, stays_on}
use Rattle.record.specs.Reading.{fresh_pool}
use Rattle.stores.specs.Lengths.{are_whole}
use Rattle.calls.specs.Contract.{Obeys}
use Rattle.demands.specs.Demands.{Runs, done, call, Demand2, PoolDemand3, ObjectsStay}

-- no call changes the length of a store
whole_after : {p p' : Pool} {small small' large large' : List ℕ} {s : Sent} {y : Reply} → Obeys s.request s.bytes p small large y p' small' large'
    → are_whole p.head.limits small large ≡ true → are_whole p'.head.limits small' large' ≡ true
whole_after o whole = rw (o.sizes.0, o.sizes.1, limits_stay _ _ o.stays) whole

pub runs_whole : {p p' : Pool} {small small' large large' : List ℕ} {ss : List Sent} {ys : List Reply} → Runs p small large ss ys p' small' large'
    → are_whole p.head.limits small large ≡ true → are_whole p'.head.limits small' large' ≡ true
runs_whole done whole = whole
runs_whole (call {s = s} o rest) whole = runs_whole rest (whole_after {s = s} o whole)

-- from any well-formed record that reads as a ledger, with whole stores
pub runs_follow : {p p' : Pool} {small small' large large' : List ℕ} {ss : List Sent} {ys : List Reply} → Runs p small large ss ys p' small' large'
    → is_well_formed p ≡ true → are_whole p.head.limits small large ≡ true → (L : Ledger) → Reads p small large L
    → (ys ≡ replies L ss) × Reads p' small' large' (after_all L ss) × (is_well_formed p' ≡ true)
unfolding replies after_all
runs_follow done w whole L reads = (refl, reads, w)
runs_follow (call {s = s} o rest) w whole L reads =
    let (same, left, fit) = runs_follow rest (o.fits w) (whole_after {s = s} o whole) (after_request L s.request s.bytes) (o.leaves (record { fit = w; whole = λ e. whole }) L reads) in
    (ap₂ ◌∷◌ (o.answers (record { fit = w; whole = λ e. whole }) L reads) same, left, fit)

pub demand2 : Demand2
unfolding fresh_pool
demand2 limits may small large a b ss ys p' small' large' runs =
    runs_follow runs (fresh_well_formed limits may) (rw (eq-eqb _ _ a, eq-eqb _ _ b)) (fresh limits) (fresh_reads limits small large)

pub pool_demand3 : PoolDemand3
pool_demand3 limits may small large a b us ys p' small' large' runs =
    rw (demand2 limits may small large a b (map sent us) ys p' small' large' runs).0 (demand3 limits us)

pub objects_stay : ObjectsStay
objects_stay p p' small large small' large' ss ys done = same_stays refl refl refl
objects_stay p p' small large small' large' ss ys (call o rest) = stays_on o.stays (objects_stay _ p' _ _ small' large' _ _ rest)
