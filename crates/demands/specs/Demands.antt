-- D2 and D3, demands 2 and 3 of the pool, over lists of calls: statements about all that the calls' contracts allow, and so about this
-- code.
use Rattle.std.specs.Prelude.{ℕ, true, List, [], ◌∷◌, map, ◌↔◌, ◌≡◌, length}
use Rattle.ledger.specs.Objects.{Reply, fresh_memory}
use Rattle.ledger.specs.Ledger.{Sent, fresh, replies, after_all}
use Rattle.ledger.specs.Limits.{is_allowed}
use Rattle.ledger.specs.Heap.{Used, sent, heap_replies, all_in_time_and_bounds}
use Rattle.ledger.specs.declared.Limits.{Limits}
use Rattle.record.specs.Reading.{fresh_pool, whole_small, whole_large, HeadTyped}
use Rattle.record.specs.Pools.{is_well_formed, Reads}
use Rattle.record.specs.Tables.{Sized, tables_of}
use Rattle.record.specs.declared.Pool.{Pool}
use Rattle.steps.specs.Staying.{Stays}
use Rattle.calls.specs.Contract.{Obeys}

-- A list of calls is run: each gets record and stores as the last one left them.
pub data Runs : Pool → List ℕ → List ℕ → List Sent → List Reply → Pool → List ℕ → List ℕ → Type 0 where
  done : {p : Pool} {small large : List ℕ} → Runs p small large [] [] p small large
  call : {p p' p'' : Pool} {small small' small'' large large' large'' : List ℕ} {s : Sent} {ss : List Sent} {y : Reply} {ys : List Reply}
      → Obeys s.request s.bytes p small large y p' small' large' → Runs p' small' large' ss ys p'' small'' large''
      → Runs p small large (s ∷ ss) (y ∷ ys) p'' small'' large''

-- What the record's type gives of every value: the lengths of its columns and the range of its counters. Its tables are then `Typed`.
pub record OfType (p : Pool) : Type 0 where
  pub head : HeadTyped p.head
  pub sized : Sized p.blocks p.expirations

-- D13: Every list of calls can be run, from every record and with any stores, and leaves a record again: no statement about runs is empty.
pub record Run (p : Pool) (small large : List ℕ) (ss : List Sent) : Type 0 where
  pub replies : List Reply
  pub pool : Pool
  pub small_after : List ℕ
  pub large_after : List ℕ
  pub runs : Runs p small large ss replies pool small_after large_after
  pub typed : OfType pool

abbrev pub EveryListRuns : Type 0
EveryListRuns = (p : Pool) → OfType p → (small large : List ℕ) (ss : List Sent) → Run p small large ss

-- Demand 2: for all figures that a site may choose and for every list of all calls from a fresh pool, with stores as long as the blocks
-- need and any bytes in them, each answer is the ledger's, record and stores then read as the ledger, and the record is fit. (Every
-- beginning of a list is a list: so it is after each call.)
abbrev pub Demand2 : Type 0
Demand2 =
    (limits : Limits) → is_allowed limits ≡ true → (small large : List ℕ) → length small ≡ whole_small limits → length large ≡ whole_large limits
    → (ss : List Sent) (ys : List Reply) (p' : Pool) (small' large' : List ℕ) → Runs (fresh_pool limits) small large ss ys p' small' large'
    → (ys ≡ replies (fresh limits) ss) × Reads p' small' large' (after_all (fresh limits) ss) × (is_well_formed p' ≡ true)

-- Demand 3: for every such list of the twelve calls the answers equal the unbounded heap's exactly when all use was in time and in bounds.
abbrev pub PoolDemand3 : Type 0
PoolDemand3 =
    (limits : Limits) → is_allowed limits ≡ true → (small large : List ℕ) → length small ≡ whole_small limits → length large ≡ whole_large limits
    → (us : List Used) (ys : List Reply) (p' : Pool) (small' large' : List ℕ) → Runs (fresh_pool limits) small large (map sent us) ys p' small' large'
    → (ys ≡ heap_replies (fresh_memory limits) us) ↔ (all_in_time_and_bounds (fresh_memory limits) [] us ≡ true)

-- O29: over every list of calls, from any record, objects that stand on stay in their blocks.
abbrev pub ObjectsStay : Type 0
ObjectsStay =
    (p p' : Pool) (small large small' large' : List ℕ) (ss : List Sent) (ys : List Reply) → Runs p small large ss ys p' small' large'
    → Stays (tables_of p) (tables_of p')
