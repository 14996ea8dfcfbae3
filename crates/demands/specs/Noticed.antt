-- N6 and N8, order 6 of the pool, over lists of calls: statements about all that the calls' contracts allow, and so about this code.
use Rattle.std.specs.Prelude.{ℕ, ◌<◌, true, List, [], ◌∷◌, ◌≢◌, ◌≡◌, length, get_or}
use Rattle.std.proofs.Math.Option.{none, some}
use Rattle.lists.specs.Tests.{All}
use Rattle.ledger.specs.Objects.{Reply}
use Rattle.ledger.specs.Ledger.{Ledger, Sent, fresh, reply_to_request, after_all}
use Rattle.ledger.specs.Limits.{standard, is_allowed}
use Rattle.ledger.specs.Refusals.{Test}
use Rattle.ledger.specs.Noticed.{earlier_tests, noticed_in}
use Rattle.ledger.specs.Numbers.{is_refusal}
use Rattle.ledger.specs.Rows.{join, make}
use Rattle.ledger.specs.declared.Answer.TheVariants.{Refused}
use Rattle.ledger.specs.declared.Kind.TheVariants.{Local}
use Rattle.ledger.specs.declared.Refusal.TheVariants.{SumDiffers}
use Rattle.ledger.specs.declared.Limits.{Limits}
use Rattle.record.specs.Reading.{fresh_pool, whole_small, whole_large, block_bytes, size_of}
use Rattle.record.specs.Tables.{sum_in}
use Rattle.record.specs.Pools.{is_well_formed, Reads}
use Rattle.record.specs.declared.Pool.{Pool}
use Rattle.stores.specs.Places.{small_after, large_after, sum_at}
use Rattle.calls.specs.Contract.{Obeys}
use Rattle.demands.specs.Demands.{Runs, OfType}
use Rattle.demands.specs.Outlives.{FreshRun}

-- A well-formed record with stores as long as the blocks need, a block in use whose sum agrees, and another value for exactly one byte of
-- that block.
pub record StoreChange (p : Pool) (small large : List ℕ) : Type 0 where
  pub typed : OfType p
  pub fit : is_well_formed p ≡ true
  pub small_whole : length small ≡ whole_small p.head.limits
  pub large_whole : length large ≡ whole_large p.head.limits
  pub block : ℕ
  pub used : get_or p.blocks.handles block 0 ≢ 0
  pub agrees : sum_at small large block ≡ sum_in (get_or p.blocks.extents block 0)
  pub at : ℕ
  pub inside : at < size_of block
  pub value : ℕ
  pub other : value ≢ get_or (block_bytes small large block (size_of block)) at 0

-- Such a change of the object with this handle, where record and stores read as this ledger, and the calls that follow it
pub record ChangedRun (handle : ℕ) (L : Ledger) (ss : List Sent) (ys : List Reply) (p' : Pool) (small' large' : List ℕ) : Type 0 where
  pub pool : Pool
  pub small : List ℕ
  pub large : List ℕ
  pub change : StoreChange pool small large
  pub named : get_or pool.blocks.handles change.block 0 ≡ handle
  pub reads : Reads pool small large L
  pub runs : Runs pool
      (small_after change.block change.at (change.value ∷ []) small)
      (large_after change.block change.at (change.value ∷ []) large) ss ys p' small' large'

pub record PoolNotices : Type 0 where
  -- every list of calls is answered by what the ledger without the change says;
  pub every : (handle : ℕ) (L : Ledger) (ss : List Sent) (ys : List Reply) (p' : Pool) (small' large' : List ℕ) → ChangedRun handle L ss ys p' small' large'
      → ys ≡ noticed_in handle L ss
  -- after whatever calls, each read and each write of the object is refused,
  pub refused : (handle : ℕ) (L : Ledger) (ss : List Sent) (ys : List Reply) (p' : Pool) (small' large' : List ℕ) → ChangedRun handle L ss ys p' small' large'
      → (s : Sent) (tests : List Test) → earlier_tests handle s.request ≡ some tests
      → (y : Reply) (p'' : Pool) (small'' large'' : List ℕ) → Obeys s.request s.bytes p' small' large' y p'' small'' large''
      → is_refusal y.answer ≡ true
  -- and every other call is answered as the ledger without the change says.
  pub others : (handle : ℕ) (L : Ledger) (ss : List Sent) (ys : List Reply) (p' : Pool) (small' large' : List ℕ) → ChangedRun handle L ss ys p' small' large'
      → (s : Sent) → earlier_tests handle s.request ≡ none
      → (y : Reply) (p'' : Pool) (small'' large'' : List ℕ) → Obeys s.request s.bytes p' small' large' y p'' small'' large''
      → y ≡ reply_to_request (after_all L ss) s.request s.bytes

-- The claim is not empty:
pub record ChangesApply : Type 0 where
  -- after any calls from fresh on, every byte of every block in use can be the one that is changed;
  pub each : (limits : Limits) (ss : List Sent) (p : Pool) (small large : List ℕ) → FreshRun limits ss p small large → OfType p
      → (block at value : ℕ) → get_or p.blocks.handles block 0 ≢ 0 → at < size_of block → value ≢ get_or (block_bytes small large block (size_of block)) at 0
      → (c : StoreChange p small large) × (c.block ≡ block) × (c.at ≡ at) × (c.value ≡ value)
  -- and once an object was made, there is a change of it, and every list of calls can follow.
  pub one : (ss : List Sent) → (ys : List Reply) × (p' : Pool) × (small' : List ℕ) × (large' : List ℕ)
      × ChangedRun 1 (after_all (fresh standard) (join 0 ∷ make 0 Local 0 4 ∷ [])) ss ys p' small' large'

-- N6: from a fresh pool, with stores changed by the calls alone, nothing is ever answered 23.
abbrev pub PoolNever : Type 0
PoolNever =
    (limits : Limits) → is_allowed limits ≡ true → (small large : List ℕ) → length small ≡ whole_small limits → length large ≡ whole_large limits
    → (ss : List Sent) (ys : List Reply) (p' : Pool) (small' large' : List ℕ) → Runs (fresh_pool limits) small large ss ys p' small' large'
    → All (λ (y : Reply). y.answer ≢ Refused SumDiffers) ys
