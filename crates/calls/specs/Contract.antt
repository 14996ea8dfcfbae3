-- What the calls open to others promise: for each, its reply, and the record and stores that it leaves.
use Rattle.objects.specs.declared.Part.{Part}
use Rattle.std.specs.Prelude.{ℕ, ◌+◌, Bool, true, false, List, [], ◌≡◌, length, get_or, set, replicate, Result, Ok, Err}
use Rattle.ledger.specs.Numbers.{answer_number, is_refusal}
use Rattle.ledger.specs.Objects.{Reply, plain}
use Rattle.ledger.specs.Ledger.{Ledger, reply_to_request, after_request}
use Rattle.ledger.specs.declared.Kind.{Kind}
use Rattle.ledger.specs.declared.Answer.{Answer}
use Rattle.ledger.specs.declared.Answer.TheVariants.{Refused, Bytes}
use Rattle.ledger.specs.declared.Call.TheVariants.{Join, Schedule, Make, Refresh, Read, Write, Batch, Release}
use Rattle.ledger.specs.declared.Refusal.{Refusal}
use Rattle.ledger.specs.declared.Refusal.TheVariants.{WrongStoreLength, NotWellFormed}
use Rattle.ledger.specs.declared.Request.{Request}
use Rattle.ledger.specs.declared.Request.TheVariants.{Use, Report, Remaining}
use Rattle.stores.specs.Lengths.{are_whole}
use Rattle.stores.specs.Places.{InBlock, small_after, large_after, sum_at}
use Rattle.record.specs.Reading.{block_bytes, Typed, size_of}
use Rattle.record.specs.Tables.{with_sum, tables_of}
use Rattle.record.specs.Pools.{is_well_formed, Reads}
use Rattle.record.specs.WellFormed.{is_block}
use Rattle.record.specs.declared.Pool.{Pool}
use Rattle.steps.specs.Objects.{place_in}
use Rattle.steps.specs.Staying.{Stays}

-- R35: the calls that test 14
abbrev pub is_stored : Request → Bool
is_stored (Use (Join task share)) = false
is_stored (Use (Schedule event task)) = false
is_stored (Use (Make task kind extension size prefix)) = true
is_stored (Use (Refresh task kind extension handle)) = false
is_stored (Use (Read task handle)) = true
is_stored (Use (Write task handle offset)) = true
is_stored (Use (Batch task kind extension)) = false
is_stored (Use (Release task handle)) = false
is_stored Report = false
is_stored (Remaining task handle) = false

-- neither 15 nor 14: a well-formed record, and whole stores where the request touches one
pub record Ready (request : Request) (p : Pool) (small large : List ℕ) : Type 0 where
  pub fit : is_well_formed p ≡ true
  pub whole : is_stored request ≡ true → are_whole p.head.limits small large ≡ true

-- R31: a refusal and nothing more
pub record Refuses (why : Refusal) (p : Pool) (small large : List ℕ) (y : Reply) (p' : Pool) (small' large' : List ℕ) : Type 0 where
  pub refused : y ≡ plain (Refused why)
  pub same_pool : p' ≡ p
  pub same_small : small' ≡ small
  pub same_large : large' ≡ large

-- O10, O11, make: which free block is taken is left open. It is one of the figures' and belonged to no object, it has the new handle, and
-- it is the one that is cleared.
pub record Placed (p : Pool) (small large : List ℕ) (p' : Pool) (small' large' : List ℕ) (block : ℕ) : Type 0 where
  pub known : is_block p.head.limits block ≡ true
  pub free : get_or p.blocks.handles block 0 ≡ 0
  pub holds : get_or p'.blocks.handles block 0 ≡ p.head.given + 1
  pub small_cleared : small' ≡ small_after block 0 (replicate (size_of block) 0) small
  pub large_cleared : large' ≡ large_after block 0 (replicate (size_of block) 0) large

-- O35: the record in which a block has another sum, all else as it was
abbrev pub summed : ℕ → ℕ → Pool → Pool
summed block sum p =
    record p {
      blocks = record p.blocks { extents = set p.blocks.extents block (with_sum (get_or p.blocks.extents block 0) sum) };
    }

-- O20, O21, O35, write: the bytes go into its block, the sum of those that are there then into the block's entry, and the rest of record
-- and stores is as it was
pub record Written (handle offset : ℕ) (new : List ℕ) (p : Pool) (small large : List ℕ) (p' : Pool) (small' large' : List ℕ) : Type 0 where
  pub in_small : small' ≡ small_after (place_in handle p.blocks.handles) offset new small
  pub in_large : large' ≡ large_after (place_in handle p.blocks.handles) offset new large
  pub in_record : p' ≡ summed (place_in handle p.blocks.handles) (sum_at small' large' (place_in handle p.blocks.handles)) p

abbrev pub SameStores : List ℕ → List ℕ → List ℕ → List ℕ → Type 0
SameStores small large small' large' = (small' ≡ small) × (large' ≡ large)

abbrev pub Same : Pool → List ℕ → List ℕ → Pool → List ℕ → List ℕ → Type 0
Same p small large p' small' large' = (p' ≡ p) × SameStores small large small' large'

-- What a make and a write leave, whatever their answer (of a refused one the record is told by `keeps` too)
abbrev pub LeavesMade : Bool → Pool → List ℕ → List ℕ → Pool → List ℕ → List ℕ → Type 0
LeavesMade true p small large p' small' large' = Same p small large p' small' large'
LeavesMade false p small large p' small' large' = (block : ℕ) × Placed p small large p' small' large' block

abbrev pub LeavesWritten : Bool → ℕ → ℕ → List ℕ → Pool → List ℕ → List ℕ → Pool → List ℕ → List ℕ → Type 0
LeavesWritten true handle offset new p small large p' small' large' = Same p small large p' small' large'
LeavesWritten false handle offset new p small large p' small' large' = Written handle offset new p small large p' small' large'

-- What a call leaves of record and stores, byte by byte: a make that is accepted clears its block, a write replaces its bytes, and no other
-- call touches a store, whatever length it has; read, report and remaining life leave the record too.
abbrev pub Leaves : Request → List ℕ → Pool → List ℕ → List ℕ → Answer → Pool → List ℕ → List ℕ → Type 0
Leaves (Use (Join task share)) new p small large answer p' small' large' = SameStores small large small' large'
Leaves (Use (Schedule event task)) new p small large answer p' small' large' = SameStores small large small' large'
Leaves (Use (Make task kind extension size prefix)) new p small large answer p' small' large' = LeavesMade (is_refusal answer) p small large p' small' large'
Leaves (Use (Refresh task kind extension handle)) new p small large answer p' small' large' = SameStores small large small' large'
Leaves (Use (Read task handle)) new p small large answer p' small' large' = Same p small large p' small' large'
Leaves (Use (Write task handle offset)) new p small large answer p' small' large' =
    LeavesWritten (is_refusal answer) handle offset new p small large p' small' large'
Leaves (Use (Batch task kind extension)) new p small large answer p' small' large' = SameStores small large small' large'
Leaves (Use (Release task handle)) new p small large answer p' small' large' = SameStores small large small' large'
Leaves Report new p small large answer p' small' large' = Same p small large p' small' large'
Leaves (Remaining task handle) new p small large answer p' small' large' = Same p small large p' small' large'

-- A call with the bytes that a write or a batch brings, on a record with two stores: its reply, and the record and stores that it leaves.
pub record Obeys (request : Request) (new : List ℕ) (p : Pool) (small large : List ℕ) (y : Reply) (p' : Pool) (small' large' : List ℕ) : Type 0 where
  -- R34, R35: first 15, then 14
  pub unfit : is_well_formed p ≡ false → Refuses NotWellFormed p small large y p' small' large'
  pub wrong : is_well_formed p ≡ true → is_stored request ≡ true → are_whole p.head.limits small large ≡ false
      → Refuses WrongStoreLength p small large y p' small' large'
  -- else whatever ledger record and stores read as, the reply is that ledger's,
  pub answers : Ready request p small large → (L : Ledger) → Reads p small large L → y ≡ reply_to_request L request new
  -- what is left reads as its next,
  pub leaves : Ready request p small large → (L : Ledger) → Reads p small large L → Reads p' small' large' (after_request L request new)
  -- and the record is well-formed (W13)
  pub fits : is_well_formed p ≡ true → is_well_formed p' ≡ true
  pub keeps : (why : Refusal) → y.answer ≡ Refused why → Refuses why p small large y p' small' large'
  -- objects that stand on stay where they are, and a store keeps its length
  pub stays : Stays (tables_of p) (tables_of p')
  pub sizes : (length small' ≡ length small) × (length large' ≡ length large)
  -- and so is what a reading leaves open of the stores: a make clears the block that it takes, a write replaces its bytes, and no other
  -- byte changes
  pub left : Leaves request new p small large y.answer p' small' large'

-- The contract settles the reply: any two that it allows for one request on one record with its stores are the same. `Typed` is what the
-- record's type gives of every value; of numbers out of its range there may be no ledger to answer by.
abbrev pub OneReply : Type 0
OneReply =
    (request : Request) (new : List ℕ) (p : Pool) (small large : List ℕ) → Typed (tables_of p)
    → (y y₂ : Reply) (p' p'' : Pool) (small' small'' large' large'' : List ℕ)
    → Obeys request new p small large y p' small' large' → Obeys request new p small large y₂ p'' small'' large'' → y ≡ y₂

-- a call that touches no store, with the bytes that it brings, whatever stores stand beside the record
abbrev pub FollowsWith : Request → List ℕ → Pool → Answer → Pool → Type 0
FollowsWith request new p answer p' = (small large : List ℕ) → Obeys request new p small large (plain answer) p' small large

-- and one that brings none
abbrev pub Follows : Request → Pool → Answer → Pool → Type 0
Follows request p answer p' = FollowsWith request [] p answer p'

-- make and write
abbrev pub Makes : ℕ → Kind → ℕ → ℕ → ℕ → Pool → List ℕ → List ℕ → Answer → Pool → List ℕ → List ℕ → Type 0
Makes task kind extension size prefix p small large answer p' small' large' =
    Obeys (Use (Make task kind extension size prefix)) [] p small large (plain answer) p' small' large'

abbrev pub Writes : ℕ → ℕ → ℕ → List ℕ → Pool → List ℕ → List ℕ → Answer → Pool → List ℕ → List ℕ → Type 0
Writes task handle offset new p small large answer p' small' large' = Obeys (Use (Write task handle offset)) new p small large (plain answer) p' small' large'

-- O19, read: the part that it hands back, of no bytes where it is refused
abbrev pub ReadsBack : ℕ → ℕ → Pool → List ℕ → List ℕ → Answer → List ℕ → Type 0
ReadsBack task handle p small large answer part =
    Obeys (Use (Read task handle)) [] p small large (record { answer = answer; bytes = part }) p small large

-- the reply of a read that was found in a block, or was refused
abbrev pub reply_found : List ℕ → List ℕ → Result Part Refusal → Reply
reply_found small large (Ok part) = record { answer = Bytes; bytes = block_bytes small large part.block part.length }
reply_found small large (Err why) = plain (Refused why)

-- where a read finds its object: those bytes are its reply, they lie in a block, and the sum is that of the block's
pub record Locates (task handle : ℕ) (p : Pool) (small large : List ℕ) (f : Result Part Refusal) : Type 0 where
  pub reads : Obeys (Use (Read task handle)) [] p small large (reply_found small large f) p small large
  pub inside : (part : Part) → f ≡ Ok part → InBlock small large part.block part.length
  pub summed : (part : Part) → f ≡ Ok part → part.sum ≡ sum_at small large part.block

-- its answer by the number: 0, or that of the refusal
pub record ReadsTo (task handle : ℕ) (p : Pool) (small large : List ℕ) (number : ℕ) (part : List ℕ) : Type 0 where
  pub answer : Answer
  pub numbered : number ≡ answer_number answer
  pub reads : ReadsBack task handle p small large answer part
