-- The claim of Q (order 9 of document 02), over every list of calls: free blocks for all unmet reserves, nobody above a limit, and no make
-- of a task below its reserve is answered 9 or 26; and seven rows.
use Rattle.std.specs.Prelude.{ℕ, max, ◌+◌, ◌-◌, ◌≤◌, ◌<◌, Bool, true, false, ◌&&◌, ◌||◌, List, [], ◌∷◌, ◌≢◌, ◌≡◌, eqb, leb, ltb, length, get_or}
use Rattle.lists.specs.Sums.{sum_below}
use Rattle.lists.specs.Tests.{All}
use Rattle.ledger.specs.Limits.{standard, task_count, is_small}
use Rattle.ledger.specs.Expirations.{departed}
use Rattle.ledger.specs.Objects.{no_share}
use Rattle.ledger.specs.Tasks.{is_active, task_at}
use Rattle.ledger.specs.Shares.{quota_of, blocks_in, used_in, made, unmet, all_unmet, is_full, is_short}
use Rattle.ledger.specs.Ledger.{Sent, fresh, reply, after_all}
use Rattle.ledger.specs.Rows.{join, join_with, share_of, leave, block, tick, make, refresh, release, report, refused, done, stands_still, handle, figures, ◌⇒◌, ◌⨾◌, Row, late_start, ◌runs◌clockReads◌, RowHolds}
use Rattle.ledger.specs.declared.Answer.TheVariants.{Refused}
use Rattle.ledger.specs.declared.Call.TheVariants.{Make}
use Rattle.ledger.specs.declared.Kind.{Kind}
use Rattle.ledger.specs.declared.Limits.{Limits}
use Rattle.ledger.specs.declared.Kind.TheVariants.{Local, Global, Pinned}
use Rattle.ledger.specs.declared.Refusal.TheVariants.{NoFreeBlock, AtLimit}

unfoldable pub share_edges : List Row
share_edges =
    -- 1. 31 of 32 large blocks are held back for task 0: task 1 gets the other one, then 9; the small store is another. Task 0 is given one
    -- still, and one that it met its reserve by is free for it alone.
    fresh standard runs
    join_with 0 (share_of 0 255 31 255) ⇒ done ⨾
    join 1 ⇒ done ⨾
    make 1 Local 30 33 ⇒ handle 1 ⨾
    make 1 Local 30 33 ⇒ refused 9 ⨾
    make 1 Local 30 32 ⇒ handle 2 ⨾
    make 0 Local 0 33 ⇒ handle 3 ⨾
    tick 0 ⇒ stands_still ⨾
    make 1 Local 30 33 ⇒ refused 9 ⨾
    make 0 Local 30 33 ⇒ handle 4
    clockReads 1 ∷
    -- 2. 24 of either store comes before 25 of either, 1 and 2 before both; 25 at the very bound. Who is refused stays absent.
    fresh standard runs
    join_with 0 (share_of 65 64 0 0) ⇒ refused 24 ⨾
    join_with 0 (share_of 65 255 33 32) ⇒ refused 24 ⨾
    join_with 0 (share_of 65 65 0 0) ⇒ refused 25 ⨾
    join_with 0 (share_of 0 0 33 33) ⇒ refused 25 ⨾
    join_with 16 (share_of 65 64 33 32) ⇒ refused 1 ⨾
    tick 0 ⇒ refused 3 ⨾
    join_with 0 (share_of 64 64 32 32) ⇒ done ⨾
    join_with 0 (share_of 65 64 33 32) ⇒ refused 2 ⨾
    join_with 1 (share_of 0 0 1 1) ⇒ refused 25 ⨾
    join_with 1 (share_of 0 0 0 0) ⇒ done
    clockReads 0 ∷
    -- 3. A limit of 0 gives 26, before 9, which holds too; 6 and 7 come first (and 8: row 7). A limit is of one store, and counts pinned
    -- objects; another's release of one makes room.
    fresh standard runs
    join_with 0 (share_of 0 1 32 32) ⇒ done ⨾
    join_with 1 (share_of 0 255 0 0) ⇒ done ⨾
    make 1 Local 31 33 ⇒ refused 6 ⨾
    make 1 Local 30 257 ⇒ refused 7 ⨾
    make 1 Local 30 33 ⇒ refused 26 ⨾
    make 0 Local 30 33 ⇒ handle 1 ⨾
    make 0 Pinned 0 4 ⇒ handle 2 ⨾
    make 0 Local 30 4 ⇒ refused 26 ⨾
    release 1 2 ⇒ done ⨾
    make 0 Local 30 4 ⇒ handle 3
    clockReads 0 ∷
    -- 4. What a leaver made counts for nobody, also where its number joins again.
    fresh standard runs
    join_with 0 (share_of 0 1 0 0) ⇒ done ⨾
    make 0 Pinned 0 4 ⇒ handle 1 ⨾
    make 0 Local 30 4 ⇒ refused 26 ⨾
    leave 0 ⇒ stands_still ⨾
    join_with 0 (share_of 63 63 0 0) ⇒ done ⨾
    join_with 1 (share_of 1 1 0 0) ⇒ refused 25 ⨾
    make 0 Local 30 4 ⇒ handle 2 ⨾
    join_with 1 (share_of 1 1 0 0) ⇒ refused 25 ⨾
    report ⇒ figures 2 0 2 2
    clockReads 0 ∷
    -- 5. Who waits keeps its reserve, and gives it up by leaving.
    fresh standard runs
    join_with 0 (share_of 0 0 32 32) ⇒ done ⨾
    join 1 ⇒ done ⨾
    block 0 ⇒ stands_still ⨾
    make 1 Local 30 33 ⇒ refused 9 ⨾
    leave 0 ⇒ stands_still ⨾
    make 1 Local 30 33 ⇒ handle 1
    clockReads 0 ∷
    -- 6. 25 goes by what is unmet: objects above a reserve take blocks as well. A refresh makes nobody a maker.
    fresh standard runs
    join_with 0 (share_of 0 0 1 255) ⇒ done ⨾
    make 0 Local 30 33 ⇒ handle 1 ⨾
    make 0 Global 0 33 ⇒ handle 2 ⨾
    join_with 1 (share_of 0 0 31 31) ⇒ refused 25 ⨾
    join_with 1 (share_of 0 0 30 30) ⇒ done ⨾
    refresh 1 1 Local 30 ⇒ done ⨾
    make 0 Local 30 33 ⇒ refused 9
    clockReads 0 ∷
    -- 7. 8 comes before 26, which holds of task 1, and before 9, which holds of task 0.
    late_start 0 4294967295 runs
    join_with 1 (share_of 64 64 0 0) ⇒ done ⨾
    make 1 Local 30 33 ⇒ refused 8 ⨾
    make 0 Local 30 4 ⇒ refused 8
    clockReads 0 ∷
    []

pub record Reserves : Type 0 where
  -- Q10: after every list of calls, of either store the free blocks suffice for all unmet reserves,
  pub room : (limits : Limits) (ss : List Sent) (store : Bool)
      → let m = (after_all (fresh limits) ss).memory in used_in store m.objects + all_unmet store m.shares m.objects ≤ blocks_in limits store
  -- no task is above its limit,
  pub below : (limits : Limits) (ss : List Sent) (store : Bool) (task : ℕ) → task < task_count
      → let m = (after_all (fresh limits) ss).memory in made store m.objects task ≤ (quota_of store m.shares m.objects task).limit
  -- nor a reserve above its limit,
  pub ordered : (limits : Limits) (ss : List Sent) (store : Bool) (task : ℕ)
      → let m = (after_all (fresh limits) ss).memory in (quota_of store m.shares m.objects task).reserve ≤ (quota_of store m.shares m.objects task).limit
  -- and who is absent or views has nothing.
  pub inactive : (limits : Limits) (ss : List Sent) (task : ℕ)
      → let m = (after_all (fresh limits) ss).memory in is_active (task_at m.clocks task).state ≡ false → get_or m.shares task no_share ≡ no_share
  -- Q11: and no make of a task below its reserve, of the store to which the length goes, is answered 9 or 26.
  pub never : (limits : Limits) (ss : List Sent) (task : ℕ) (kind : Kind) (extension size prefix : ℕ) (new : List ℕ)
      → let L = after_all (fresh limits) ss in
      1 ≤ unmet (is_small size) L.memory.shares L.memory.objects task
      → ((reply L (Make task kind extension size prefix) new).answer ≢ Refused NoFreeBlock)
      × ((reply L (Make task kind extension size prefix) new).answer ≢ Refused AtLimit)
  -- What is in use or held back of a store is what departed ones made, and of each task the larger of its reserve and what it made.
  pub spoken : (limits : Limits) (ss : List Sent) (store : Bool)
      → let m = (after_all (fresh limits) ss).memory in
      used_in store m.objects + all_unmet store m.shares m.objects
      ≡ made store m.objects departed + sum_below task_count (λ (i : ℕ). max (quota_of store m.shares m.objects i).reserve (made store m.objects i))
  -- Q8: 9 in document 02's words: no block is free, or the reserve is met and no more are free than the others' unmet reserves.
  pub nine : (limits : Limits) (ss : List Sent) (store : Bool) (task : ℕ) → task < task_count
      → let m = (after_all (fresh limits) ss).memory in
      let free = blocks_in limits store - used_in store m.objects in
      let others = all_unmet store m.shares m.objects - unmet store m.shares m.objects task in
      let own = unmet store m.shares m.objects task in
      is_full store m.shares m.objects limits task ≡ (eqb free 0 || (eqb own 0 && leb free others))
  -- Q9: and 25: fewer are free, less the others' unmet reserves, than are to be reserved.
  pub short : (limits : Limits) (ss : List Sent) (store : Bool) (task reserve : ℕ) → task < task_count
      → let m = (after_all (fresh limits) ss).memory in
      let free = blocks_in limits store - used_in store m.objects in
      let others = all_unmet store m.shares m.objects - unmet store m.shares m.objects task in
      is_short store m.shares m.objects limits task reserve ≡ ltb (free - others) reserve
  -- A task may be below its reserve.
  pub applies : let m = (after_all (fresh standard) (join_with 0 (share_of 1 1 0 0) ∷ [])).memory in 1 ≤ unmet true m.shares m.objects 0
  pub seven : length share_edges ≡ 7
  pub rows : All RowHolds share_edges
