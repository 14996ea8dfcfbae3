-- Every list of calls can be run: whatever the record and the stores, there are a reply, a record and stores that the call's contract
-- allows. The record is the one with the entries that the steps leave.
use Rattle.ledger.specs.declared.Refusal.{Refusal}
use Rattle.objects.specs.declared.Part.{Part}
use Prim.Native.Nat.{ℕ, suc, ◌<◌}
use native.Mathlib.Omega.{arith}
use mathlib.Core.Bool.{Bool, true, false, false≢true, not, ◌&&◌}
use mathlib.Core.List.{List, [], ◌∷◌, map}
use mathlib.Core.Path.{◌≡◌, refl, sym, ap, ap₂, ◌∙◌}
use lib.Dec.{eqb}
use lib.ListN.{length, length-map, length-set, get_or-map}
use lib.Seq.{get_or-set_same}
use Rattle.lists.specs.Tests.{any, All}
use Rattle.lists.specs.Tables.{map_from}
use Rattle.lists.proofs.All.{all_set, all_imp, all_map}
use Rattle.lists.proofs.Cases.{by_test}
use Rattle.ledger.specs.Limits.{counter_range}
use Rattle.ledger.specs.Tasks.{is_tested}
use Rattle.ledger.specs.Numbers.{is_refusal}
use Rattle.ledger.specs.Objects.{Reply, plain, handles_of}
use Rattle.ledger.specs.Refusals.{verdict, Verdict}
use Rattle.ledger.specs.Rules.{reply_to, memory_after, expirations_after, tests_of}
use Rattle.ledger.specs.Ledger.{reply, next}
use Rattle.ledger.specs.declared.Answer.{Answer}
use Rattle.ledger.specs.declared.Answer.TheVariants.{Done, Refused as RefusedAnswer}
use Rattle.ledger.specs.declared.Call.TheVariants.{Join, Schedule, Make, Refresh, Read, Write, Batch, Release}
use Rattle.ledger.specs.declared.Event.{Event}
use Rattle.ledger.specs.declared.Kind.{Kind}
use Rattle.ledger.specs.declared.Share.{Share}
use Rattle.ledger.specs.declared.Request.{Request}
use Rattle.ledger.specs.declared.Request.TheVariants.{Use, Report, Remaining}
use Rattle.record.specs.Codes.{free_block}
use Rattle.record.specs.Pools.{is_well_formed}
use Rattle.record.specs.Reading.{Typed}
use Rattle.record.specs.Tables.{BlockEntry, ExpirationEntry, Tables, length_range, maker_range, extent_of, blocks_of, entries_of, tables_by, tables_of}
use Rattle.record.specs.WellFormed.{handle_of, is_naming}
use Rattle.record.specs.WellFormed as WellFormed
use Rattle.record.specs.declared.GlobalTime.{GlobalTime}
use Rattle.record.specs.declared.Pool.{Pool}
use Rattle.record.specs.declared.TaskEntry.{TaskEntry}
use Rattle.record.proofs.Columns.{block_at, entry_of}
use Rattle.record.proofs.Facts.{fit_parts}
use Rattle.stores.specs.Places.{sum_after}
use Rattle.steps.specs.Events.{verdict_at, leaver_of, kept_block, swept, orphaned_block, orphaned_pool, moved_pool, pool_after, answer_after, outcome_by, scheduled}
use Rattle.steps.specs.Facts.{verdict_by}
use Rattle.steps.specs.Joins.{joined_pool}
use Rattle.steps.specs.Objects.{free_place, made_pool, refreshed_pool, batched_pool, released_pool}
use Rattle.steps.proofs.Chosen.{make_takes}
use Rattle.steps.proofs.EventTypes.{InRange, typed_scheduled}
use Rattle.steps.proofs.Joins.{joining, join_stays, join_reads, join_fits}
use Rattle.steps.proofs.ObjectTypes.{typed_made, typed_refreshed, typed_released}
use Rattle.objects.specs.Outcomes.{bytes_in, shown_in}
use Rattle.stores.specs.Lengths.{are_whole, TellsWhole}
use Rattle.calls.specs.Contract.{is_stored, Ready, Obeys}
use Rattle.calls.specs.Served.{without_bytes, Serves}
use Rattle.calls.proofs.Lent.{lent_typed}
use Rattle.calls.proofs.Meets.{make_kept, make_cleared, locates}
use Rattle.calls.proofs.Outcomes.{blind_alike, blind_refused, refresh_done, batch_done, release_done}
use Rattle.calls.proofs.Promises.{unfit_obeys, wrong_obeys, carried_obeys, ready}
use Rattle.calls.proofs.Reported.{report_obeys, life_obeys}
use Rattle.calls.proofs.Scheduled.{schedule_obeys}
use Rattle.calls.proofs.Served.{whatever_bytes, schedule_serves, join_serves, refresh_serves, batch_serves, release_serves, report_serves, life_serves, make_serves, write_serves}
use Rattle.calls.proofs.WriteLent.{write_refused_lent, write_done_lent}
use Rattle.demands.specs.Demands.{done, call, OfType, EveryListRuns}
use Rattle.std.specs.Prelude.{Ok, Err, Result}

-- A length, a maker and a prefix that an extent has room for: every block of a record has such.
abbrev Short : BlockEntry → Type 0
Short b = (b.length < length_range) × (b.maker < maker_range) × (b.prefix < length_range)

short_blocks : (hs ls : List ℕ) → All Short (blocks_of hs ls)
unfolding blocks_of
short_blocks [] [] = tt
short_blocks [] (l ∷ ls) = tt
short_blocks (h ∷ hs) [] = tt
short_blocks (h ∷ hs) (l ∷ ls) = ((omega arith, omega arith, omega arith), short_blocks hs ls)

-- The record with these entries
extent_in : BlockEntry → ℕ
extent_in b = extent_of b.length b.sum b.maker b.prefix

clock_in : ExpirationEntry → ℕ
clock_in e = e.clock

block_in : ExpirationEntry → ℕ
block_in e = e.block

due_in : ExpirationEntry → ℕ
due_in e = e.due

abbrev pool_by : Tables → Pool
pool_by t =
    record {
      head = record { tasks = t.tasks; global = t.global; given = t.given; limits = t.limits; shares = t.shares };
      blocks = record { handles = map handle_of t.blocks; extents = map extent_in t.blocks };
      expirations = record { clocks = map clock_in t.expirations; named = map block_in t.expirations; dues = map due_in t.expirations };
    }

blocks_by : (bs : List BlockEntry) → All Short bs → blocks_of (map handle_of bs) (map extent_in bs) ≡ bs
unfolding blocks_of extent_in
blocks_by [] h = refl
blocks_by (b ∷ bs) (h, hs) = ap₂ ◌∷◌ (entry_of b.handle b.length b.sum b.maker b.prefix h.0 h.1 h.2) (blocks_by bs hs)

entries_by : (xs : List ExpirationEntry) → entries_of (map clock_in xs) (map block_in xs) (map due_in xs) ≡ xs
unfolding entries_of clock_in block_in due_in
entries_by [] = refl
entries_by (x ∷ xs) = ap (λ ys. x ∷ ys) (entries_by xs)

-- Entries such as a record can have
record Fine (t : Tables) : Type 0 where
  types : Typed t
  short : All Short t.blocks

tables_by_lem : (t : Tables) → Fine t → tables_of (pool_by t) ≡ t
unfolding tables_of tables_by
tables_by_lem t f = rw (blocks_by t.blocks f.short, entries_by t.expirations)

of_type_by : (t : Tables) → Fine t → OfType (pool_by t)
of_type_by t f =
    record {
      head = record { tasks = f.types.tasks; shares = f.types.shares; clocks = f.types.clocks; global = f.types.global; given = f.types.given };
      sized =
          record {
            blocks = record { of_handles = length-map t.blocks _ ∙ f.types.blocks; of_extents = length-map t.blocks _ ∙ f.types.blocks };
            entries =
                record {
                  of_clocks = length-map t.expirations _ ∙ f.types.expirations;
                  of_named = length-map t.expirations _ ∙ f.types.expirations;
                  of_dues = length-map t.expirations _ ∙ f.types.expirations;
                };
          };
    }

pub typed_of : {p : Pool} → OfType p → Typed (tables_of p)
typed_of {p} o = lent_typed p.head p.blocks p.expirations o.head o.sized.blocks o.sized.entries

fine_of : {p : Pool} → OfType p → Fine (tables_of p)
unfolding tables_of tables_by
fine_of {p} o = record { types = typed_of o; short = short_blocks p.blocks.handles p.blocks.extents }

-- What each step leaves is such.
kept_short : (xs : List ExpirationEntry) (i : ℕ) (bs : List BlockEntry) → All Short bs → All Short (map_from i (kept_block xs) bs)
kept_short xs i [] h = tt
kept_short xs i (b ∷ bs) (h, hs) = (by_test (any (is_naming i) xs) (λ e. rw e h) (λ e. rw e h), kept_short xs (suc i) bs hs)

short_swept : (leaver : ℕ) (advanced : Bool) (tasks : List TaskEntry) (global : GlobalTime) (t : Tables) → All Short t.blocks
    → All Short (swept leaver advanced tasks global t).blocks
unfolding swept
short_swept leaver advanced tasks global t h = kept_short (swept leaver advanced tasks global t).expirations 0 t.blocks h

short_orphaned : (leaver : ℕ) (bs : List BlockEntry) → All Short bs → All Short (map (orphaned_block leaver) bs)
short_orphaned leaver bs h =
    all_map Short (orphaned_block leaver) bs
    (all_imp (λ b s. (s.0, by_test (eqb b.maker leaver) (λ e. rw e (omega arith)) (λ e. rw e s.1), s.2)) bs h)

short_by : (v : Verdict) (event : Event) (task : ℕ) (t : Tables) → All Short t.blocks → All Short (outcome_by v event task t).pool.blocks
unfolding pool_after moved_pool orphaned_pool
short_by (Ok _) event task t h =
    let left = short_orphaned (leaver_of event task) t.blocks h in
    by_test (is_tested event) (λ e. rw e (short_swept _ _ _ _ (orphaned_pool event task t) left)) (λ e. rw e left)
short_by (Err r) event task t h = h

fine_scheduled : (event : Event) (task : ℕ) (t : Tables) → Fine t → Fine (scheduled event task t).pool
unfolding scheduled
fine_scheduled event task t f =
    record { types = typed_scheduled event task t f.types; short = short_by (verdict_at event task t.tasks) event task t f.short }

fine_joined : (task : ℕ) (share : Share) (t : Tables) → Fine t → Fine (joined_pool task share t)
unfolding joined_pool counter_range
fine_joined task share t f =
    record {
      types =
          record {
            tasks = rw length-set f.types.tasks;
            shares = rw length-set f.types.shares;
            blocks = f.types.blocks;
            expirations = f.types.expirations;
            clocks = all_set InRange t.tasks task f.types.clocks (omega arith);
            global = f.types.global;
            given = f.types.given;
          };
      short = f.short;
    }

fine_refreshed : (task : ℕ) (kind : Kind) (extension handle : ℕ) (t : Tables) → Fine t → Fine (refreshed_pool task kind extension handle t)
unfolding refreshed_pool
fine_refreshed task kind extension handle t f = record { types = typed_refreshed task kind extension handle t f.types; short = f.short }

fine_batched : (task : ℕ) (kind : Kind) (extension : ℕ) (handles : List ℕ) (t : Tables) → Fine t → Fine (batched_pool task kind extension handles t)
unfolding batched_pool
fine_batched task kind extension [] t f = f
fine_batched task kind extension (handle ∷ handles) t f = fine_batched task kind extension handles _ (fine_refreshed task kind extension handle t f)

fine_released : (handle : ℕ) (t : Tables) → Fine t → Fine (released_pool handle t)
unfolding released_pool
fine_released handle t f = record { types = typed_released handle t f.types; short = kept_short (released_pool handle t).expirations 0 t.blocks f.short }

fine_made : (task : ℕ) (kind : Kind) (extension size prefix : ℕ) (t : Tables) → Fine t → WellFormed.is_well_formed t ≡ true
    → verdict_by (tests_of (Make task kind extension size prefix) []) t ≡ Ok tt
    → Fine (made_pool task kind extension size prefix t)
unfolding made_pool
fine_made task kind extension size prefix t f w v =
    let taken = make_takes task kind extension size prefix t (fit_parts t w) f.types v in
    record {
      types = typed_made task kind extension size prefix t f.types taken.unspent;
      short = all_set Short t.blocks _
          f.short (omega (arith, taken.block.most), omega (arith, taken.may.known), omega (arith, taken.prefixed, taken.block.most));
    }

-- A call that can be made
record Made (request : Request) (new : List ℕ) (p : Pool) (small large : List ℕ) : Type 0 where
  reply : Reply
  pool : Pool
  new_small : List ℕ
  new_large : List ℕ
  obeys : Obeys request new p small large reply pool new_small new_large
  typed : OfType pool

obeyed : {request : Request} {new : List ℕ} {p p' : Pool} {small large small' large' : List ℕ} {y : Reply}
    → Obeys request new p small large y p' small' large' → OfType p' → Made request new p small large
obeyed b o = record { reply = _; pool = _; new_small = _; new_large = _; obeys = b; typed = o }

served : {request : Request} {new : List ℕ} {p p' : Pool} {small large small' large' : List ℕ} {answer : Answer}
    → Serves request new p small large (without_bytes answer p') small' large' → OfType p' → Made request new p small large
served s o = obeyed s.obeys o

module _ (new : List ℕ) {p : Pool} (o : OfType p) (small large : List ℕ) where
  types : Typed (tables_of p)
  types = typed_of o

  fine : Fine (tables_of p)
  fine = fine_of o

  module _ (w : is_well_formed p ≡ true) where
    not_refused_event : (event : Event) (task : ℕ) → is_refusal (answer_after event task (tables_of p)) ≡ false
    unfolding answer_after
    not_refused_event event task = by_test (is_tested event) (λ e. rw e) (λ e. rw e)

    schedule_by : (event : Event) (task : ℕ) (v : Verdict) → verdict_at event task (tables_of p).tasks ≡ v → Made (Use (Schedule event task)) new p small large
    unfolding scheduled
    schedule_by event task (Ok _) e =
        let t = pool_after event task (tables_of p) in
        let f : Fine t = rw e at (fine_scheduled event task (tables_of p) fine) in
        served (schedule_serves new p small large event task (answer_after event task (tables_of p)) (pool_by t)
        (λ small large.
        schedule_obeys event task types w small large (rw e) (rw e (tables_by_lem t f))
        (λ why r. absurd (false≢true (sym (not_refused_event event task) ∙ ap is_refusal r)))))
        (of_type_by t f)
    schedule_by event task (Err r) e =
        served (schedule_serves new p small large event task (RefusedAnswer r) p
        (λ small large. schedule_obeys event task types w small large (rw e) (rw e) (λ why r. refl))) o

    join_by : (task : ℕ) (share : Share) (v : Verdict) → verdict_by (tests_of (Join task share) []) (tables_of p) ≡ v
        → Made (Use (Join task share)) new p small large
    unfolding reply_to tests_of verdict
    join_by task share (Ok _) e =
        let t = joined_pool task share (tables_of p) in
        let f = fine_joined task share (tables_of p) fine in
        let fit = fit_parts (tables_of p) w in
        served (join_serves new p small large task share _ (pool_by t)
        (λ small large.
        carried_obeys (Join task share) [] p small large w (λ s. absurd (false≢true s)) (plain Done) (pool_by t) small large refl
        (λ L reads. blind_alike p types w small large (Join task share) [] (λ i j. refl) reads ∙ e)
        (λ L reads. refl) (λ L reads. rw (tables_by_lem t f) (join_reads task share fit (joining task share (tables_of p) e) reads))
        (rw (tables_by_lem t f) (join_fits task share (tables_of p) types w e)) (rw (tables_by_lem t f) (join_stays task share (tables_of p))) (refl, refl) (refl, refl)))
        (of_type_by t f)
    join_by task share (Err r) e =
        served (join_serves new p small large task share _ p
        (λ small large. blind_refused p types w small large (Join task share) [] (λ i j. refl) (λ s. absurd (false≢true s)) e)) o

    refresh_by : (task : ℕ) (kind : Kind) (extension handle : ℕ) (v : Verdict)
        → verdict_by (tests_of (Refresh task kind extension handle) []) (tables_of p) ≡ v
        → Made (Use (Refresh task kind extension handle)) new p small large
    unfolding tests_of verdict
    refresh_by task kind extension handle (Ok _) e =
        let t = refreshed_pool task kind extension handle (tables_of p) in
        let f = fine_refreshed task kind extension handle (tables_of p) fine in
        served (refresh_serves new p small large task kind extension handle _ (pool_by t)
        (λ small large. refresh_done p types w small large task kind extension handle (tables_by_lem t f) e)) (of_type_by t f)
    refresh_by task kind extension handle (Err r) e =
        served (refresh_serves new p small large task kind extension handle _ p
        (λ small large. blind_refused p types w small large (Refresh task kind extension handle) [] (λ i j. refl)
        (λ s. absurd (false≢true s)) e)) o

    batch_by : (task : ℕ) (kind : Kind) (extension : ℕ) (v : Verdict) → verdict_by (tests_of (Batch task kind extension) new) (tables_of p) ≡ v
        → Made (Use (Batch task kind extension)) new p small large
    unfolding tests_of verdict
    batch_by task kind extension (Ok _) e =
        let t = batched_pool task kind extension (handles_of new) (tables_of p) in
        let f = fine_batched task kind extension (handles_of new) (tables_of p) fine in
        served (batch_serves new p small large task kind extension _ (pool_by t)
        (λ small large. batch_done p types w small large task kind extension new (tables_by_lem t f) e)) (of_type_by t f)
    batch_by task kind extension (Err r) e =
        served (batch_serves new p small large task kind extension _ p
        (λ small large. blind_refused p types w small large (Batch task kind extension) new (λ i j. refl) (λ s. absurd (false≢true s)) e)) o

    release_by : (task handle : ℕ) (v : Verdict) → verdict_by (tests_of (Release task handle) []) (tables_of p) ≡ v
        → Made (Use (Release task handle)) new p small large
    unfolding tests_of verdict
    release_by task handle (Ok _) e =
        let t = released_pool handle (tables_of p) in
        let f = fine_released handle (tables_of p) fine in
        served (release_serves new p small large task handle _ (pool_by t) (λ small large. release_done p types w small large task handle (tables_by_lem t f) e))
        (of_type_by t f)
    release_by task handle (Err r) e =
        served (release_serves new p small large task handle _ p
        (λ small large. blind_refused p types w small large (Release task handle) [] (λ i j. refl) (λ s. absurd (false≢true s)) e)) o

    life_made : (task handle : ℕ) → Made (Remaining task handle) new p small large
    life_made task handle = served (life_serves new p small large task handle _ (life_obeys o.head o.sized w task handle refl)) o

    report_made : Made Report new p small large
    report_made = served (report_serves new p small large _ (report_obeys p w)) o

  make_by : (task : ℕ) (kind : Kind) (extension size prefix : ℕ) → Ready (Use (Make task kind extension size prefix)) p small large
      → (v : Verdict) → verdict_by (tests_of (Make task kind extension size prefix) []) (tables_of p) ≡ v
      → Made (Use (Make task kind extension size prefix)) new p small large
  unfolding tables_of tables_by made_pool
  make_by task kind extension size prefix ready (Ok _) e =
      let t = made_pool task kind extension size prefix (tables_of p) in
      let f = fine_made task kind extension size prefix (tables_of p) fine ready.fit e in
      let place = free_place p.head.limits size (tables_of p).blocks in
      let taken = make_takes task kind extension size prefix (tables_of p) (fit_parts (tables_of p) ready.fit) types e in
      served (make_serves new p small large task kind extension size prefix _ (pool_by t) _ _
      (make_cleared types ready {p' = pool_by t} place refl
      (sym (ap handle_of (block_at p.blocks.handles p.blocks.extents o.sized.blocks.of_handles o.sized.blocks.of_extents place)) ∙ taken.block.free)
      (get_or-map handle_of t.blocks place free_block ∙ ap handle_of (get_or-set_same (tables_of p).blocks place _ free_block taken.block.listed))
      (tables_by_lem t f) e refl refl)) (of_type_by t f)
  make_by task kind extension size prefix ready (Err r) e =
      served (make_serves new p small large task kind extension size prefix _ p small large (make_kept types ready r e)) o

  read_made : (task handle : ℕ) → Ready (Use (Read task handle)) p small large → Made (Use (Read task handle)) new p small large
  unfolding reply next tests_of memory_after expirations_after
  read_made task handle ready =
      let found = locates types ready (shown_in small large (tests_of (Read task handle) []) task handle (tables_of p)) refl in
      obeyed (whatever_bytes new (λ L. refl) (λ L. refl) (λ b. b) found.reads) o

  write_by : (task handle offset : ℕ) → Ready (Use (Write task handle offset)) p small large
      → (f : Result Part Refusal) → f ≡ bytes_in small large (tests_of (Write task handle offset) new) handle (tables_of p)
      → Made (Use (Write task handle offset)) new p small large
  unfolding tables_of
  write_by task handle offset ready (Ok part) so =
      let (size, writes) = write_done_lent o.head o.sized task handle offset new ready (Ok part) so refl (sum_after small large part.block offset new) refl refl refl in
      served (write_serves new p small large task handle offset _ _ _ _ writes)
      (record { head = o.head; sized = record { blocks = size; entries = o.sized.entries } })
  write_by task handle offset ready (Err r) so =
      served (write_serves new p small large task handle offset _ p small large (write_refused_lent o.head o.sized task handle offset new ready (Err r) so refl)) o

  -- every request that is ready,
  ready_made : (request : Request) → Ready request p small large → Made request new p small large
  ready_made (Use (Join task share)) r = join_by r.fit task share _ refl
  ready_made (Use (Schedule event task)) r = schedule_by r.fit event task _ refl
  ready_made (Use (Make task kind extension size prefix)) r = make_by task kind extension size prefix r _ refl
  ready_made (Use (Refresh task kind extension handle)) r = refresh_by r.fit task kind extension handle _ refl
  ready_made (Use (Read task handle)) r = read_made task handle r
  ready_made (Use (Write task handle offset)) r = write_by task handle offset r _ refl
  ready_made (Use (Batch task kind extension)) r = batch_by r.fit task kind extension _ refl
  ready_made (Use (Release task handle)) r = release_by r.fit task handle _ refl
  ready_made Report r = report_made r.fit
  ready_made (Remaining task handle) r = life_made r.fit task handle

  -- and every one at all
  made : (request : Request) → Made request new p small large
  made request =
      let tells : TellsWhole p.head.limits (length small) (length large) (are_whole p.head.limits small large) = λ s l a b. rw (a, b) in
      by_test (is_well_formed p)
      (λ w.
      by_test (is_stored request && not (are_whole p.head.limits small large))
      (λ refused. obeyed (wrong_obeys (sym w) refl refl tells refused) o)
      (λ passed. ready_made request (ready (sym w) refl refl tells passed)))
      (λ u. obeyed (unfit_obeys request new p small large u) o)

pub every_list_runs : EveryListRuns
every_list_runs p o small large [] = record { replies = []; pool = p; small_after = small; large_after = large; runs = done; typed = o }
every_list_runs p o small large (s ∷ ss) =
    let m = made s.bytes o small large s.request in
    let r = every_list_runs m.pool m.typed m.new_small m.new_large ss in
    record { replies = m.reply ∷ r.replies; pool = r.pool; small_after = r.small_after; large_after = r.large_after; runs = call m.obeys r.runs; typed = r.typed }
