-- Order 6 of the pool: with one byte of a block changed the record reads as the ledger with that change, which the calls then follow; of
-- that ledger the claim is proved.
use Prim.Native.Nat.{ℕ, ◌+◌, ◌≤◌, ◌<◌}
use native.Mathlib.Omega.{arith}
use mathlib.Core.Bool.{true, cond}
use mathlib.Core.List.{List, [], ◌∷◌}
use mathlib.Core.Logic.{◌≢◌}
use mathlib.Core.Option.{none, some}
use mathlib.Core.Path.{◌≡◌, refl, sym, ap, subst, ◌∙◌}
use borrow.Author.Tests.{eq-eqb, eqb-true, eqb-false}
use lib.Dec.{eqb}
use lib.ListN.{get_or}
use Rattle.lists.specs.Tests.{All}
use Rattle.lists.proofs.All.{all_imp, all_left}
use Rattle.lists.proofs.Cases.{by_test}
use Rattle.ledger.specs.Objects.{Object, Reply, object_at, stands, fresh_memory, makers_after, shares_after}
use Rattle.ledger.specs.Ledger.{Ledger, Sent, fresh, next, reply_to_request, replies, after_all}
use Rattle.ledger.specs.Refusals.{Test}
use Rattle.ledger.specs.Noticed.{Change, changed, earlier_tests, noticed_in}
use Rattle.ledger.specs.Numbers.{is_refusal}
use Rattle.ledger.specs.declared.Limits.{Limits}
use Rattle.ledger.specs.Limits.{standard, last_handle}
use Rattle.lists.specs.Sums.{sum_below}
use Rattle.ledger.specs.Shares.{made, unmet, is_full, is_short, is_at_limit}
use Rattle.ledger.specs.Tasks.{fresh_clocks, moved, tasks_after, advances, clocks_after, entered}
use Rattle.ledger.specs.Expirations.{due_after, lasting}
use Rattle.ledger.specs.Refusals.{verdict}
use Rattle.ledger.specs.Rules.{memory_after, expirations_after, tests_of}
use Rattle.ledger.specs.Rows.{join, make}
use Rattle.ledger.specs.declared.Kind.TheVariants.{Local}
use Rattle.ledger.proofs.Figures.{standard_allowed}
use Rattle.ledger.proofs.Demand3.{intact_at}
use Rattle.ledger.proofs.Kept.{kept_all}
use Rattle.ledger.proofs.Noticed.{notices}
use Rattle.record.specs.Codes.{free_block}
use Rattle.record.specs.Reading.{fresh_pool, is_whole_small, is_whole_large, block_bytes, is_small_block, size_of}
use Rattle.record.specs.WellFormed.{handle_of}
use Rattle.record.specs.Tables.{BlockEntry, block_entry, tables_by, tables_of}
use Rattle.record.specs.Pools.{is_well_formed, Reads}
use Rattle.record.specs.declared.Pool.{Pool}
use Rattle.record.proofs.Columns.{block_at}
use Rattle.record.proofs.Distinct.{handle_at}
use Rattle.record.proofs.Facts.{Fit, fit_parts}
use Rattle.stores.specs.Places.{InBlock, small_after, large_after}
use Rattle.stores.proofs.Places.{part_size, whole_block}
use Rattle.steps.specs.Objects.{place_of}
use Rattle.steps.proofs.Finding.{object_of, found, every_object_stands, handles_given, used_listed, used_object}
use Rattle.steps.proofs.ReadChanged.{shown_whole, in_place, changed_sizes, disturbed_reads}
use Rattle.stores.specs.Lengths.{are_whole}
use Rattle.calls.specs.Contract.{Obeys}
use Rattle.calls.proofs.Meets.{halves, table_halves}
use Rattle.demands.specs.Demands.{OfType}
use Rattle.demands.specs.Outlives.{FreshRun}
use Rattle.demands.specs.Noticed.{StoreChange, ChangedRun, PoolNotices, ChangesApply, PoolNever}
use Rattle.demands.proofs.Demands.{runs_whole, runs_follow, demand2}
use Rattle.demands.proofs.Runs.{typed_of, every_list_runs}
use Rattle.demands.proofs.Outlives.{every_list_from_fresh, fresh_follows}

-- the entry of a block
entry_of : {p : Pool} → OfType p → (block : ℕ) → get_or (tables_of p).blocks block free_block ≡ block_entry (get_or p.blocks.handles block 0) (get_or p.blocks.extents block 0)
unfolding tables_of tables_by
entry_of {p} typed block = block_at p.blocks.handles p.blocks.extents typed.sized.blocks.of_handles typed.sized.blocks.of_extents block

used_here : {p : Pool} → OfType p → (block : ℕ) → get_or p.blocks.handles block 0 ≢ 0 → handle_at (tables_of p).blocks block ≢ 0
used_here typed block used z = used (sym (ap handle_of (entry_of typed block)) ∙ z)

-- the ledger's object is the one in its block, with all of its bytes
object_here : {p : Pool} {small large : List ℕ} {L : Ledger} → OfType p → is_well_formed p ≡ true → are_whole p.head.limits small large ≡ true → Reads p small large L
    → (block : ℕ) → get_or p.blocks.handles block 0 ≢ 0
    → object_at (handle_at (tables_of p).blocks block) L.memory.objects ≡ object_of small large (tables_of p).blocks block
object_here {p} {small} {large} typed fits whole reads block used =
    let (small_whole_lem, large_whole_lem) = table_halves p small large whole in
    sym (shown_whole (tables_of p).limits small large small_whole_lem large_whole_lem _) ∙ used_object (fit_parts (tables_of p) fits) reads block (used_here typed block used)
    ∙ shown_whole (tables_of p).limits small large small_whole_lem large_whole_lem _

-- A change, and the calls after it
module _ {handle : ℕ} {L : Ledger} {ss : List Sent} {ys : List Reply} {p' : Pool} {small' large' : List ℕ} (k : ChangedRun handle L ss ys p' small' large') where
  abbrev p : Pool
  p = k.pool

  abbrev c : StoreChange k.pool k.small k.large
  c = k.change

  abbrev objects : List Object
  objects = L.memory.objects

  abbrev small_then : List ℕ
  small_then = small_after c.block c.at (c.value ∷ []) k.small

  abbrev large_then : List ℕ
  large_then = large_after c.block c.at (c.value ∷ []) k.large

  fit : Fit (tables_of p)
  fit = fit_parts (tables_of p) c.fit

  whole : are_whole p.head.limits k.small k.large ≡ true
  whole = rw (eq-eqb _ _ c.small_whole, eq-eqb _ _ c.large_whole)

  small_whole_lem : is_whole_small (tables_of p).limits k.small ≡ true
  small_whole_lem = (table_halves p k.small k.large whole).0

  large_whole_lem : is_whole_large (tables_of p).limits k.large ≡ true
  large_whole_lem = (table_halves p k.small k.large whole).1

  in_use : handle_at (tables_of p).blocks c.block ≢ 0
  in_use = used_here c.typed c.block c.used

  named : handle_at (tables_of p).blocks c.block ≡ handle
  named = ap handle_of (entry_of c.typed c.block) ∙ k.named

  here : object_at handle objects ≡ object_of k.small k.large (tables_of p).blocks c.block
  here = ap (λ (h : ℕ). object_at h objects) (sym named) ∙ object_here c.typed c.fit whole k.reads c.block c.used

  within : c.at + 1 ≤ size_of c.block
  within = omega (arith, c.inside)

  byte_here : InBlock k.small k.large c.block (c.at + 1)
  byte_here = in_place (tables_of p) k.small k.large fit small_whole_lem large_whole_lem c.block c.at (c.value ∷ []) in_use within

  -- so that the change is one of the ledger
  change : Change
  change =
      record {
        before = L;
        handle = handle;
        at = c.at;
        value = c.value;
        numbered = all_imp (λ o h. h.1) objects (handles_given fit k.reads);
        standing =
            subst (λ (os : List Object). All (λ (o : Object). stands L.expirations o.handle ≡ true) os) (every_object_stands fit k.reads)
            (all_left (λ (o : Object). stands L.expirations o.handle) objects);
        listed = rw named at (used_listed fit k.reads c.block in_use);
        intact = rw here (eq-eqb _ _ (c.agrees ∙ sym (ap (λ (b : BlockEntry). b.sum) (entry_of c.typed c.block))));
        inside = rw (here, part_size (whole_block byte_here)) c.inside;
        other = rw here c.other;
      }

  -- the stores keep their lengths, and with them the record reads as the ledger with that change
  still_whole : are_whole p.head.limits small_then large_then ≡ true
  unfolding tables_of tables_by
  still_whole =
      let sizes = changed_sizes (tables_of p) k.small k.large fit small_whole_lem large_whole_lem c.block c.at (c.value ∷ []) in_use within in
      rw (sizes.0, sizes.1, small_whole_lem, large_whole_lem)

  reads_changed : Reads p small_then large_then (changed change)
  unfolding change
  reads_changed = rw named at (disturbed_reads fit (typed_of c.typed) k.reads small_whole_lem large_whole_lem c.block c.at c.value in_use c.inside)

  -- which the calls follow,
  follows : (ys ≡ replies (changed change) ss) × Reads p' small' large' (after_all (changed change) ss) × (is_well_formed p' ≡ true)
  follows = runs_follow k.runs c.fit still_whole (changed change) reads_changed

  noticed_here : ys ≡ noticed_in handle L ss
  unfolding change
  noticed_here = follows.0 ∙ notices.every change ss

  -- and one more call
  answered_here : (s : Sent) (y : Reply) (p'' : Pool) (small'' large'' : List ℕ) → Obeys s.request s.bytes p' small' large' y p'' small'' large''
      → y ≡ reply_to_request (after_all (changed change) ss) s.request s.bytes
  answered_here s y p'' small'' large'' o =
      let (_, reads, fits) = follows in
      o.answers (record { fit = fits; whole = λ e. runs_whole k.runs still_whole }) (after_all (changed change) ss) reads

  refused_here : (s : Sent) (tests : List Test) → earlier_tests handle s.request ≡ some tests → is_refusal (reply_to_request (after_all (changed change) ss) s.request s.bytes).answer ≡ true
  unfolding change
  refused_here s tests u = notices.refused change ss s tests u

  others_here : (s : Sent) → earlier_tests handle s.request ≡ none
      → reply_to_request (after_all (changed change) ss) s.request s.bytes ≡ reply_to_request (after_all L ss) s.request s.bytes
  unfolding change
  others_here s u = notices.others change ss s u

pub pool_notices : PoolNotices
pool_notices =
    record {
      every = λ handle L ss ys p' small' large' k. noticed_here k;
      refused = λ handle L ss ys p' small' large' k s tests u y p'' small'' large'' o. rw (answered_here k s y p'' small'' large'' o) (refused_here k s tests u);
      others = λ handle L ss ys p' small' large' k s u y p'' small'' large'' o. answered_here k s y p'' small'' large'' o ∙ others_here k s u;
    }

-- After any calls from fresh on every object is intact, and so each block in use agrees with its sum.
change_of : (limits : Limits) (ss : List Sent) (p : Pool) (small large : List ℕ) → FreshRun limits ss p small large → OfType p
    → (block at value : ℕ) → get_or p.blocks.handles block 0 ≢ 0 → at < size_of block → value ≢ get_or (block_bytes small large block (size_of block)) at 0
    → StoreChange p small large
unfolding fresh_pool
change_of limits ss p small large r typed block at value its inside other =
    let (_, reads, fits) = fresh_follows r in
    let L = after_all (fresh limits) ss in
    let whole = runs_whole r.runs (rw (eq-eqb _ _ r.small_whole, eq-eqb _ _ r.large_whole)) in
    let (small_whole_lem, large_whole_lem) = halves p.head.limits small large whole in
    let intact = intact_at (handle_at (tables_of p).blocks block) L.memory.objects (all_imp (λ o k. k.intact) L.memory.objects (kept_all limits ss).objects.each) in
    let agrees = eqb-true _ _ (rw (object_here typed fits whole reads block its) at intact) in
    record {
      typed = typed;
      fit = fits;
      small_whole = eqb-true _ _ small_whole_lem;
      large_whole = eqb-true _ _ large_whole_lem;
      block = block;
      used = its;
      agrees = agrees ∙ ap (λ (b : BlockEntry). b.sum) (entry_of typed block);
      at = at;
      inside = inside;
      value = value;
      other = other;
    }

some_bytes : (block : ℕ) → 0 < size_of block
unfolding size_of
some_bytes block = by_test (is_small_block block) (λ e. rw e (omega arith)) (λ e. rw e (omega arith))

-- another value for a byte: 0, or where it is 0, 1
abbrev other_than : ℕ → ℕ
other_than n = cond (eqb n 0) 1 0

differs : (n : ℕ) → other_than n ≢ n
differs n = by_test (eqb n 0) (λ e. rw e (λ q. omega (arith, eqb-true n 0 e, q))) (λ e. rw e (λ q. eqb-false n 0 e (sym q)))

-- the object that was made
abbrev one_made : List Sent
one_made = join 0 ∷ make 0 Local 0 4 ∷ []

one_stands : stands (after_all (fresh standard) one_made).expirations 1 ≡ true
unfolding fresh next after_all tests_of verdict fresh_memory memory_after expirations_after due_after lasting fresh_clocks moved advances tasks_after clocks_after
    entered makers_after shares_after sum_below made unmet is_full is_short is_at_limit standard last_handle
one_stands = refl

changed_run : (ss : List Sent) → (ys : List Reply) × (p' : Pool) × (small' : List ℕ) × (large' : List ℕ) × ChangedRun 1 (after_all (fresh standard) one_made) ss ys p' small' large'
unfolding change_of
changed_run ss =
    let r = every_list_from_fresh standard standard_allowed one_made in
    let p = r.pool in
    let (_, reads, fits) = fresh_follows r.run in
    let block = place_of 1 (tables_of p).blocks in
    let named : get_or p.blocks.handles block 0 ≡ 1 =
    sym (ap handle_of (entry_of r.typed block)) ∙ (found (fit_parts (tables_of p) fits) reads 1 refl one_stands).its in
    let byte = get_or (block_bytes r.small r.large block (size_of block)) 0 0 in
    let c = change_of standard one_made p r.small r.large r.run r.typed block 0 (other_than byte) (λ z. omega (arith, z, named)) (some_bytes block) (differs byte) in
    let after = every_list_runs p r.typed (small_after block 0 (other_than byte ∷ []) r.small) (large_after block 0 (other_than byte ∷ []) r.large) ss in (
      after.replies,
      after.pool,
      after.small_after,
      after.large_after,
      record { pool = p; small = r.small; large = r.large; change = c; named = named; reads = reads; runs = after.runs },
    )

pub changes_apply : ChangesApply
unfolding change_of
changes_apply =
    record {
      each = λ limits ss p small large r typed block at value its inside other. (change_of limits ss p small large r typed block at value its inside other, refl, refl, refl);
      one = changed_run;
    }

pub pool_never : PoolNever
pool_never limits may small large a b ss ys p' small' large' runs = rw (demand2 limits may small large a b ss ys p' small' large' runs).0 (notices.never limits ss)
