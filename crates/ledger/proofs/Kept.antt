-- Every ledger from fresh on keeps what `Kept` says.
use Prim.Native.Nat.{ℕ, ◌+◌, ◌≤◌, ◌<◌, zero-le}
use native.Mathlib.Omega.{arith}
use mathlib.Core.Bool.{true, or-true}
use mathlib.Core.List.{List, [], ◌∷◌}
use mathlib.Core.Option.{Option, none, some}
use mathlib.Core.Path.{◌≡◌, refl}
use borrow.Author.Tests.{not-false, leb-false, ltb-false, eqb-true, eq-eqb, ne_eqb}
use lib.ListN.{get_or, replicate}
use Rattle.lists.specs.Sums.{sum_below}
use Rattle.lists.specs.Tests.{count}
use Rattle.lists.proofs.Cases.{by_test}
use Rattle.lists.proofs.All.{all_imp, all_filter, all_get_or, all_replicate, found, none→All}
use Rattle.lists.proofs.Counts.{any_append, any_map, count_none}
use Rattle.ledger.specs.Limits.{task_count}
use Rattle.ledger.specs.Tasks.{task_at, is_absent, fresh_clocks, all_ticked}
use Rattle.ledger.specs.Expirations.{Expiration, is_of, is_pin_of}
use Rattle.ledger.specs.Objects.{Object, Memory, no_share, fresh_memory, stands, written, makers_after, handles_of}
use Rattle.ledger.specs.Shares.{made, unmet}
use Rattle.ledger.specs.Rules.{memory_after, expirations_after, tests_of}
use Rattle.ledger.specs.Ledger.{Ledger, facts_in, Sent, fresh, settled, after_by, verdict_on, next, after_request, after_all}
use Rattle.ledger.specs.Kept.{TaskKept, ClocksKept, is_owned, ObjectsKept, SharesKept, ExpirationKept, ExpirationsKept, PinsKept, PinnedOnceKept, Kept, EveryLedgerKeeps}
use Rattle.ledger.specs.declared.Call.{Call}
use Rattle.ledger.specs.declared.Call.TheVariants.{Join, Schedule, Make, Refresh, Read, Write, Batch, Release}
use Rattle.ledger.specs.declared.Event.{Event}
use Rattle.ledger.specs.declared.Event.TheVariants.{Leave, Block, Resume, Tick, View}
use Rattle.ledger.specs.declared.Refusal.{Refusal}
use Rattle.ledger.specs.declared.Request.{Request}
use Rattle.ledger.specs.declared.Request.TheVariants.{Use, Report, Remaining}
use Rattle.ledger.proofs.Passed.{Passed, passed}
use Rattle.ledger.proofs.KeptPins.{SetsNoPin, pins_carried, once_carried}
use Rattle.ledger.proofs.KeptTasks.{absent_kept, clocks_after_lem, clocks_joined}
use Rattle.ledger.proofs.KeptShares.{shares_filter, shares_map, shares_joined, shares_after_lem, shares_made}
use Rattle.ledger.proofs.KeptObjects.{objects_settled, objects_made, objects_after, objects_written}
use Rattle.ledger.proofs.KeptExpirations.{is_listed, expirations_joined, expirations_after_lem, reowned, expirations_settled, expirations_released, expirations_set, expirations_set_each}
use Rattle.ledger.specs.declared.Limits.{Limits}
use Rattle.ledger.specs.declared.Share.{Share}

-- nobody has a share at first
nobody : (task : ℕ) → get_or (replicate task_count no_share) task no_share ≡ no_share
nobody task = all_get_or (λ (s : Share). s ≡ no_share) no_share refl (replicate task_count no_share) (all_replicate (λ (s : Share). s ≡ no_share) task_count refl) task

pub kept_fresh : (limits : Limits) → Kept (fresh limits)
unfolding fresh fresh_memory fresh_clocks all_ticked sum_below unmet made
kept_fresh limits =
    record {
      clocks = record { sixteen = refl; tasks = all_replicate TaskKept task_count absent_kept; unticked = refl };
      objects = record { each = tt; ascending = tt; numbers = zero-le };
      shares =
          record {
            sixteen = refl;
            inactive = λ task e. nobody task;
            ordered = λ store task. rw (nobody task) (by_test store (λ e. rw e zero-le) (λ e. rw e zero-le));
            known = tt;
            room = λ store. by_test store (λ e. rw e zero-le) (λ e. rw e zero-le);
            below = λ store task l. zero-le;
          };
      expirations = record { each = tt; room = zero-le };
      pins = λ handle. refl;
      once = λ handle. zero-le;
      standing = tt;
    }

-- what is kept but for objects without an expiration is kept whole once these are gone
kept_settled : {m : Memory} {xs : List Expiration} → ClocksKept m.clocks → ObjectsKept m.given m.objects → SharesKept m.limits m.clocks m.shares m.objects
    → ExpirationsKept m.limits m.clocks m.objects xs → PinsKept m.pinned xs × PinnedOnceKept xs → Kept (settled m xs)
kept_settled {m} {xs} c o s x (p, once) =
    record {
      clocks = c;
      objects = objects_settled xs o;
      shares = shares_filter (λ (o : Object). stands xs o.handle) s;
      expirations = expirations_settled x;
      pins = p;
      once = once;
      standing = all_filter (λ (o : Object). stands xs o.handle) (λ o e k. e) m.objects o.each;
    }

-- an object that stands is one of the ledger's
pub owned_by : (m : Memory) (xs : List Expiration) → Kept (record { memory = m; expirations = xs }) → (handle : ℕ) → stands xs handle ≡ true
    → is_listed handle m.objects ≡ true
owned_by m xs k handle s = found (is_of handle) (λ x e h. rw (eqb-true x.handle handle e) at h.owned) xs s k.expirations.each

-- no expiration is of the next handle
next_unpinned : (m : Memory) (xs : List Expiration) → Kept (record { memory = m; expirations = xs }) → count (is_pin_of (m.given + 1)) xs ≡ 0
next_unpinned m xs k =
    count_none _ xs
    (all_imp (λ x h. rw (ne_eqb x.handle (m.given + 1) (λ q. omega (arith, q, owner x h)))) xs k.expirations.each)
  where
    owner : (x : Expiration) → ExpirationKept m.limits m.clocks m.objects x → x.handle ≤ m.given
    owner x h = found (λ (o : Object). is_of o.handle x) (λ o e n. rw (eqb-true x.handle o.handle e) n.numbered.1) m.objects h.owned k.objects.each

-- what is pinned after a call, and that it is once
pins_after : (m : Memory) (xs : List Expiration) (call : Call) (new : List ℕ) → SetsNoPin call → Kept (record { memory = m; expirations = xs })
    → PinsKept (memory_after call new m).pinned (expirations_after call new m xs) × PinnedOnceKept (expirations_after call new m xs)
pins_after m xs call new s k = (pins_carried m xs call new s k.pins, once_carried m xs call new s (next_unpinned m xs k) k.once)

-- an event is of one of the sixteen tasks
known : (m : Memory) (xs : List Expiration) (task : ℕ) (event : Event) (new : List ℕ) → Passed m xs (Schedule event task) new → task < task_count
unfolding tests_of
known m xs task Leave new c = leb-false task_count task c.0
known m xs task Block new c = leb-false task_count task c.0
known m xs task Resume new c = leb-false task_count task c.0
known m xs task View new c = leb-false task_count task c.0
known m xs task Tick new c = leb-false task_count task c.0

-- and one that joins as a viewer was absent
views_absent : (m : Memory) (xs : List Expiration) (task : ℕ) (event : Event) (new : List ℕ) → Passed m xs (Schedule event task) new
    → event ≡ View → is_absent (task_at m.clocks task).state ≡ true
unfolding tests_of
views_absent m xs task Leave new c e = cc
views_absent m xs task Block new c e = cc
views_absent m xs task Resume new c e = cc
views_absent m xs task View new (exists, (absent, end)) e = not-false _ absent
views_absent m xs task Tick new c e = cc

-- and leaves the objects their handles
owned_after : (event : Event) (task : ℕ) (os : List Object) (x : Expiration) → is_owned os x ≡ true → is_owned (makers_after event task os) x ≡ true
unfolding makers_after
owned_after Leave task os x o = rw any_map o
owned_after Block task os x o = o
owned_after Resume task os x o = o
owned_after View task os x o = o
owned_after Tick task os x o = o

-- a call that is carried out
kept_carried : (m : Memory) (xs : List Expiration) (call : Call) (new : List ℕ) → Passed m xs call new
    → Kept (record { memory = m; expirations = xs }) → Kept (settled (memory_after call new m) (expirations_after call new m xs))
unfolding tests_of memory_after expirations_after written
kept_carried m xs (Join task share) new c k =
    kept_settled (clocks_joined m xs new task share c k.clocks) k.objects (shares_joined m task share xs new c k.clocks.sixteen k.shares)
    (expirations_joined m xs new task share c k.expirations)
    (pins_after m xs (Join task share) new tt k)
kept_carried m xs (Schedule event task) new c k =
    kept_settled (clocks_after_lem m xs new task event c k.clocks) (objects_after event task k.objects)
    (shares_after_lem m.clocks task event (known m xs task event new c) (views_absent m xs task event new c) k.shares)
    (reowned (λ x e o. owned_after event task m.objects x o) (expirations_after_lem m xs new task event c k.expirations))
    (pins_after m xs (Schedule event task) new tt k)
kept_carried m xs (Make task kind extension size prefix) new c k =
    let (exists, (present, (active, (acts, (short, (range, (prefixed, (spent, (limit, (block, (room, end))))))))))) = c in
    kept_settled k.clocks (objects_made task size prefix range prefixed spent k.objects)
    (shares_made m.limits m.clocks m.shares m.objects task (m.given + 1) size prefix (leb-false task_count task exists) limit block k.shares)
    (expirations_set task kind extension (m.given + 1) present short (leb-false _ _ room)
    (rw (any_append, eq-eqb (m.given + 1) (m.given + 1) refl, or-true))
    (reowned (λ x e o. rw (any_append, o)) k.expirations))
    (pins_after m xs (Make task kind extension size prefix) new tt k)
kept_carried m xs (Refresh task kind extension handle) new c k =
    let (exists, (present, (active, (acts, (lasts, (short, (given, (gone, (room, end))))))))) = c in
    kept_settled k.clocks k.objects k.shares
    (expirations_set task kind extension handle present short (leb-false _ _ room)
    (owned_by m xs k handle (not-false _ gone))
    k.expirations)
    (pins_after m xs (Refresh task kind extension handle) new lasts k)
kept_carried m xs (Read task handle) new c k = kept_settled k.clocks k.objects k.shares k.expirations (k.pins, k.once)
kept_carried m xs (Write task handle offset) new c k =
    let (exists, (present, (active, (acts, (given, (gone, (intact, (outside, end)))))))) = c in
    kept_settled k.clocks (objects_written handle offset new outside k.objects)
    (shares_map (written handle offset new) (λ o. refl) (λ o. refl) k.shares)
    (reowned (λ x e o. rw any_map o) k.expirations) (k.pins, k.once)
kept_carried m xs (Batch task kind extension) new c k =
    let (exists, (present, (active, (acts, (range, (lasts, (short, (given, (gone, (room, end)))))))))) = c in
    kept_settled k.clocks k.objects k.shares
    (expirations_set_each task kind extension present short (handles_of new) xs (ltb-false _ _ room)
    (all_imp (λ h e. owned_by m xs k h (not-false _ e)) (handles_of new) (none→All _ (handles_of new) gone)) k.expirations)
    (pins_after m xs (Batch task kind extension) new lasts k)
kept_carried m xs (Release task handle) new c k =
    kept_settled k.clocks k.objects k.shares (expirations_released handle k.expirations) (pins_after m xs (Release task handle) new tt k)

pub kept_request : (L : Ledger) → Kept L → (request : Request) (new : List ℕ) → Kept (after_request L request new)
unfolding next
kept_request L k Report new = k
kept_request L k (Remaining task handle) new = k
kept_request L k (Use call) new = by (verdict_on L call new) refl
  where
    by : (v : Option Refusal) → verdict_on L call new ≡ v
        → Kept (after_by v (settled (memory_after call new L.memory) (expirations_after call new L.memory L.expirations)) L)
    by none e = kept_carried L.memory L.expirations call new (passed (facts_in L) (tests_of call new) e) k
    by (some r) e = k

pub kept_after : (ss : List Sent) (L : Ledger) → Kept L → Kept (after_all L ss)
unfolding after_all
kept_after [] L k = k
kept_after (s ∷ ss) L k = kept_after ss (after_request L s.request s.bytes) (kept_request L k s.request s.bytes)

pub kept_all : EveryLedgerKeeps
kept_all limits ss = kept_after ss (fresh limits) (kept_fresh limits)
