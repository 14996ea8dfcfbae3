-- The veil of what a call leaves is what the veiled call leaves of the veil: one simulation, and so two lists with one veil are seen alike.
use Prim.Native.Nat.{ℕ, zero, suc, ◌+◌, ◌-◌, ◌≤◌}
use native.Mathlib.Omega.{arith}
use mathlib.Core.Bool.{true, false}
use mathlib.Core.List.{List, [], ◌∷◌, ◌++◌, map, map-map, map-append}
use mathlib.Core.Option.{Option, none, some}
use mathlib.Core.Path.{◌≡◌, refl, sym, ap, ap₂, ◌∙◌}
use borrow.Author.Tests.{eq-eqb, ltb-false}
use lib.Dec.{eqb}
use lib.ListN.{length, take, drop, replicate, length-take, length-append}
use Rattle.lists.specs.Blocks.{overwritten}
use Rattle.lists.specs.Sums.{total}
use Rattle.lists.specs.Tests.{All}
use Rattle.lists.proofs.All.{all_imp, all_both, map_same}
use Rattle.lists.proofs.Cases.{by_test}
use Rattle.lists.proofs.Counts.{count_map}
use Rattle.lists.proofs.Filters.{filter_map}
use Rattle.lists.proofs.Sums.{total_zeros}
use Rattle.ledger.specs.Limits.{is_small, block_size}
use Rattle.ledger.specs.Tasks.{task_at, is_viewing}
use Rattle.ledger.specs.Expirations.{Expiration}
use Rattle.ledger.specs.Objects.{Object, Memory, Reply, zeroed, is_intact, object_at, written, orphaned, makers_after, usage}
use Rattle.ledger.specs.Refusals.{facts_of, verdict}
use Rattle.ledger.specs.Rules.{reply_to, memory_after, expirations_after, tests_of}
use Rattle.ledger.specs.Ledger.{Ledger, facts_in, Sent, fresh, settled, reply_by, after_by, verdict_on, reply, next, reply_to_request, after_request, after_sent, replies, after_all}
use Rattle.ledger.specs.Kept.{ObjectsKept, Kept}
use Rattle.ledger.specs.Veil.{veiled, veiled_object, veiled_memory, veiled_in, veiled_bytes, veiled_by, veiled_sent, veils, caller_of, is_viewer, is_viewers, to_viewers, seen_bytes, seen, seen_in, Discreet}
use Rattle.ledger.specs.declared.Event.{Event}
use Rattle.ledger.specs.declared.Event.TheVariants.{Leave, Block, Resume, Tick, View}
use Rattle.ledger.specs.declared.Call.{Call}
use Rattle.ledger.specs.declared.Call.TheVariants.{Join, Schedule, Make, Refresh, Read, Write, Batch, Release}
use Rattle.ledger.specs.declared.Refusal.{Refusal}
use Rattle.ledger.specs.declared.Request.{Request}
use Rattle.ledger.specs.declared.Request.TheVariants.{Use, Report, Remaining}
use Rattle.ledger.proofs.Demand3.{intact_at}
use Rattle.ledger.proofs.Kept.{kept_fresh, kept_request}
use Rattle.ledger.proofs.KeptObjects.{in_block, only}
use Rattle.ledger.proofs.Passed.{Passed, passed}
use Rattle.ledger.proofs.Shares.{full_map, short_map, limit_map}

-- The veil over a list of bytes.
length_veiled : (p : ℕ) (xs : List ℕ) → length (veiled p xs) ≡ length xs
unfolding veiled
length_veiled p [] = refl
length_veiled zero (x ∷ xs) = ap suc (length_veiled zero xs)
length_veiled (suc p) (x ∷ xs) = ap suc (length_veiled p xs)

head_shown : (p : ℕ) (xs : List ℕ) → take p (veiled p xs) ≡ take p xs
unfolding veiled
head_shown p [] = refl
head_shown zero (x ∷ xs) = refl
head_shown (suc p) (x ∷ xs) = ap (λ (ys : List ℕ). x ∷ ys) (head_shown p xs)

veiled_zeros : (p n : ℕ) → veiled p (replicate n 0) ≡ replicate n 0
unfolding veiled
veiled_zeros p zero = refl
veiled_zeros zero (suc n) = ap (λ (ys : List ℕ). 0 ∷ ys) (veiled_zeros zero n)
veiled_zeros (suc p) (suc n) = ap (λ (ys : List ℕ). 0 ∷ ys) (veiled_zeros p n)

veiled_take : (p n : ℕ) (xs : List ℕ) → veiled p (take n xs) ≡ take n (veiled p xs)
unfolding veiled
veiled_take p zero xs = refl
veiled_take p (suc n) [] = refl
veiled_take zero (suc n) (x ∷ xs) = ap (λ (ys : List ℕ). 0 ∷ ys) (veiled_take zero n xs)
veiled_take (suc p) (suc n) (x ∷ xs) = ap (λ (ys : List ℕ). x ∷ ys) (veiled_take p n xs)

veiled_drop : (p n : ℕ) (xs : List ℕ) → veiled (p - n) (drop n xs) ≡ drop n (veiled p xs)
unfolding veiled
veiled_drop p zero xs = ap (λ (q : ℕ). veiled q xs) (omega arith)
veiled_drop p (suc n) [] = refl
veiled_drop zero (suc n) (x ∷ xs) = ap (λ (q : ℕ). veiled q (drop n xs)) (omega arith) ∙ veiled_drop zero n xs
veiled_drop (suc p) (suc n) (x ∷ xs) = ap (λ (q : ℕ). veiled q (drop n xs)) (omega arith) ∙ veiled_drop p n xs

veiled_twice : (p : ℕ) (xs : List ℕ) → veiled p (veiled p xs) ≡ veiled p xs
unfolding veiled
veiled_twice p [] = refl
veiled_twice zero (x ∷ xs) = ap (λ (ys : List ℕ). 0 ∷ ys) (veiled_twice zero xs)
veiled_twice (suc p) (x ∷ xs) = ap (λ (ys : List ℕ). x ∷ ys) (veiled_twice p xs)

veiled_append : (p : ℕ) (xs ys : List ℕ) → veiled p (xs ++ ys) ≡ veiled p xs ++ veiled (p - length xs) ys
unfolding veiled
veiled_append p [] ys = ap (λ (q : ℕ). veiled q ys) (omega arith)
veiled_append zero (x ∷ xs) ys =
    ap (λ (zs : List ℕ). 0 ∷ zs) (veiled_append zero xs ys ∙ ap (λ (q : ℕ). veiled zero xs ++ veiled q ys) (omega arith))
veiled_append (suc p) (x ∷ xs) ys =
    ap (λ (zs : List ℕ). x ∷ zs) (veiled_append p xs ys ∙ ap (λ (q : ℕ). veiled p xs ++ veiled q ys) (omega arith))

veiled_overwritten : (p offset : ℕ) (new old : List ℕ) → offset ≤ length old
    → overwritten offset (veiled (p - offset) new) (veiled p old) ≡ veiled p (overwritten offset new old)
unfolding overwritten
veiled_overwritten p offset new old h =
    let front : length (take offset old) ≡ offset = simp length-take (omega arith) in
    let both : length (take offset old ++ new) ≡ offset + length new = rw (length-append, front) in
    rw (length_veiled (p - offset) new, ← veiled_take p offset old, ← veiled_drop p (offset + length new) old)
    (sym (
    veiled_append p (take offset old ++ new) (drop (offset + length new) old)
    ∙ ap (λ (q : ℕ). veiled p (take offset old ++ new) ++ veiled (p - q) (drop (offset + length new) old)) both
    ∙ ap (λ (zs : List ℕ). zs ++ veiled (p - (offset + length new)) (drop (offset + length new) old))
    (veiled_append p (take offset old) new ∙ ap (λ (q : ℕ). veiled p (take offset old) ++ veiled (p - q) new) front)))

-- The veil over an object. A new one has nothing to hide.
veiled_zeroed : (maker handle size prefix : ℕ) → veiled_object (zeroed maker handle size prefix) ≡ zeroed maker handle size prefix
unfolding veiled_object
veiled_zeroed maker handle size prefix = rw (veiled_zeros prefix (block_size size), total_zeros (block_size size))

at_veiled : (handle : ℕ) (os : List Object) → object_at handle (map veiled_object os) ≡ veiled_object (object_at handle os)
unfolding object_at veiled_object
at_veiled handle [] = sym (veiled_zeroed _ 0 0 0)
at_veiled handle (o ∷ os) = by_test (eqb o.handle handle) (λ e. rw e) (λ e. rw e (at_veiled handle os))

-- and its bytes add up
veiled_intact : (o : Object) → is_intact (veiled_object o) ≡ true
unfolding veiled_object
veiled_intact o = let sum = total (veiled o.prefix o.bytes) in eq-eqb sum sum refl

-- a write into one, within its block
veiled_written : (handle offset p : ℕ) (new : List ℕ) (o : Object) → (eqb o.handle handle ≡ true → (offset ≤ length o.bytes) × (o.prefix ≡ p))
    → written handle offset (veiled (p - offset) new) (veiled_object o) ≡ veiled_object (written handle offset new o)
unfolding written veiled_object
veiled_written handle offset p new o f =
    by_test (eqb o.handle handle)
    (λ e. let (inside, same) = f e in rw (e, ← same, veiled_overwritten o.prefix offset new o.bytes inside))
    (λ e. rw e)

-- a leave
makers_veiled : (event : Event) (task : ℕ) (os : List Object) → makers_after event task (map veiled_object os) ≡ map veiled_object (makers_after event task os)
unfolding makers_after veiled_object
makers_veiled Leave task os = map-map (orphaned task) veiled_object os ∙ sym (map-map veiled_object (orphaned task) os)
makers_veiled Block task os = refl
makers_veiled Resume task os = refl
makers_veiled Tick task os = refl
makers_veiled View task os = refl

-- The tests look at nothing under the veil, as long as all bytes add up.
module _ (m : Memory) (xs : List Expiration) where
  verdict_veiled : All (λ (o : Object). is_intact o ≡ true) m.objects → (call : Call) (new : List ℕ)
      → verdict (facts_of (veiled_memory m) xs) (tests_of call (veiled_bytes m call new)) ≡ verdict (facts_of m xs) (tests_of call new)
  unfolding tests_of verdict veiled_bytes veiled_object
  verdict_veiled i (Join task share) new =
      rw (
        short_map veiled_object (λ o. refl) (λ o. refl) true m.shares m.objects m.limits task share.small.reserve,
        short_map veiled_object (λ o. refl) (λ o. refl) false m.shares m.objects m.limits task share.large.reserve,
      )
  verdict_veiled i (Schedule Leave task) new = refl
  verdict_veiled i (Schedule Block task) new = refl
  verdict_veiled i (Schedule Resume task) new = refl
  verdict_veiled i (Schedule Tick task) new = refl
  verdict_veiled i (Schedule View task) new = refl
  verdict_veiled i (Make task kind extension size prefix) new =
      rw (
        full_map veiled_object (λ o. refl) (λ o. refl) (is_small size) m.shares m.objects m.limits task,
        limit_map veiled_object (λ o. refl) (λ o. refl) (is_small size) m.shares m.objects task,
      )
  verdict_veiled i (Refresh task kind extension handle) new = refl
  verdict_veiled i (Read task handle) new =
      rw (at_veiled handle m.objects, veiled_intact (object_at handle m.objects), intact_at handle m.objects i)
  verdict_veiled i (Write task handle offset) new =
      rw (
        at_veiled handle m.objects,
        veiled_intact (object_at handle m.objects),
        intact_at handle m.objects i,
        length_veiled ((object_at handle m.objects).prefix - offset) new,
      )
  verdict_veiled i (Batch task kind extension) new = refl
  verdict_veiled i (Release task handle) new = refl

  expirations_veiled : (call : Call) (new : List ℕ) → expirations_after call (veiled_bytes m call new) (veiled_memory m) xs ≡ expirations_after call new m xs
  unfolding expirations_after veiled_bytes
  expirations_veiled (Join task share) new = refl
  expirations_veiled (Schedule event task) new = refl
  expirations_veiled (Make task kind extension size prefix) new = refl
  expirations_veiled (Refresh task kind extension handle) new = refl
  expirations_veiled (Read task handle) new = refl
  expirations_veiled (Write task handle offset) new = refl
  expirations_veiled (Batch task kind extension) new = refl
  expirations_veiled (Release task handle) new = refl

-- What a call that passed its tests makes of the memory.
module _ (m : Memory) (xs : List Expiration) where
  -- a write that passed lies within the block of the one object that has its handle
  fits : (task handle offset : ℕ) (new : List ℕ) → Passed m xs (Write task handle offset) new → ObjectsKept m.given m.objects
      → All (λ (o : Object). eqb o.handle handle ≡ true → (offset ≤ length o.bytes) × (o.prefix ≡ (object_at handle m.objects).prefix)) m.objects
  unfolding tests_of
  fits task handle offset new (exists, (present, (active, (acts, (given, (gone, (intact, (outside, end)))))))) k =
      let os = m.objects in
      all_both
      (λ o h f e. let (inside, same) = f e in (omega (arith, inside, in_block o.size h.sized.1, h.filled), same)) os k.each
      (only (λ o. (offset + length new ≤ o.size) × (o.prefix ≡ (object_at handle os).prefix)) handle os k.ascending (ltb-false _ _ outside, refl))

  memory_veiled : (call : Call) (new : List ℕ) → Passed m xs call new → ObjectsKept m.given m.objects
      → memory_after call (veiled_bytes m call new) (veiled_memory m) ≡ veiled_memory (memory_after call new m)
  unfolding memory_after veiled_bytes
  memory_veiled (Join task share) new c k = refl
  memory_veiled (Schedule event task) new c k = rw (makers_veiled event task m.objects)
  memory_veiled (Make task kind extension size prefix) new c k = rw (map-append, veiled_zeroed task (m.given + 1) size prefix)
  memory_veiled (Refresh task kind extension handle) new c k = refl
  memory_veiled (Read task handle) new c k = refl
  memory_veiled (Write task handle offset) new c k =
      let p = (object_at handle m.objects).prefix in
      let under = veiled (p - offset) new in
      let each = map_same _ _ m.objects (all_imp (λ o f. veiled_written handle offset p new o f) m.objects (fits task handle offset new c k)) in
      rw (map-map (written handle offset under) veiled_object m.objects, map-map veiled_object (written handle offset new) m.objects, each)
  memory_veiled (Batch task kind extension) new c k = refl
  memory_veiled (Release task handle) new c k = refl

-- the same objects go
settled_veiled : (m : Memory) (xs : List Expiration) → settled (veiled_memory m) xs ≡ veiled_in (settled m xs)
unfolding veiled_object
settled_veiled m xs = rw filter_map

-- of a refusal there are no bytes to see
seen_none : (m : Memory) (call : Call) → seen_bytes m call [] ≡ []
unfolding seen_bytes veiled
seen_none m (Join task share) = refl
seen_none m (Schedule event task) = refl
seen_none m (Make task kind extension size prefix) = refl
seen_none m (Refresh task kind extension handle) = refl
seen_none m (Read task handle) = by_test (is_viewing (task_at m.clocks task).state) (λ e. rw e) (λ e. rw e)
seen_none m (Write task handle offset) = refl
seen_none m (Batch task kind extension) = refl
seen_none m (Release task handle) = refl

-- what is answered without the veil, and under it
abbrev plainly : Ledger → Sent → Reply
plainly L s = reply_to_request L s.request s.bytes

abbrev veiledly : Ledger → Sent → Reply
veiledly L s = reply_to_request (veiled_in L) s.request (veiled_by L.memory s.request s.bytes)

-- One call.
module _ (L : Ledger) (k : Kept L) where
  intact : All (λ (o : Object). is_intact o ≡ true) L.memory.objects
  intact = all_imp (λ o h. h.intact) L.memory.objects k.objects.each

  next_veiled : (call : Call) (new : List ℕ) → next (veiled_in L) call (veiled_bytes L.memory call new) ≡ veiled_in (next L call new)
  unfolding next
  next_veiled call new = rw (verdict_veiled L.memory L.expirations intact call new) (by (verdict_on L call new) refl)
    where
      by : (v : Option Refusal) → verdict_on L call new ≡ v
          → after_by v (settled (memory_after call (veiled_bytes L.memory call new) (veiled_memory L.memory))
          (expirations_after call (veiled_bytes L.memory call new) (veiled_memory L.memory) L.expirations)) (veiled_in L)
          ≡ veiled_in (after_by v (settled (memory_after call new L.memory) (expirations_after call new L.memory L.expirations)) L)
      by none e =
          rw (
            memory_veiled L.memory L.expirations call new (passed (facts_in L) (tests_of call new) e) k.objects,
            expirations_veiled L.memory L.expirations call new,
          )
          (settled_veiled (memory_after call new L.memory) (expirations_after call new L.memory L.expirations))
      by (some r) e = refl

  after_veiled : (s : Sent) → after_sent (veiled_in L) (veiled_sent L s) ≡ veiled_in (after_sent L s)
  after_veiled s = by s.request
    where
      by : (request : Request) → after_request (veiled_in L) request (veiled_by L.memory request s.bytes) ≡ veiled_in (after_request L request s.bytes)
      by (Use call) = next_veiled call s.bytes
      by Report = refl
      by (Remaining task handle) = refl

  -- what is seen of a reply
  shown : (call : Call) → seen_bytes (veiled_memory L.memory) call (reply_to call (veiled_memory L.memory)).bytes ≡ seen_bytes L.memory call (reply_to call L.memory).bytes
  unfolding reply_to seen_bytes veiled_object
  shown (Join task share) = refl
  shown (Schedule event task) = refl
  shown (Make task kind extension size prefix) = refl
  shown (Refresh task kind extension handle) = refl
  shown (Read task handle) =
      let o = object_at handle L.memory.objects in
      rw (at_veiled handle L.memory.objects)
      (by_test (is_viewing (task_at L.memory.clocks task).state)
      (λ e. rw e (head_shown o.prefix o.bytes))
      (λ e. rw (e, ← veiled_take o.prefix o.size o.bytes, veiled_twice o.prefix (take o.size o.bytes))))
  shown (Write task handle offset) = refl
  shown (Batch task kind extension) = refl
  shown (Release task handle) = refl

  same_answer : (call : Call) → (reply_to call (veiled_memory L.memory)).answer ≡ (reply_to call L.memory).answer
  unfolding reply_to
  same_answer (Join task share) = refl
  same_answer (Schedule event task) = refl
  same_answer (Make task kind extension size prefix) = refl
  same_answer (Refresh task kind extension handle) = refl
  same_answer (Read task handle) = refl
  same_answer (Write task handle offset) = refl
  same_answer (Batch task kind extension) = refl
  same_answer (Release task handle) = refl

  seen_veiled : (s : Sent) → seen (veiled_memory L.memory) s.request (veiledly L s) ≡ seen L.memory s.request (plainly L s)
  unfolding reply usage verdict veiled_object
  seen_veiled s = by s.request
    where
      seen_by_lem : (v : Option Refusal) (call : Call)
          → seen (veiled_memory L.memory) (Use call) (reply_by v (reply_to call (veiled_memory L.memory))) ≡ seen L.memory (Use call) (reply_by v (reply_to call L.memory))
      seen_by_lem none call = rw (same_answer call, shown call)
      seen_by_lem (some r) call = rw (seen_none (veiled_memory L.memory) call, seen_none L.memory call)

      by : (request : Request)
          → seen (veiled_memory L.memory) request (reply_to_request (veiled_in L) request (veiled_by L.memory request s.bytes))
          ≡ seen L.memory request (reply_to_request L request s.bytes)
      by (Use call) = rw (verdict_veiled L.memory L.expirations intact call s.bytes) (seen_by_lem (verdict_on L call s.bytes) call)
      by Report = simp count_map
      by (Remaining task handle) = refl

-- of an answer to a viewer all is seen
whole_bytes : (m : Memory) (call : Call) (bytes : List ℕ) → is_viewer m.clocks (caller_of call) ≡ true → seen_bytes m call bytes ≡ bytes
unfolding seen_bytes
whole_bytes m (Join task share) bytes e = refl
whole_bytes m (Schedule event task) bytes e = refl
whole_bytes m (Make task kind extension size prefix) bytes e = refl
whole_bytes m (Refresh task kind extension handle) bytes e = refl
whole_bytes m (Read task handle) bytes e = rw e
whole_bytes m (Write task handle offset) bytes e = refl
whole_bytes m (Batch task kind extension) bytes e = refl
whole_bytes m (Release task handle) bytes e = refl

whole : (m : Memory) (request : Request) (y : Reply) → is_viewers m.clocks request ≡ true → seen m request y ≡ y
whole m (Use call) y e = rw (whole_bytes m call y.bytes e)
whole m Report y e = refl
whole m (Remaining task handle) y e = refl

-- so it is the same
viewer_veiled : (L : Ledger) → Kept L → (s : Sent) → is_viewers L.memory.clocks s.request ≡ true → veiledly L s ≡ plainly L s
viewer_veiled L k s e =
    sym (whole (veiled_memory L.memory) s.request (veiledly L s) e) ∙ seen_veiled L k s ∙ whole L.memory s.request (plainly L s) e

-- A list of calls is seen as its veil is.
all_veiled : (ss : List Sent) (L : Ledger) → Kept L → seen_in (veiled_in L) (veils L ss) (replies (veiled_in L) (veils L ss)) ≡ seen_in L ss (replies L ss)
unfolding seen_in veils replies
all_veiled [] L k = refl
all_veiled (s ∷ ss) L k =
    ap₂ ◌∷◌ (seen_veiled L k s)
    (ap (λ (N : Ledger). seen_in N (veils (after_sent L s) ss) (replies N (veils (after_sent L s) ss))) (after_veiled L k s)
    ∙ all_veiled ss (after_sent L s) (kept_request L k s.request s.bytes))

viewers_veiled : (ss : List Sent) (L : Ledger) → Kept L → to_viewers (veiled_in L) (veils L ss) (replies (veiled_in L) (veils L ss)) ≡ to_viewers L ss (replies L ss)
unfolding to_viewers veils replies
viewers_veiled [] L k = refl
viewers_veiled (s ∷ ss) L k =
    let rest =
    ap (λ (N : Ledger). to_viewers N (veils (after_sent L s) ss) (replies N (veils (after_sent L s) ss))) (after_veiled L k s)
    ∙ viewers_veiled ss (after_sent L s) (kept_request L k s.request s.bytes) in
    by_test (is_viewers L.memory.clocks s.request)
    (λ e. rw e (ap₂ ◌∷◌ (viewer_veiled L k s e) rest))
    (λ e. rw e rest)

-- and leaves the veil of what it leaves
left_veiled : (ss : List Sent) (L : Ledger) → Kept L → after_all (veiled_in L) (veils L ss) ≡ veiled_in (after_all L ss)
unfolding veils after_all
left_veiled [] L k = refl
left_veiled (s ∷ ss) L k =
    ap (λ (N : Ledger). after_all N (veils (after_sent L s) ss)) (after_veiled L k s)
    ∙ left_veiled ss (after_sent L s) (kept_request L k s.request s.bytes)

alike : (L M : Ledger) → Kept L → Kept M → veiled_in L ≡ veiled_in M → (ss ts : List Sent) → veils L ss ≡ veils M ts
    → (to_viewers L ss (replies L ss) ≡ to_viewers M ts (replies M ts)) × (seen_in L ss (replies L ss) ≡ seen_in M ts (replies M ts))
alike L M k l same ss ts e = (
  sym (viewers_veiled ss L k) ∙ ap₂ (λ (N : Ledger) (us : List Sent). to_viewers N us (replies N us)) same e ∙ viewers_veiled ts M l,
  sym (all_veiled ss L k) ∙ ap₂ (λ (N : Ledger) (us : List Sent). seen_in N us (replies N us)) same e ∙ all_veiled ts M l,
)

pub discreet : Discreet
discreet =
    record {
      viewers = λ limits ss ts e. (alike (fresh limits) (fresh limits) (kept_fresh limits) (kept_fresh limits) refl ss ts e).0;
      same = λ limits ss ts e. (alike (fresh limits) (fresh limits) (kept_fresh limits) (kept_fresh limits) refl ss ts e).1;
      left = λ limits ss ts e.
          sym (left_veiled ss (fresh limits) (kept_fresh limits))
          ∙ ap (λ (us : List Sent). after_all (veiled_in (fresh limits)) us) e
          ∙ left_veiled ts (fresh limits) (kept_fresh limits);
      alike = alike;
    }
