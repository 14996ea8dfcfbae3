-- Demand 3 of the ledger. While all use is in time and in bounds, the ledger is the heap with the book's expirations, swept of what does
-- not stand.
use Prim.Native.Nat.{ℕ, ◌≤◌}
use native.Mathlib.Omega.{arith}
use mathlib.Core.Bool.{Bool, true, false, true≢false, false≢true, ◌||◌, and-eq-true_iff, and-true, not-not}
use mathlib.Core.List.{List, [], ◌∷◌, map, map-id, tail}
use mathlib.Core.Logic.{◌↔◌}
use mathlib.Core.Option.{Option, none, some}
use mathlib.Core.Path.{◌≡◌, refl, sym, ap, ◌∙◌}
use borrow.Author.Tests.{not-false, eq-eqb}
use lib.Dec.{eqb}
use Rattle.lists.specs.Columns.{◌⊛◌}
use Rattle.lists.specs.Sums.{total}
use Rattle.lists.specs.Tests.{all, All}
use Rattle.lists.proofs.Cases.{by_test, not_leb, not_ltb}
use Rattle.lists.proofs.Counts.{not_any_not}
use Rattle.lists.proofs.All.{all_imp, all_append, all_map}
use Rattle.lists.proofs.Sums.{total_zeros}
use Rattle.lists.proofs.Filters.{filter_map_filter, filter_filter, filter_filter_append}
use Rattle.ledger.specs.Limits.{block_size}
use Rattle.ledger.specs.Expirations.{Expiration, released}
use Rattle.ledger.specs.Objects.{Object, Memory, Reply, fresh_memory, object_at, is_intact, written, orphaned, makers_after, stands, standing, handles_of}
use Rattle.ledger.specs.Refusals.{facts_of}
use Rattle.ledger.specs.Ledger.{settled, fresh, verdict_on, reply_by, after_by, reply, next, replies}
use Rattle.ledger.specs.Heap.{heap_verdict_on, heap_reply, heap_next, heap_replies, book_next, is_left_aside, all_in_time_and_bounds, Used, sent, Demand3}
use Rattle.ledger.specs.Rules.{reply_to, memory_after, expirations_after, tests_of, is_in_time_and_bounds}
use Rattle.ledger.specs.declared.Limits.{Limits}
use Rattle.ledger.specs.declared.Refusal.{Refusal}
use Rattle.ledger.specs.declared.Call.{Call}
use Rattle.ledger.specs.declared.Call.TheVariants.{Join, Schedule, Make, Refresh, Read, Write, Batch, Release}
use Rattle.ledger.specs.declared.Event.{Event}
use Rattle.ledger.specs.declared.Event.TheVariants.{Leave, Block, Resume, Tick, View}
use Rattle.ledger.proofs.KeptObjects.{intact_written}
use Rattle.ledger.proofs.Passed.{refusal_in, refusal_told}
use Rattle.ledger.proofs.Standing.{at_standing, sets_on, stood}
use Rattle.ledger.proofs.Verdicts.{is_own_verdict, is_clear, is_ordered, Agree, Compared, alike, apart, compared, heap_not_own}

-- the memory of the ledger that stands beside this heap and book
abbrev swept : List Expiration → Memory → Memory
swept xs m = (settled m xs).memory

-- every object of the heap is intact, and its handle was given
unfoldable pub HeapKept : Memory → Type 0
HeapKept m = All (λ (o : Object). (o.handle ≤ m.given) × (is_intact o ≡ true)) m.objects

pub intact_at : (handle : ℕ) (os : List Object) → All (λ (o : Object). is_intact o ≡ true) os → is_intact (object_at handle os) ≡ true
unfolding object_at total
intact_at handle [] h = refl
intact_at handle (o ∷ os) (h, hs) = by_test (eqb o.handle handle) (λ e. rw e h) (λ e. rw e (intact_at handle os hs))

-- so it never gives 23
never : (m : Memory) (handle : ℕ) → HeapKept m → is_intact (object_at handle m.objects) ≡ true
unfolding HeapKept
never m handle k = intact_at handle m.objects (all_imp (λ o h. h.1) m.objects k)

-- every call's tests are in an order that keeps demand 3
ordered : (m : Memory) → HeapKept m → (call : Call) (new : List ℕ) → is_ordered (facts_of m []) (tests_of call new) ≡ true
unfolding tests_of
ordered m k (Join task share) new = refl
ordered m k (Schedule Leave task) new = refl
ordered m k (Schedule Block task) new = refl
ordered m k (Schedule Resume task) new = refl
ordered m k (Schedule View task) new = refl
ordered m k (Schedule Tick task) new = refl
ordered m k (Make task kind extension size prefix) new = refl
ordered m k (Refresh task kind extension handle) new = refl
ordered m k (Read task handle) new = rw (never m handle k)
ordered m k (Write task handle offset) new = rw (never m handle k)
ordered m k (Batch task kind extension) new = refl
ordered m k (Release task handle) new = refl

-- the shared tests come out the same of ledger and heap: but for 13 and 23, they look at no object
agreed : (m : Memory) (xs : List Expiration) (call : Call) (new : List ℕ)
    → Agree (facts_of (swept xs m) xs) (facts_of m []) (tests_of call new)
unfolding tests_of
agreed m xs (Join task share) new = (refl, (refl, (refl, λ e. tt)))
agreed m xs (Schedule Leave task) new = search
agreed m xs (Schedule Block task) new = search
agreed m xs (Schedule Resume task) new = search
agreed m xs (Schedule View task) new = search
agreed m xs (Schedule Tick task) new = search
agreed m xs (Make task kind extension size prefix) new = (refl, (refl, (refl, (refl, (refl, (refl, (refl, (refl, λ l b e. tt))))))))
agreed m xs (Refresh task kind extension handle) new = (refl, (refl, (refl, (refl, (refl, (refl, (refl, λ g e. tt)))))))
agreed m xs (Read task handle) new =
    (refl, (refl, (refl, (refl, λ g. (rw (at_standing xs handle m.objects (not-false _ g)), tt)))))
agreed m xs (Write task handle offset) new =
    (refl, (refl, (refl, (refl, (refl, λ g. (rw (at_standing xs handle m.objects (not-false _ g)), (rw (at_standing xs handle m.objects (not-false _ g)), tt)))))))
agreed m xs (Batch task kind extension) new = (refl, (refl, (refl, (refl, (refl, (refl, (refl, (refl, λ g e. tt))))))))
agreed m xs (Release task handle) new = (refl, (refl, (refl, (refl, (refl, λ g. (refl, tt))))))

-- no test of the pool's own holds exactly when the book finds the use in time and in bounds
clear : (m : Memory) (xs : List Expiration) (call : Call) (new : List ℕ)
    → is_clear (facts_of (swept xs m) xs) (tests_of call new) ≡ is_in_time_and_bounds m xs call new
unfolding tests_of is_in_time_and_bounds
clear m xs (Join task share) new = simp and-true
clear m xs (Schedule Leave task) new = refl
clear m xs (Schedule Block task) new = refl
clear m xs (Schedule Resume task) new = refl
clear m xs (Schedule View task) new = refl
clear m xs (Schedule Tick task) new = refl
clear m xs (Make task kind extension size prefix) new = simp (not_leb, and-true)
clear m xs (Refresh task kind extension handle) new = simp (not-not, not_leb, and-true)
clear m xs (Read task handle) new = simp (not-not, and-true)
clear m xs (Write task handle offset) new = simp (not-not, and-true)
clear m xs (Batch task kind extension) new = rw (not_any_not (stands xs) (handles_of new)) (simp (not_ltb, and-true))
clear m xs (Release task handle) new = simp (not-not, and-true)

-- what a call answers depends on nothing that is swept away
same_reply : (m : Memory) (xs : List Expiration) (call : Call) (new : List ℕ) → is_in_time_and_bounds m xs call new ≡ true
    → reply_to call (swept xs m) ≡ reply_to call m
unfolding reply_to is_in_time_and_bounds
same_reply m xs (Join task share) new e = refl
same_reply m xs (Schedule event task) new e = refl
same_reply m xs (Make task kind extension size prefix) new e = refl
same_reply m xs (Refresh task kind extension handle) new e = refl
same_reply m xs (Read task handle) new e = rw (at_standing xs handle m.objects e)
same_reply m xs (Write task handle offset) new e = refl
same_reply m xs (Batch task kind extension) new e = refl
same_reply m xs (Release task handle) new e = refl

-- a sweep changes nothing before one that leaves no more
swept_twice : (xs ys : List Expiration) (os : List Object)
    → All (λ (o : Object). stands ys o.handle ≡ true → stands xs o.handle ≡ true) os
    → standing ys (standing xs os) ≡ standing ys os
swept_twice xs ys os h = filter_filter _ _ os h

-- nor before a leave, which changes makers alone
swept_makers : (event : Event) (task : ℕ) (xs ys : List Expiration) (os : List Object)
    → All (λ (o : Object). stands ys o.handle ≡ true → stands xs o.handle ≡ true) os
    → standing ys (makers_after event task (standing xs os)) ≡ standing ys (makers_after event task os)
unfolding makers_after
swept_makers Leave task xs ys os h = filter_map_filter _ _ (orphaned task) os h
swept_makers Block task xs ys os h = swept_twice xs ys os h
swept_makers Resume task xs ys os h = swept_twice xs ys os h
swept_makers View task xs ys os h = swept_twice xs ys os h
swept_makers Tick task xs ys os h = swept_twice xs ys os h

-- an object of the heap that a call leaves standing stood before it
all_stood : (m : Memory) (xs : List Expiration) (call : Call) (new : List ℕ) → all (stands xs) (sets_on call new) ≡ true → HeapKept m
    → All (λ (o : Object). stands (expirations_after call new m xs) o.handle ≡ true → stands xs o.handle ≡ true) m.objects
unfolding HeapKept
all_stood m xs call new e k = all_imp (λ o h. stood m xs call new e o.handle h.0) m.objects k

-- what the ledger sweeps away, the call's own sweep would have taken
same_sweep : (m : Memory) (xs : List Expiration) (call : Call) (new : List ℕ) → HeapKept m → is_in_time_and_bounds m xs call new ≡ true
    → settled (memory_after call new (swept xs m)) (expirations_after call new (swept xs m) xs)
    ≡ settled (memory_after call new m) (expirations_after call new m xs)
unfolding memory_after expirations_after is_in_time_and_bounds HeapKept written
same_sweep m xs (Join task share) new k e = rw (swept_twice xs xs m.objects (all_stood m xs (Join task share) new refl k))
same_sweep m xs (Schedule event task) new k e = rw (swept_makers event task xs _ m.objects (all_stood m xs (Schedule event task) new refl k))
same_sweep m xs (Make task kind extension size prefix) new k e =
    rw (filter_filter_append _ _ m.objects _ (all_stood m xs (Make task kind extension size prefix) new refl k))
same_sweep m xs (Refresh task kind extension handle) new k e =
    let stand : stands xs handle ≡ true = ((and-eq-true_iff _ _).0 e).0 in
    rw
    (swept_twice xs (expirations_after (Refresh task kind extension handle) new m xs) m.objects
    (all_stood m xs (Refresh task kind extension handle) new (rw stand) k))
same_sweep m xs (Read task handle) new k e = rw (swept_twice xs xs m.objects (all_stood m xs (Read task handle) new refl k))
same_sweep m xs (Write task handle offset) new k e =
    rw (filter_map_filter _ _ (written handle offset new) m.objects (all_stood m xs (Write task handle offset) new refl k))
same_sweep m xs (Batch task kind extension) new k e =
    rw (swept_twice xs _ m.objects (all_stood m xs (Batch task kind extension) new ((and-eq-true_iff _ _).0 e).0 k))
same_sweep m xs (Release task handle) new k e =
    rw (swept_twice xs (released handle xs) m.objects (all_stood m xs (Release task handle) new refl k))

-- the heap's handles stay given, and its objects intact
kept_after : (m : Memory) (call : Call) (new : List ℕ) → HeapKept m → HeapKept (memory_after call new m)
unfolding HeapKept memory_after makers_after written
kept_after m (Join task share) new k = k
kept_after m (Schedule Leave task) new k = all_map _ (orphaned task) m.objects k
kept_after m (Schedule Block task) new k = k
kept_after m (Schedule Resume task) new k = k
kept_after m (Schedule View task) new k = k
kept_after m (Schedule Tick task) new k = k
kept_after m (Make task kind extension size prefix) new k =
    all_append _ m.objects _ (all_imp (λ o h. (omega (arith, h.0), h.1)) m.objects k) ((omega arith, eq-eqb _ _ (total_zeros (block_size size))), tt)
kept_after m (Refresh task kind extension handle) new k = k
kept_after m (Read task handle) new k = k
kept_after m (Write task handle offset) new k =
    all_map _ (written handle offset new) m.objects
    (all_imp (λ o h. (h.0, intact_written handle offset new o h.1)) m.objects k)
kept_after m (Batch task kind extension) new k = k
kept_after m (Release task handle) new k = k

pub heap_kept : (m : Memory) (call : Call) (new : List ℕ) → HeapKept m → HeapKept (heap_next m call new)
unfolding heap_next
heap_kept m call new k = by (heap_verdict_on m call new)
  where
    by : (v : Option Refusal) → HeapKept (after_by v (memory_after call new m) m)
    by none = kept_after m call new k
    by (some r) = k

-- A refusal of the pool's own is no answer of the heap's, and is not told alike where what is told shows it.
module _ {X : Type 0} (tell : Reply → X) (is_own_told : X → Bool)
    (shows : (v : Option Refusal) (call : Call) (m : Memory) → is_own_told (tell (reply_by v (reply_to call m))) ≡ is_own_verdict v) where
  told_apart : (m : Memory) (xs : List Expiration) (call : Call) (new : List ℕ) → HeapKept m → is_own_verdict (verdict_on (settled m xs) call new) ≡ true
      → tell (reply (settled m xs) call new) ≡ tell (heap_reply m call new) → ⊥
  unfolding reply heap_reply
  told_apart m xs call new k o q =
      true≢false
      (sym o ∙ sym (shows (verdict_on (settled m xs) call new) call (swept xs m)) ∙ ap is_own_told q ∙ shows (heap_verdict_on m call new) call m
      ∙ heap_not_own (facts_of m []) (tests_of call new) (ordered m k call new))

-- One call: ledger and heap answer alike and stay together, or the use was out of time or bounds and the ledger gives a refusal of its own.
module _ (m : Memory) (xs : List Expiration) (call : Call) (new : List ℕ) where
  is_fine : Bool
  is_fine = is_left_aside (heap_verdict_on m call new) || is_in_time_and_bounds m xs call new

  data Step : Type 0 where
    together : is_fine ≡ true → reply (settled m xs) call new ≡ heap_reply m call new
        → next (settled m xs) call new ≡ settled (heap_next m call new) (book_next m xs call new) → Step
    parted : is_fine ≡ false → is_own_verdict (verdict_on (settled m xs) call new) ≡ true → Step

  step : HeapKept m → Step
  unfolding is_fine reply next heap_reply heap_next book_next
  step k = by (compared (facts_of (swept xs m) xs) (facts_of m []) (tests_of call new) (ordered m k call new) (agreed m xs call new))
    where
      by_reply : (v : Option Refusal) → (is_left_aside v || is_in_time_and_bounds m xs call new) ≡ true
          → reply_by v (reply_to call (swept xs m)) ≡ reply_by v (reply_to call m)
      by_reply none f = same_reply m xs call new f
      by_reply (some r) f = refl

      by_next : (v : Option Refusal) → (is_left_aside v || is_in_time_and_bounds m xs call new) ≡ true
          → after_by v (settled (memory_after call new (swept xs m)) (expirations_after call new (swept xs m) xs)) (settled m xs)
          ≡ settled (after_by v (memory_after call new m) m) (after_by v (expirations_after call new m xs) xs)
      by_next none f = same_sweep m xs call new k f
      by_next (some r) f = refl

      by : Compared (is_left_aside (heap_verdict_on m call new) || is_clear (facts_of (swept xs m) xs) (tests_of call new))
          (verdict_on (settled m xs) call new) (heap_verdict_on m call new) → Step
      by (alike f e) =
          let g : is_fine ≡ true = rw (clear m xs call new) at f in
          together g (rw e (by_reply (heap_verdict_on m call new) g)) (rw e (by_next (heap_verdict_on m call new) g))
      by (apart f o) = parted (rw (clear m xs call new) at f) o

-- the whole list, by what its first call comes to: in time and in bounds, ledger and heap answer alike
alike_from : (us : List Used) (m : Memory) (xs : List Expiration) → HeapKept m → all_in_time_and_bounds m xs us ≡ true
    → replies (settled m xs) (map sent us) ≡ heap_replies m us
unfolding replies heap_replies all_in_time_and_bounds is_fine
alike_from [] m xs k a = refl
alike_from (u ∷ us) m xs k a =
    by (step m xs u.call u.bytes k)
    (alike_from us (heap_next m u.call u.bytes) (book_next m xs u.call u.bytes) (heap_kept m u.call u.bytes k))
  where
    by : Step m xs u.call u.bytes
        → (all_in_time_and_bounds (heap_next m u.call u.bytes) (book_next m xs u.call u.bytes) us ≡ true
        → replies (settled (heap_next m u.call u.bytes) (book_next m xs u.call u.bytes)) (map sent us)
        ≡ heap_replies (heap_next m u.call u.bytes) us)
        → replies (settled m xs) (map sent (u ∷ us)) ≡ heap_replies m (u ∷ us)
    by (together f r n) rest = rw (r, n) (ap (λ l. heap_reply m u.call u.bytes ∷ l) (rest (rw f at a)))
    by (parted f o) rest = absurd (false≢true (rw f at a))

-- and if what is told of ledger and heap is alike, where it shows the refusals of the pool's own, all use was in time and in bounds
module _ {A X : Type 0} (used : A → Used) (tell : A → Reply → X) (is_own_told : X → Bool)
    (shows : (a : A) (v : Option Refusal) (call : Call) (m : Memory) → is_own_told (tell a (reply_by v (reply_to call m))) ≡ is_own_verdict v) where
  told_from : (bs : List A) (m : Memory) (xs : List Expiration) → HeapKept m
      → (map tell bs ⊛ replies (settled m xs) (map sent (map used bs))) ≡ (map tell bs ⊛ heap_replies m (map used bs))
      → all_in_time_and_bounds m xs (map used bs) ≡ true
  unfolding replies heap_replies all_in_time_and_bounds is_fine
  told_from [] m xs k e = refl
  told_from (a ∷ bs) m xs k e =
      let call = (used a).call in
      let new = (used a).bytes in
      by (step m xs call new k) (told_from bs (heap_next m call new) (book_next m xs call new) (heap_kept m call new k))
    where
      by : Step m xs (used a).call (used a).bytes
          → ((map tell bs ⊛ replies (settled (heap_next m (used a).call (used a).bytes) (book_next m xs (used a).call (used a).bytes)) (map sent (map used bs)))
          ≡ (map tell bs ⊛ heap_replies (heap_next m (used a).call (used a).bytes) (map used bs))
          → all_in_time_and_bounds (heap_next m (used a).call (used a).bytes) (book_next m xs (used a).call (used a).bytes) (map used bs) ≡ true)
          → all_in_time_and_bounds m xs (map used (a ∷ bs)) ≡ true
      by (together f r n) rest = rw f (rest (rw n at (ap tail e)))
      by (parted f o) rest = absurd (told_apart (tell a) is_own_told (shows a) m xs (used a).call (used a).bytes k o (cc))

  pub demand3_told : (limits : Limits) (bs : List A)
      → ((map tell bs ⊛ replies (fresh limits) (map sent (map used bs))) ≡ (map tell bs ⊛ heap_replies (fresh_memory limits) (map used bs)))
      ↔ (all_in_time_and_bounds (fresh_memory limits) [] (map used bs) ≡ true)
  unfolding fresh fresh_memory HeapKept
  demand3_told limits bs =
      (told_from bs (fresh_memory limits) [] tt, λ a. ap (λ ys. map tell bs ⊛ ys) (alike_from (map used bs) (fresh_memory limits) [] tt a))

-- of the replies themselves
pub demand3 : Demand3
unfolding fresh fresh_memory HeapKept
demand3 limits us =
    let tell : Used → Reply → Reply = λ u y. y in
    let told = rw map-id at (demand3_told (λ (u : Used). u) tell (λ (y : Reply). is_own_verdict (refusal_in y.answer)) (λ u v call m. ap is_own_verdict (refusal_told v call m)) limits us) in
    (λ e. told.0 (ap (λ ys. map tell us ⊛ ys) e), alike_from us (fresh_memory limits) [] tt)
