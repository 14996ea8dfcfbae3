-- The bytes and the sum of one object hidden: every call but a read or a write of it is answered alike, and leaves the same ledger but for
-- what is hidden.
use Prim.Native.Nat.{ℕ, ◌+◌, ◌≤◌}
use native.Mathlib.Omega.{arith}
use mathlib.Core.Bool.{Bool, true, false, cond}
use mathlib.Core.List.{List, [], ◌∷◌, map, map-map, map-append}
use mathlib.Core.Option.{Option, none, some, some-injective, some-ne-none, none-ne-some}
use mathlib.Core.Path.{◌≡◌, refl, ◌∙◌, sym}
use borrow.Author.Tests.{eqb-true, ne_eqb}
use lib.Dec.{eqb}
use Rattle.lists.proofs.Cases.{by_test}
use Rattle.lists.proofs.Counts.{count_map}
use Rattle.lists.proofs.All.{all_every, all_map, map_same}
use Rattle.lists.proofs.Filters.{filter_map, filter_all}
use Rattle.ledger.specs.Limits.{is_small}
use Rattle.ledger.specs.Expirations.{Expiration}
use Rattle.ledger.specs.Objects.{Object, Memory, with_objects, object_at, written, orphaned, makers_after, usage}
use Rattle.ledger.specs.Refusals.{Test, standing_tests, writing_tests, verdict, facts_of}
use Rattle.ledger.specs.Rules.{reply_to, memory_after, expirations_after, tests_of}
use Rattle.ledger.specs.Ledger.{Ledger, settled, after_by, verdict_on, reply, next, reply_to_request, after_request}
use Rattle.ledger.specs.Noticed.{disturbed, earlier_tests}
use Rattle.ledger.specs.declared.Call.{Call}
use Rattle.ledger.specs.declared.Call.TheVariants.{Join, Schedule, Make, Refresh, Read, Write, Batch, Release}
use Rattle.ledger.specs.declared.Event.{Event}
use Rattle.ledger.specs.declared.Event.TheVariants.{Leave, Block, Resume, Tick, View}
use Rattle.ledger.specs.declared.Refusal.{Refusal}
use Rattle.ledger.specs.declared.Request.{Request}
use Rattle.ledger.specs.declared.Request.TheVariants.{Use, Report, Remaining}
use Rattle.ledger.proofs.Shares.{full_map, short_map, limit_map}
use Rattle.ledger.proofs.Standing.{Standing}

-- the object with this handle has no bytes and no sum; all others stay
unfoldable pub hidden : ℕ → Object → Object
hidden handle o =
    record {
      handle = o.handle;
      size = o.size;
      bytes = cond (eqb o.handle handle) [] o.bytes;
      sum = cond (eqb o.handle handle) 0 o.sum;
      maker = o.maker;
      prefix = o.prefix;
    }

abbrev pub hidden_memory : ℕ → Memory → Memory
hidden_memory handle m =
    with_objects (map (hidden handle) m.objects) m

abbrev pub hidden_in : ℕ → Ledger → Ledger
hidden_in handle L = record { memory = hidden_memory handle L.memory; expirations = L.expirations }

-- what a write of the object and a change from outside do is hidden
pub unseen_written : (handle offset : ℕ) (new : List ℕ) (o : Object) → hidden handle (written handle offset new o) ≡ hidden handle o
unfolding hidden written
unseen_written handle offset new o = by_test (eqb o.handle handle) (λ e. rw e) (λ e. rw e)

pub unseen_disturbed : (handle at value : ℕ) (o : Object) → hidden handle (disturbed handle at value o) ≡ hidden handle o
unfolding hidden disturbed
unseen_disturbed handle at value o = by_test (eqb o.handle handle) (λ e. rw e) (λ e. rw e)

pub unseen_map : (handle : ℕ) (f : Object → Object) → ((o : Object) → hidden handle (f o) ≡ hidden handle o) → (os : List Object)
    → map (hidden handle) (map f os) ≡ map (hidden handle) os
unseen_map handle f same os = map-map (hidden handle) f os ∙ map_same _ _ os (all_every _ same os)

-- the object with a handle, where those that have it are left as they are
pub at_map : (used : ℕ) (f : Object → Object) → ((o : Object) → (f o).handle ≡ o.handle) → ((o : Object) → o.handle ≡ used → f o ≡ o)
    → (os : List Object) → object_at used (map f os) ≡ object_at used os
unfolding object_at
at_map used f named same [] = refl
at_map used f named same (o ∷ os) =
    by_test (eqb o.handle used)
    (λ e. let d : eqb (f o).handle used ≡ true = rw (named o) e in rw (d, e) (same o (eqb-true o.handle used e)))
    (λ e. let d : eqb (f o).handle used ≡ false = rw (named o) e in rw (d, e) (at_map used f named same os))

-- a read or a write uses the object where its handle is this one
used_by : (b : Bool) (own tests : List Test) → cond b (some own) none ≡ some tests → (b ≡ true) × (own ≡ tests)
used_by true own tests u = (refl, some-injective own tests u)
used_by false own tests u = absurd (none-ne-some _ u)

pub not_used : (b : Bool) (own : List Test) → cond b (some own) none ≡ none → b ≡ false
not_used true own u = absurd (some-ne-none own u)
not_used false own u = refl

-- what holds of each read and each write of the object with this handle holds of each use of it
pub by_use : (handle : ℕ) (P : List Test → Request → Type 0) → ((task : ℕ) → P (standing_tests task handle) (Use (Read task handle)))
    → ((task offset : ℕ) → P (writing_tests task handle) (Use (Write task handle offset)))
    → (tests : List Test) (request : Request) → earlier_tests handle request ≡ some tests → P tests request
by_use handle P f g tests (Use (Join who share)) u = absurd (none-ne-some _ u)
by_use handle P f g tests (Use (Schedule event who)) u = absurd (none-ne-some _ u)
by_use handle P f g tests (Use (Make who kind extension size prefix)) u = absurd (none-ne-some _ u)
by_use handle P f g tests (Use (Refresh who kind extension used)) u = absurd (none-ne-some _ u)
by_use handle P f g tests (Use (Read who used)) u =
    let (own, same) = used_by (eqb used handle) (standing_tests who handle) tests u in
    rw (eqb-true used handle own, ← same) (f who)
by_use handle P f g tests (Use (Write who used offset)) u =
    let (own, same) = used_by (eqb used handle) (writing_tests who handle) tests u in
    rw (eqb-true used handle own, ← same) (g who offset)
by_use handle P f g tests (Use (Batch who kind extension)) u = absurd (none-ne-some _ u)
by_use handle P f g tests (Use (Release who used)) u = absurd (none-ne-some _ u)
by_use handle P f g tests Report u = absurd (none-ne-some _ u)
by_use handle P f g tests (Remaining who used) u = absurd (none-ne-some _ u)

-- a call that would leave something as it is when carried out leaves it so in any case: a refused one changes nothing
unchanged : (f : Ledger → Ledger) (v : Option Refusal) {after now : Ledger} → f after ≡ f now → f (after_by v after now) ≡ f now
unchanged f none e = e
unchanged f (some r) e = refl

module _ (handle : ℕ) where
  -- another object is the same one
  at_other : (used : ℕ) → eqb used handle ≡ false → (os : List Object) → object_at used (map (hidden handle) os) ≡ object_at used os
  unfolding hidden
  at_other used d os = at_map used (hidden handle) (λ o. refl) (λ o q. let e : eqb o.handle handle ≡ false = rw q d in rw e) os

  -- and is written alike
  other_written : (used offset : ℕ) (new : List ℕ) → eqb used handle ≡ false → (o : Object)
      → written used offset new (hidden handle o) ≡ hidden handle (written used offset new o)
  unfolding written hidden
  other_written used offset new d o =
      by_test (eqb o.handle used)
      (λ e. let f : eqb o.handle handle ≡ false = rw (eqb-true o.handle used e) d in rw (e, f))
      (λ e. rw e)

  -- a leave hides nothing and shows nothing
  makers_hidden : (event : Event) (task : ℕ) (os : List Object) → makers_after event task (map (hidden handle) os) ≡ map (hidden handle) (makers_after event task os)
  unfolding makers_after hidden
  makers_hidden Leave task os = map-map (orphaned task) (hidden handle) os ∙ sym (map-map (hidden handle) (orphaned task) os)
  makers_hidden Block task os = refl
  makers_hidden Resume task os = refl
  makers_hidden View task os = refl
  makers_hidden Tick task os = refl

  module _ (m : Memory) where
    -- tests and answers look at nothing that is hidden, but for 13, 23 and a read: these look at another object
    verdict_hidden : (xs : List Expiration) (call : Call) (new : List ℕ) → earlier_tests handle (Use call) ≡ none
        → verdict (facts_of (hidden_memory handle m) xs) (tests_of call new) ≡ verdict (facts_of m xs) (tests_of call new)
    unfolding tests_of verdict hidden
    verdict_hidden xs (Join task share) new d =
        rw (
          short_map (hidden handle) (λ o. refl) (λ o. refl) true m.shares m.objects m.limits task share.small.reserve,
          short_map (hidden handle) (λ o. refl) (λ o. refl) false m.shares m.objects m.limits task share.large.reserve,
        )
    verdict_hidden xs (Schedule Leave task) new d = refl
    verdict_hidden xs (Schedule Block task) new d = refl
    verdict_hidden xs (Schedule Resume task) new d = refl
    verdict_hidden xs (Schedule View task) new d = refl
    verdict_hidden xs (Schedule Tick task) new d = refl
    verdict_hidden xs (Make task kind extension size prefix) new d =
        rw (
          full_map (hidden handle) (λ o. refl) (λ o. refl) (is_small size) m.shares m.objects m.limits task,
          limit_map (hidden handle) (λ o. refl) (λ o. refl) (is_small size) m.shares m.objects task,
        )
    verdict_hidden xs (Refresh task kind extension used) new d = refl
    verdict_hidden xs (Read task used) new d = rw (at_other used (not_used (eqb used handle) _ d) m.objects)
    verdict_hidden xs (Write task used offset) new d = rw (at_other used (not_used (eqb used handle) _ d) m.objects)
    verdict_hidden xs (Batch task kind extension) new d = refl
    verdict_hidden xs (Release task used) new d = refl

    reply_hidden : (call : Call) → earlier_tests handle (Use call) ≡ none → reply_to call (hidden_memory handle m) ≡ reply_to call m
    unfolding reply_to
    reply_hidden (Join task share) d = refl
    reply_hidden (Schedule event task) d = refl
    reply_hidden (Make task kind extension size prefix) d = refl
    reply_hidden (Refresh task kind extension used) d = refl
    reply_hidden (Read task used) d = rw (at_other used (not_used (eqb used handle) _ d) m.objects)
    reply_hidden (Write task used offset) d = refl
    reply_hidden (Batch task kind extension) d = refl
    reply_hidden (Release task used) d = refl

    -- what a call makes of the memory and of the expirations; the object that a make gives is another
    memory_hidden : handle ≤ m.given → (call : Call) (new : List ℕ) → earlier_tests handle (Use call) ≡ none
        → memory_after call new (hidden_memory handle m) ≡ hidden_memory handle (memory_after call new m)
    unfolding memory_after hidden
    memory_hidden g (Join task share) new d = refl
    memory_hidden g (Schedule event task) new d = rw (makers_hidden event task m.objects)
    memory_hidden g (Make task kind extension size prefix) new d =
        rw (map-append, ne_eqb (m.given + 1) handle (λ q. omega (arith, g, q)))
    memory_hidden g (Refresh task kind extension used) new d = refl
    memory_hidden g (Read task used) new d = refl
    memory_hidden g (Write task used offset) new d =
        let each = map_same _ _ m.objects (all_every _ (other_written used offset new (not_used (eqb used handle) _ d)) m.objects) in
        rw (map-map (written used offset new) (hidden handle) m.objects, map-map (hidden handle) (written used offset new) m.objects, each)
    memory_hidden g (Batch task kind extension) new d = refl
    memory_hidden g (Release task used) new d = refl

    expirations_hidden : (xs : List Expiration) (call : Call) (new : List ℕ) → expirations_after call new (hidden_memory handle m) xs ≡ expirations_after call new m xs
    unfolding expirations_after
    expirations_hidden xs (Join task share) new = refl
    expirations_hidden xs (Schedule event task) new = refl
    expirations_hidden xs (Make task kind extension size prefix) new = refl
    expirations_hidden xs (Refresh task kind extension used) new = refl
    expirations_hidden xs (Read task used) new = refl
    expirations_hidden xs (Write task used offset) new = refl
    expirations_hidden xs (Batch task kind extension) new = refl
    expirations_hidden xs (Release task used) new = refl

    -- the same objects go
    settled_hidden : (xs : List Expiration) → settled (hidden_memory handle m) xs ≡ hidden_in handle (settled m xs)
    unfolding hidden
    settled_hidden xs = rw filter_map

  module _ (L : Ledger) where
    -- every call but a read or a write of the object is answered alike, and leaves alike
    pub answered_alike : (request : Request) (new : List ℕ) → earlier_tests handle request ≡ none
        → reply_to_request (hidden_in handle L) request new ≡ reply_to_request L request new
    unfolding reply usage verdict hidden
    answered_alike (Use call) new d = rw (verdict_hidden L.memory L.expirations call new d, reply_hidden L.memory call d)
    answered_alike Report new d = simp count_map
    answered_alike (Remaining task used) new d = refl

    carried_alike : handle ≤ L.memory.given → (call : Call) (new : List ℕ) → earlier_tests handle (Use call) ≡ none → (v : Option Refusal)
        → after_by v (settled (memory_after call new (hidden_memory handle L.memory)) (expirations_after call new (hidden_memory handle L.memory) L.expirations)) (hidden_in handle L)
        ≡ hidden_in handle (after_by v (settled (memory_after call new L.memory) (expirations_after call new L.memory L.expirations)) L)
    carried_alike g call new d none =
        rw (memory_hidden L.memory g call new d, expirations_hidden L.memory L.expirations call new)
        (settled_hidden (memory_after call new L.memory) (expirations_after call new L.memory L.expirations))
    carried_alike g call new d (some r) = refl

    pub left_alike : handle ≤ L.memory.given → (request : Request) (new : List ℕ) → earlier_tests handle request ≡ none
        → after_request (hidden_in handle L) request new ≡ hidden_in handle (after_request L request new)
    unfolding next
    left_alike g (Use call) new d =
        rw (verdict_hidden L.memory L.expirations call new d) (carried_alike g call new d (verdict_on L call new))
    left_alike g Report new d = refl
    left_alike g (Remaining task used) new d = refl

    -- a read or a write of it changes what is hidden alone, where all objects stand
    pub left_unseen : Standing L → (request : Request) (new : List ℕ) (tests : List Test)
        → earlier_tests handle request ≡ some tests → hidden_in handle (after_request L request new) ≡ hidden_in handle L
    unfolding next memory_after expirations_after written
    left_unseen h request new tests u =
        let os = L.memory.objects in
        by_use handle (λ (ts : List Test) (r : Request). hidden_in handle (after_request L r new) ≡ hidden_in handle L)
        (λ task. unchanged (hidden_in handle) (verdict_on L (Read task handle) new) (rw (filter_all _ os h)))
        (λ task offset.
        unchanged (hidden_in handle) (verdict_on L (Write task handle offset) new)
        (rw (
          filter_all _ (map (written handle offset new) os) (all_map _ (written handle offset new) os h),
          unseen_map handle (written handle offset new) (unseen_written handle offset new) os,
        )))
        tests request u
