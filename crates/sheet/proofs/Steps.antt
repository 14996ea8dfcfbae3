-- Call by call.
use Prim.Native.Nat.{ℕ, ◌+◌, ◌-◌}
use native.Mathlib.Omega.{arith}
use mathlib.Core.Bool.{Bool, true, false, true≢false, false≢true, cond, not, ◌&&◌, and-eq-true_iff, and-true, not-not}
use mathlib.Core.List.{List, [], ◌∷◌, ◌++◌, map, map-map, map-append}
use mathlib.Core.Path.{◌≡◌, refl, sym, ap, subst, ◌∙◌}
use borrow.Author.Tests.{eqb-true}
use lib.Dec.{eqb, leb}
use lib.ListN.{length, length-set}
use lib.Seq.{get_or-set_other}
use Rattle.lists.specs.Tests.{all, filter, All}
use Rattle.lists.proofs.All.{all_imp, all_filter, all_widened, found, map_same}
use Rattle.lists.proofs.Cases.{by_test, or_right}
use Rattle.ledger.specs.Compared.{Left, local_left, global_left, Shown, left_of, shown}
use Rattle.ledger.specs.Expirations.{DueTime, by_local, by_global, pinned, Expiration, due_after, remaining, set_on_each, is_of, is_pin_of, is_pinned, lasting, released}
use Rattle.ledger.specs.Ledger.{Ledger, carried_out, facts_in}
use Rattle.ledger.specs.Limits.{task_count, is_small}
use Rattle.ledger.specs.Objects.{Memory, zeroed, stands, written, makers_after, handles_of}
use Rattle.ledger.specs.Refusals.{is_pinning}
use Rattle.ledger.specs.Rules.{memory_after, expirations_after, tests_of}
use Rattle.ledger.specs.Room.{roomless}
use Rattle.ledger.specs.Rows.{open_share}
use Rattle.ledger.specs.Tasks.{Task, Clocks, task_at, absent_task, is_absent, is_running, joined, moved, entered, advances, clocks_after, tasks_after}
use Rattle.ledger.specs.declared.Call.{Call}
use Rattle.ledger.specs.declared.Call.TheVariants.{Join, Schedule, Make, Refresh, Read, Write, Batch, Release}
use Rattle.ledger.specs.declared.Event.TheVariants.{View}
use Rattle.ledger.specs.declared.Kind.{Kind}
use Rattle.ledger.specs.declared.Kind.TheVariants.{Local, Global, Pinned}
use Rattle.ledger.specs.declared.Limits.{Limits}
use Rattle.ledger.specs.declared.Share.{Share}
use Rattle.ledger.specs.declared.State.{State}
use Rattle.ledger.specs.declared.State.TheVariants.{Absent, Running, Waiting, Viewing}
use Rattle.sheet.specs.Sheet.{Sheet, numbered, left_for, set_each, is_pin, unpinned, taken}
use Rattle.sheet.proofs.Follows.{is_passed, Present, Fine, Follows, known, finish, stay}

pub present : (s : State) → is_running s ≡ true → is_absent s ≡ false
present Absent e = absurd (false≢true e)
present Running e = refl
present Waiting e = refl
present Viewing e = refl

-- What is set now has so much left.
left_for_lem : (clocks : Clocks) (task : ℕ) (kind : Kind) (extension : ℕ) → left_of clocks (due_after clocks task kind extension) ≡ left_for kind task extension
unfolding left_of due_after remaining
left_for_lem clocks task Local extension = ap (local_left task) (omega arith)
left_for_lem clocks task Global extension = ap (global_left task) (omega arith)
left_for_lem clocks task Pinned extension = refl

set_there : (clocks : Clocks) (task : ℕ) (kind : Kind) (extension : ℕ) → is_absent (task_at clocks task).state ≡ false → Present clocks (due_after clocks task kind extension)
unfolding due_after
set_there clocks task Local extension p = p
set_there clocks task Global extension p = tt
set_there clocks task Pinned extension p = tt

each_shown : (clocks : Clocks) (due : DueTime) (left : Left) → left_of clocks due ≡ left → (handles : List ℕ) (xs : List Expiration)
    → set_each left handles (map (shown clocks) xs) ≡ map (shown clocks) (set_on_each due handles xs)
unfolding set_on_each
each_shown clocks due left e [] xs = refl
each_shown clocks due left e (h ∷ hs) xs =
    subst (λ (l : Left). set_each l hs (record { handle = h; left = l } ∷ map (shown clocks) xs) ≡ map (shown clocks) (set_on_each due (h ∷ hs) xs)) e
    (each_shown clocks due (left_of clocks due) refl hs (record { handle = h; due = due } ∷ xs))

-- A task joins that was absent: nobody's times move.
module _ (clocks : Clocks) (task : ℕ) (t : Task) (absent : is_absent (task_at clocks task).state ≡ true) where
  another : (setter : ℕ) → is_absent (task_at clocks setter).state ≡ false → task_at (entered task t clocks) setter ≡ task_at clocks setter
  unfolding entered
  another setter p = get_or-set_other clocks.tasks task setter t absent_task (λ q. true≢false (sym absent ∙ ap (λ (i : ℕ). is_absent (task_at clocks i).state) (sym q) ∙ p))

  due_entered : (due : DueTime) → Present clocks due → left_of (entered task t clocks) due ≡ left_of clocks due
  unfolding left_of remaining entered
  due_entered (by_local setter at) p = ap (λ (u : Task). local_left setter (at - u.clock)) (another setter p)
  due_entered (by_global setter at) p = refl
  due_entered pinned p = refl

  there_entered : (due : DueTime) → Present clocks due → Present (entered task t clocks) due
  there_entered (by_local setter at) p = ap (λ (u : Task). is_absent u.state) (another setter p) ∙ p
  there_entered (by_global setter at) p = tt
  there_entered pinned p = tt

  shown_entered : (given : ℕ) (xs : List Expiration) → All (Fine clocks given) xs → map (shown (entered task t clocks)) xs ≡ map (shown clocks) xs
  shown_entered given xs each =
      map_same (shown (entered task t clocks)) (shown clocks) xs
      (all_imp (λ x h. ap (λ (l : Left). record { handle = x.handle; left = l }) (due_entered x.due h.there)) xs each)

  fine_entered : (given : ℕ) (xs : List Expiration) → All (Fine clocks given) xs → All (Fine (entered task t clocks) given) xs
  fine_entered given xs each = all_imp (λ x h. record { first = h.first; last = h.last; there = there_entered x.due h.there }) xs each

fine_set : (clocks : Clocks) (given handle : ℕ) (due : DueTime) (xs : List Expiration) → stands xs handle ≡ true → Present clocks due → All (Fine clocks given) xs
    → Fine clocks given (record { handle = handle; due = due })
fine_set clocks given handle due xs stand p each =
    found (is_of handle) (λ x e h. let q = eqb-true x.handle handle e in record { first = rw q at h.first; last = rw q at h.last; there = p }) xs stand each

fine_each : (clocks : Clocks) (given : ℕ) (due : DueTime) → Present clocks due → (handles : List ℕ) (xs : List Expiration) → all (stands xs) handles ≡ true → All (Fine clocks given) xs
    → All (Fine clocks given) (set_on_each due handles xs)
unfolding set_on_each
fine_each clocks given due p [] xs stand each = each
fine_each clocks given due p (h ∷ hs) xs stand each =
    let (here, rest) = (and-eq-true_iff (stands xs h) (all (stands xs) hs)).0 stand in
    fine_each clocks given due p hs (record { handle = h; due = due } ∷ xs) (all_widened (stands xs) _ (λ n t. or_right (eqb h n) t) hs rest)
    (fine_set clocks given h due xs here p each, each)

pin_left : (clocks : Clocks) (due : DueTime) → is_pin (left_of clocks due) ≡ is_pinned due
unfolding left_of
pin_left clocks (by_local setter at) = refl
pin_left clocks (by_global setter at) = refl
pin_left clocks pinned = refl

pub unpinned_shown : (clocks : Clocks) (handle : ℕ) (xs : List Expiration)
    → unpinned handle (map (shown clocks) xs) ≡ map (shown clocks) (filter (λ (x : Expiration). not (is_pin_of handle x)) xs)
unpinned_shown clocks handle [] = refl
unpinned_shown clocks handle (x ∷ xs) =
    rw (pin_left clocks x.due)
    (by_test (not (is_pin_of handle x)) (λ e. rw (e, unpinned_shown clocks handle xs)) (λ e. rw (e, unpinned_shown clocks handle xs)))

pub two_ways : {limits : Limits} {a b : Bool} {s t : Sheet} {L M : Ledger} → a ≡ b → (a ≡ true → Follows limits t M) → Follows limits s L → Follows limits (cond b t s) (cond a M L)
two_ways {a = a} e f g = rw (sym e) (by_test a (λ d. rw d (f d)) (λ d. rw d g))

module _ (limits : Limits) (s : Sheet) (L : Ledger) (f : Follows limits s L) (new : List ℕ) where
  abbrev m : Memory
  m = L.memory

  abbrev xs : List Expiration
  xs = L.expirations

  abbrev passes : Call → Bool
  passes call = is_passed (facts_in L) (roomless (tests_of call new))

  length_entered : (task : ℕ) (t : Task) → length (entered task t m.clocks).tasks ≡ task_count
  unfolding entered
  length_entered task t = rw length-set f.sixteen

  join_passes : (task : ℕ) (clocks : Clocks) → clocks ≡ m.clocks → passes (Join task open_share) ≡ (not (leb task_count task) && is_absent (task_at clocks task).state)
  unfolding tests_of
  join_passes task clocks q = rw q (simp (not-not, and-true))

  pub joins : (task : ℕ) (share : Share) → is_absent (task_at m.clocks task).state ≡ true → Follows limits (taken s (Join task share) new) (carried_out L (Join task open_share) new)
  unfolding taken memory_after expirations_after
  joins task share absent =
      stay limits s L f (Join task open_share) new (taken s (Join task share) new) refl tt refl (length_entered task joined)
      (ap (entered task joined) f.clocks)
      (f.lefts ∙ sym (shown_entered m.clocks task joined absent m.given xs f.each))
      refl refl refl
      (fine_entered m.clocks task joined absent m.given xs f.each)

  pub views : (task : ℕ) → is_absent (task_at m.clocks task).state ≡ true → Follows limits (taken s (Schedule View task) new) (carried_out L (Schedule View task) new)
  unfolding taken memory_after expirations_after clocks_after advances tasks_after entered moved makers_after lasting
  views task absent =
      let viewer = moved View absent_task in
      stay limits s L f (Schedule View task) new (taken s (Schedule View task) new) refl tt refl (length_entered task viewer)
      (ap (entered task viewer) f.clocks)
      (f.lefts ∙ sym (shown_entered m.clocks task viewer absent m.given xs f.each))
      refl refl refl
      (fine_entered m.clocks task viewer absent m.given xs f.each)

  pub makes : (task : ℕ) (kind : Kind) (extension size prefix : ℕ) → is_absent (task_at m.clocks task).state ≡ false
      → Follows limits (taken s (Make task kind extension size prefix) new) (carried_out L (Make task kind extension size prefix) new)
  unfolding taken memory_after expirations_after numbered
  makes task kind extension size prefix there =
      finish limits s L f (Make task kind extension size prefix) new (taken s (Make task kind extension size prefix) new) (is_small size ∷ []) refl tt refl f.sixteen f.clocks
      (made_left (length s.stores) m.given f.given s.lefts f.lefts)
      refl refl (made_known (length s.stores) m.given f.given) (
        record { first = omega arith; last = omega arith; there = set_there m.clocks task kind extension there },
        all_imp (λ x h. record { first = h.first; last = omega (arith, h.last); there = h.there }) xs f.each,
      )
    where
      made_left : (n given : ℕ) → n ≡ given → (lefts : List Shown) → lefts ≡ map (shown m.clocks) xs
          → (record { handle = n + 1; left = left_for kind task extension } ∷ lefts) ≡ (record { handle = given + 1; left = left_of m.clocks (due_after m.clocks task kind extension) } ∷ map (shown m.clocks) xs)
      made_left n given e lefts q = rw (e, q, left_for_lem m.clocks task kind extension)

      made_known : (n given : ℕ) → n ≡ given
          → map known (m.objects ++ (zeroed task (given + 1) size prefix ∷ [])) ≡ map known m.objects ++ (record { handle = 1 + n; small = is_small size } ∷ [])
      made_known n given e =
          let same : given + 1 ≡ 1 + n = omega (arith, e) in
          map-append known m.objects (zeroed task (given + 1) size prefix ∷ []) ∙ ap (λ (h : ℕ). map known m.objects ++ (record { handle = h; small = is_small size } ∷ [])) same

  pub refreshes : (task : ℕ) (kind : Kind) (extension handle : ℕ) → is_absent (task_at m.clocks task).state ≡ false → is_pinning kind ≡ false → stands xs handle ≡ true
      → Follows limits (taken s (Refresh task kind extension handle) new) (carried_out L (Refresh task kind extension handle) new)
  unfolding taken memory_after expirations_after
  refreshes task kind extension handle there pin stand =
      stay limits s L f (Refresh task kind extension handle) new (taken s (Refresh task kind extension handle) new) (rw stand) pin refl f.sixteen f.clocks
      (ap (λ (ls : List Shown). record { handle = handle; left = left_for kind task extension } ∷ ls) f.lefts ∙ (rw (left_for_lem m.clocks task kind extension)))
      refl refl refl
      (fine_set m.clocks m.given handle (due_after m.clocks task kind extension) xs stand (set_there m.clocks task kind extension there) f.each, f.each)

  pub batches : (task : ℕ) (kind : Kind) (extension : ℕ) → is_absent (task_at m.clocks task).state ≡ false → is_pinning kind ≡ false → all (stands xs) (handles_of new) ≡ true
      → Follows limits (taken s (Batch task kind extension) new) (carried_out L (Batch task kind extension) new)
  unfolding taken memory_after expirations_after
  batches task kind extension there pin stand =
      stay limits s L f (Batch task kind extension) new (taken s (Batch task kind extension) new) stand pin refl f.sixteen f.clocks
      (ap (set_each (left_for kind task extension) (handles_of new)) f.lefts ∙ each_shown m.clocks (due_after m.clocks task kind extension) (left_for kind task extension) (left_for_lem m.clocks task kind extension) (handles_of new) xs)
      refl refl refl
      (fine_each m.clocks m.given (due_after m.clocks task kind extension) (set_there m.clocks task kind extension there) (handles_of new) xs stand f.each)

  pub releases : (task handle : ℕ) → Follows limits (taken s (Release task handle) new) (carried_out L (Release task handle) new)
  unfolding taken memory_after expirations_after released
  releases task handle =
      stay limits s L f (Release task handle) new (taken s (Release task handle) new) refl tt refl f.sixteen f.clocks
      (ap (unpinned handle) f.lefts ∙ unpinned_shown m.clocks handle xs)
      refl refl refl
      (all_filter _ (λ x e h. h) xs f.each)

  pub reads : (task handle : ℕ) → Follows limits s (carried_out L (Read task handle) new)
  unfolding memory_after expirations_after
  reads task handle = stay limits s L f (Read task handle) new s refl tt refl f.sixteen f.clocks f.lefts refl refl refl f.each

  pub writes : (task handle offset : ℕ) → Follows limits s (carried_out L (Write task handle offset) new)
  unfolding memory_after expirations_after written
  writes task handle offset = stay limits s L f (Write task handle offset) new s refl tt refl f.sixteen f.clocks f.lefts refl refl (map-map known (written handle offset new) m.objects) f.each
