-- The sheet takes a call exactly when the roomy ledger carries it out, but for calls that leave it as it is.
use Prim.Native.Nat.{ℕ, ◌≤◌, ◌<◌}
use native.Mathlib.Omega.{arith}
use mathlib.Core.Bool.{Bool, true, false, true≢false, false≢true, cond, not, ◌&&◌, ◌||◌, and-eq-true_iff, and-true, and-false, not-not}
use mathlib.Core.List.{List, [], ◌∷◌, map}
use mathlib.Core.Logic.{◌≢◌}
use mathlib.Core.Path.{◌≡◌, refl, sym, ap, subst, ◌∙◌}
use borrow.Author.Tests.{not-true, leb-false, lt-leb, le-ltb, ne_eqb, eqb-true}
use lib.Dec.{eqb, leb, ltb}
use lib.ListN.{length}
use Rattle.lists.specs.Tests.{any, all, All}
use Rattle.lists.proofs.All.{all_imp, all_true, found, All→none, none→All}
use Rattle.lists.proofs.Cases.{by_test, refuted}
use Rattle.lists.proofs.Counts.{not_any_not}
use Rattle.lists.proofs.Filters.{filter_all}
use Rattle.ledger.specs.Compared.{Shown, shown}
use Rattle.ledger.specs.Expirations.{Expiration, is_of, is_pin_of}
use Rattle.ledger.specs.Ledger.{Ledger, carried_out, facts_in}
use Rattle.ledger.specs.Limits.{task_count, largest_batch, last_handle}
use Rattle.ledger.specs.Objects.{Memory, stands, handles_of}
use Rattle.ledger.specs.Refusals.{most_extension, is_pinning, is_not_given}
use Rattle.ledger.specs.Rules.{tests_of}
use Rattle.ledger.specs.Room.{read_call, roomless, roomy_next}
use Rattle.ledger.specs.Rows.{open_share}
use Rattle.ledger.specs.Tasks.{Clocks, task_at, is_absent, is_running, is_waiting}
use Rattle.ledger.specs.declared.Call.{Call}
use Rattle.ledger.specs.declared.Call.TheVariants.{Join, Schedule, Make, Refresh, Read, Write, Batch, Release}
use Rattle.ledger.specs.declared.Event.{Event}
use Rattle.ledger.specs.declared.Event.TheVariants.{Leave, Block, Resume, Tick, View}
use Rattle.ledger.specs.declared.Kind.{Kind}
use Rattle.ledger.specs.declared.Limits.{Limits}
use Rattle.ledger.specs.declared.Share.{Share}
use Rattle.ledger.specs.declared.State.{State}
use Rattle.ledger.specs.declared.State.TheVariants.{Absent, Running, Waiting, Viewing}
use Rattle.sheet.specs.Sheet.{Sheet, stands_in, unpinned, runs, is_taken, taken}
use Rattle.sheet.proofs.Follows.{is_passed, by_passed, acting, Fine, Follows, stands_shown}
use Rattle.sheet.proofs.Steps.{two_ways, present, joins, views, makes, refreshes, batches, releases, reads, writes, unpinned_shown}
use Rattle.sheet.proofs.Events.{events}

waiting : (none : Bool) (s : State) → (not none && (not (is_absent s) && (not (not (is_waiting s)) && true))) ≡ (not none && is_waiting s)
waiting true s = refl
waiting false Absent = refl
waiting false Running = refl
waiting false Waiting = refl
waiting false Viewing = refl

-- what stands was given
given_of : (clocks : Clocks) (m : Memory) (xs : List Expiration) → All (Fine clocks m.given) xs → (handle : ℕ) → stands xs handle ≡ true → is_not_given m.given handle ≡ false
given_of clocks m xs each handle stand =
    found (is_of handle)
    (λ x e h.
    let q = eqb-true x.handle handle e in
    let first : 1 ≤ handle = rw q at h.first in
    let last : handle ≤ m.given = rw q at h.last in
    rw (ne_eqb handle 0 (λ z. omega (arith, z, first)), le-ltb m.given handle last)) xs stand each

given_and : (off st : Bool) → (st ≡ true → off ≡ false) → (not off && (not (not st) && true)) ≡ st
given_and off true h = rw (h refl)
given_and off false h = and-false (not off)

given_some : (off some st : Bool) → not some ≡ st → (st ≡ true → off ≡ false) → (not off && (not some && true)) ≡ st
given_some off true st e h = rw (sym e) (and-false (not off))
given_some off false st e h = rw (sym e, h (sym e))

all_given : (clocks : Clocks) (m : Memory) (xs : List Expiration) → All (Fine clocks m.given) xs → (handles : List ℕ) → all (stands xs) handles ≡ true → any (is_not_given m.given) handles ≡ false
all_given clocks m xs each handles e =
    All→none (is_not_given m.given) handles (all_imp (λ handle stand. given_of clocks m xs each handle stand) handles (all_true (stands xs) handles e))

all_stand : (zs : List Shown) (clocks : Clocks) (xs : List Expiration) → zs ≡ map (shown clocks) xs → (handles : List ℕ) → all (stands_in zs) handles ≡ all (stands xs) handles
all_stand zs clocks xs q [] = refl
all_stand zs clocks xs q (h ∷ hs) = rw (all_stand zs clocks xs q hs, q, stands_shown clocks xs h)

pin_stands : (handle : ℕ) (xs : List Expiration) → any (is_pin_of handle) xs ≡ true → stands xs handle ≡ true
pin_stands handle [] e = absurd (false≢true e)
pin_stands handle (x ∷ xs) e =
    by_test (is_of handle x) (λ d. rw d) (λ d. rw d (pin_stands handle xs (rw d at e)))

-- an event that is no view
abbrev is_view : Event → Bool
is_view Leave = false
is_view Block = false
is_view Resume = false
is_view View = true
is_view Tick = false

told : (event : Event) → is_view event ≡ false → event ≢ View
told event e q = true≢false (ap is_view (sym q) ∙ e)

module _ (limits : Limits) (s : Sheet) (L : Ledger) (f : Follows limits s L) (new : List ℕ) where
  abbrev m : Memory
  m = L.memory

  abbrev xs : List Expiration
  xs = L.expirations

  abbrev passes : Call → Bool
  passes call = is_passed (facts_in L) (roomless (tests_of call new))

  runs_there : (task : ℕ) → runs s.clocks task ≡ true → (task < task_count) × (is_absent (task_at m.clocks task).state ≡ false)
  runs_there task e =
      let (l, r) = (and-eq-true_iff (not (leb task_count task)) (is_running (task_at s.clocks task).state)).0 e in (
        leb-false task_count task (not-true _ l),
        present (task_at m.clocks task).state (subst (λ (c : Clocks). is_running (task_at c task).state ≡ true) f.clocks r),
      )

  join_same : (task : ℕ) (share : Share) → passes (Join task open_share) ≡ is_taken limits s (Join task share) new
  unfolding tests_of is_taken
  join_same task share = rw f.clocks (simp (not-not, and-true))

  event_same : (event : Event) (task : ℕ) → passes (Schedule event task) ≡ is_taken limits s (Schedule event task) new
  unfolding tests_of is_taken
  event_same Leave task = rw f.clocks (simp and-true)
  event_same Block task = rw f.clocks (acting (leb task_count task) (task_at m.clocks task).state true ∙ and-true _)
  event_same Tick task = rw f.clocks (acting (leb task_count task) (task_at m.clocks task).state true ∙ and-true _)
  event_same View task = rw f.clocks (simp (not-not, and-true))
  event_same Resume task = rw f.clocks (waiting (leb task_count task) (task_at m.clocks task).state)

  make_same : (task : ℕ) (kind : Kind) (extension size prefix : ℕ) → m.given < last_handle
      → passes (Make task kind extension size prefix) ≡ is_taken limits s (Make task kind extension size prefix) new
  unfolding tests_of is_taken
  make_same task kind extension size prefix l =
      rw (f.clocks, lt-leb last_handle m.given l, acting (leb task_count task) (task_at m.clocks task).state, ← f.figures) (simp and-true)

  refresh_same : (task : ℕ) (kind : Kind) (extension handle : ℕ) → passes (Refresh task kind extension handle) ≡ is_taken limits s (Refresh task kind extension handle) new
  unfolding tests_of is_taken
  refresh_same task kind extension handle =
      rw (f.clocks, acting (leb task_count task) (task_at m.clocks task).state, given_and (is_not_given m.given handle) (stands xs handle) (given_of m.clocks m xs f.each handle), ← f.figures, f.lefts, stands_shown m.clocks xs handle)

  batch_same : (task : ℕ) (kind : Kind) (extension : ℕ) → passes (Batch task kind extension) ≡ is_taken limits s (Batch task kind extension) new
  unfolding tests_of is_taken
  batch_same task kind extension =
      rw (
        f.clocks,
        acting (leb task_count task) (task_at m.clocks task).state,
        given_some (any (is_not_given m.given) (handles_of new)) (any (λ (handle : ℕ). not (stands xs handle)) (handles_of new)) (all (stands xs) (handles_of new)) (not_any_not (stands xs) (handles_of new)) (all_given m.clocks m xs f.each (handles_of new)),
        ← f.figures,
        all_stand s.lefts m.clocks xs f.lefts (handles_of new),
      )

  -- a release that is refused would end nothing
  unpins_none : (handle : ℕ) → any (is_pin_of handle) xs ≡ false → unpinned handle s.lefts ≡ s.lefts
  unpins_none handle e =
      ap (unpinned handle) f.lefts ∙ unpinned_shown m.clocks handle xs
      ∙ ap (map (shown m.clocks)) (filter_all (λ (x : Expiration). not (is_pin_of handle x)) xs (all_imp (λ x d. ap not d) xs (none→All (is_pin_of handle) xs e)))
      ∙ sym f.lefts

  abbrev release_rest : ℕ → Bool
  release_rest handle = not (is_not_given m.given handle) && (not (not (stands xs handle)) && (not (not (any (eqb handle) m.pinned)) && true))

  release_same : (task handle : ℕ) → passes (Release task handle) ≡ (runs s.clocks task && release_rest handle)
  unfolding tests_of
  release_same task handle = rw f.clocks (acting (leb task_count task) (task_at m.clocks task).state (release_rest handle))

  rest_false : (handle : ℕ) → release_rest handle ≡ false → any (is_pin_of handle) xs ≡ false
  rest_false handle e =
      refuted (any (is_pin_of handle) xs)
      (λ h.
      let st = pin_stands handle xs h in
      true≢false (sym (rest_true (is_not_given m.given handle) (stands xs handle) (any (eqb handle) m.pinned) (given_of m.clocks m xs f.each handle st) st (f.pins handle ∙ h)) ∙ e))
    where
      rest_true : (a b c : Bool) → a ≡ false → b ≡ true → c ≡ true → (not a && (not (not b) && (not (not c) && true))) ≡ true
      rest_true a b c p q r = rw (p, q, r)

  released_same : (task handle : ℕ) → any (is_pin_of handle) xs ≡ false → taken s (Release task handle) new ≡ s
  unfolding taken
  released_same task handle e = ap (λ (ls : List Shown). record { clocks = s.clocks; stores = s.stores; lefts = ls }) (unpins_none handle e)

  by_same : (call : Call) → passes (read_call call) ≡ is_taken limits s call new
      → (is_taken limits s call new ≡ true → Follows limits (taken s call new) (carried_out L (read_call call) new))
      → Follows limits (cond (is_taken limits s call new) (taken s call new) s) (roomy_next L (read_call call) new)
  unfolding roomy_next
  by_same call e g =
      rw (by_passed (facts_in L) (roomless (tests_of (read_call call) new)) (carried_out L (read_call call) new) L) (two_ways e (λ d. g (sym e ∙ d)) f)

  -- a call that leaves the sheet as it is, whether it is carried out or not
  idle : (call : Call) → is_taken limits s call new ≡ false → Follows limits s (carried_out L (read_call call) new)
      → Follows limits (cond (is_taken limits s call new) (taken s call new) s) (roomy_next L (read_call call) new)
  unfolding roomy_next
  idle call e g =
      rw (by_passed (facts_in L) (roomless (tests_of (read_call call) new)) (carried_out L (read_call call) new) L, e)
      (by_test (passes (read_call call)) (λ d. rw d g) (λ d. rw d f))

  first_part : (task : ℕ) (rest : Bool) → (not (leb task_count task) && rest) ≡ true → (task < task_count) × (rest ≡ true)
  first_part task rest e = let (l, r) = (and-eq-true_iff (not (leb task_count task)) rest).0 e in (leb-false task_count task (not-true _ l), r)

  absent_now : (task : ℕ) → (not (leb task_count task) && is_absent (task_at s.clocks task).state) ≡ true → is_absent (task_at m.clocks task).state ≡ true
  absent_now task e = subst (λ (c : Clocks). is_absent (task_at c task).state ≡ true) f.clocks (first_part task _ e).1

  join_next : (task : ℕ) (share : Share) → is_taken limits s (Join task share) new ≡ true → Follows limits (taken s (Join task share) new) (carried_out L (Join task open_share) new)
  unfolding is_taken
  join_next task share e = joins limits s L f new task share (absent_now task e)

  event_next : (event : Event) (task : ℕ) → is_taken limits s (Schedule event task) new ≡ true → Follows limits (taken s (Schedule event task) new) (carried_out L (Schedule event task) new)
  unfolding is_taken
  event_next Leave task e = events limits s L f new Leave task (λ q. told Leave refl q) (first_part task _ e).0
  event_next Block task e = events limits s L f new Block task (λ q. told Block refl q) (first_part task _ e).0
  event_next Resume task e = events limits s L f new Resume task (λ q. told Resume refl q) (first_part task _ e).0
  event_next View task e = views limits s L f new task (absent_now task e)
  event_next Tick task e = events limits s L f new Tick task (λ q. told Tick refl q) (first_part task _ e).0

  make_next : (task : ℕ) (kind : Kind) (extension size prefix : ℕ) → is_taken limits s (Make task kind extension size prefix) new ≡ true
      → Follows limits (taken s (Make task kind extension size prefix) new) (carried_out L (Make task kind extension size prefix) new)
  unfolding is_taken
  make_next task kind extension size prefix e =
      makes limits s L f new task kind extension size prefix (runs_there task ((and-eq-true_iff (runs s.clocks task) _).0 e).0).1

  refresh_next : (task : ℕ) (kind : Kind) (extension handle : ℕ) → is_taken limits s (Refresh task kind extension handle) new ≡ true
      → Follows limits (taken s (Refresh task kind extension handle) new) (carried_out L (Refresh task kind extension handle) new)
  unfolding is_taken
  refresh_next task kind extension handle e =
      let (r, e) = (and-eq-true_iff (runs s.clocks task) _).0 e in
      let (p, e) = (and-eq-true_iff (not (is_pinning kind)) _).0 e in
      let (x, st) = (and-eq-true_iff (not (ltb (most_extension limits kind) extension)) (stands_in s.lefts handle)).0 e in
      refreshes limits s L f new task kind extension handle (runs_there task r).1 (not-true _ p)
      (sym (stands_shown m.clocks xs handle) ∙ ap (λ (zs : List Shown). stands_in zs handle) (sym f.lefts) ∙ st)

  batch_next : (task : ℕ) (kind : Kind) (extension : ℕ) → is_taken limits s (Batch task kind extension) new ≡ true
      → Follows limits (taken s (Batch task kind extension) new) (carried_out L (Batch task kind extension) new)
  unfolding is_taken
  batch_next task kind extension e =
      let (r, e) = (and-eq-true_iff (runs s.clocks task) _).0 e in
      let (n, e) = (and-eq-true_iff (not (eqb (length (handles_of new)) 0 || ltb largest_batch (length (handles_of new)))) _).0 e in
      let (p, e) = (and-eq-true_iff (not (is_pinning kind)) _).0 e in
      let (x, st) = (and-eq-true_iff (not (ltb (most_extension limits kind) extension)) (all (stands_in s.lefts) (handles_of new))).0 e in
      batches limits s L f new task kind extension (runs_there task r).1 (not-true _ p)
      (sym (all_stand s.lefts m.clocks xs f.lefts (handles_of new)) ∙ st)

  release_next : (task handle : ℕ) → Follows limits (cond (is_taken limits s (Release task handle) new) (taken s (Release task handle) new) s) (roomy_next L (Release task handle) new)
  unfolding roomy_next is_taken
  release_next task handle =
      rw (by_passed (facts_in L) (roomless (tests_of (Release task handle) new)) (carried_out L (Release task handle) new) L, release_same task handle)
      (by_test (runs s.clocks task)
      (λ r. rw r
      (by_test (release_rest handle)
      (λ e. rw e (releases limits s L f new task handle))
      (λ e. rw e (subst (λ (t : Sheet). Follows limits t L) (sym (released_same task handle (rest_false handle e))) f))))
      (λ r. rw r f))

  read_idle : (task handle : ℕ) → is_taken limits s (Read task handle) new ≡ false
  unfolding is_taken
  read_idle task handle = refl

  write_idle : (task handle offset : ℕ) → is_taken limits s (Write task handle offset) new ≡ false
  unfolding is_taken
  write_idle task handle offset = refl

  pub next_follows : (call : Call) → m.given < last_handle → Follows limits (cond (is_taken limits s call new) (taken s call new) s) (roomy_next L (read_call call) new)
  next_follows (Join task share) l = by_same (Join task share) (join_same task share) (join_next task share)
  next_follows (Schedule event task) l = by_same (Schedule event task) (event_same event task) (event_next event task)
  next_follows (Make task kind extension size prefix) l =
      by_same (Make task kind extension size prefix) (make_same task kind extension size prefix l) (make_next task kind extension size prefix)
  next_follows (Refresh task kind extension handle) l = by_same (Refresh task kind extension handle) (refresh_same task kind extension handle) (refresh_next task kind extension handle)
  next_follows (Read task handle) l = idle (Read task handle) (read_idle task handle) (reads limits s L f new task handle)
  next_follows (Write task handle offset) l = idle (Write task handle offset) (write_idle task handle offset) (writes limits s L f new task handle offset)
  next_follows (Batch task kind extension) l = by_same (Batch task kind extension) (batch_same task kind extension) (batch_next task kind extension)
  next_follows (Release task handle) l = release_next task handle
