-- An object whose bytes do not add up: each read and write of it is refused, and every other call leaves it so.
use Prim.Native.Nat.{ℕ, ◌+◌, ◌≤◌}
use native.Mathlib.Nat.{le_refl, le_trans}
use native.Mathlib.Omega.{arith}
use mathlib.Core.Bool.{true, false, not}
use mathlib.Core.List.{List, [], ◌∷◌, ◌++◌, map}
use mathlib.Core.Option.{Option, none, some}
use mathlib.Core.Path.{◌≡◌, refl, sym, ap, ◌∙◌}
use borrow.Author.Tests.{not-false, eqb-false, ne_eqb}
use lib.Dec.{eqb}
use Rattle.lists.specs.Tests.{all}
use Rattle.lists.proofs.Cases.{by_test}
use Rattle.lists.proofs.Counts.{not_any_not}
use Rattle.ledger.specs.Expirations.{Expiration}
use Rattle.ledger.specs.Objects.{Object, Memory, Reply, plain, object_at, is_intact, written, orphaned, makers_after, stands, handles_of}
use Rattle.ledger.specs.Refusals.{Facts, Test, is_held, sum_differs, standing_tests, writing_tests, verdict}
use Rattle.ledger.specs.Rules.{memory_after, expirations_after, tests_of}
use Rattle.ledger.specs.Ledger.{Ledger, facts_in, settled, reply_by, after_by, verdict_on, reply, next, reply_to_request, after_request}
use Rattle.ledger.specs.Noticed.{earlier_tests}
use Rattle.ledger.specs.declared.Answer.TheVariants.{Refused}
use Rattle.ledger.specs.declared.Call.{Call}
use Rattle.ledger.specs.declared.Call.TheVariants.{Join, Schedule, Make, Refresh, Read, Write, Batch, Release}
use Rattle.ledger.specs.declared.Event.{Event}
use Rattle.ledger.specs.declared.Event.TheVariants.{Leave, Block, Resume, Tick, View}
use Rattle.ledger.specs.declared.Refusal.{Refusal}
use Rattle.ledger.specs.declared.Refusal.TheVariants.{SumDiffers}
use Rattle.ledger.specs.declared.Request.{Request}
use Rattle.ledger.specs.declared.Request.TheVariants.{Use, Report, Remaining}
use Rattle.ledger.proofs.HiddenParts.{at_map, not_used, by_use}
use Rattle.ledger.proofs.Passed.{Passed, passed}
use Rattle.ledger.proofs.Standing.{at_standing, sets_on, stood}

-- the earlier of two verdicts counts
abbrev first_of : Option Refusal → Option Refusal → Option Refusal
first_of none later = later
first_of (some r) later = some r

-- the verdict by two lists of tests, where the earlier ones pass before the later ones are made
verdict_append : (f : Facts) (ts us : List Test) (v : Option Refusal) → (verdict f ts ≡ none → verdict f us ≡ v)
    → verdict f (ts ++ us) ≡ first_of (verdict f ts) v
unfolding verdict
verdict_append f [] us v later = later refl
verdict_append f (t ∷ ts) us v later =
    by_test (is_held f t) (λ h. rw h) (λ h. rw h (verdict_append f ts us v (λ e. later (rw h e))))

-- The object with this handle was given and, as long as it stands, its bytes do not add up.
pub record Broken (handle : ℕ) (M : Ledger) : Type 0 where
  pub given : handle ≤ M.memory.given
  pub differs : stands M.expirations handle ≡ true → is_intact (object_at handle M.memory.objects) ≡ false

-- then each read and write of it is refused
module _ (handle : ℕ) (M : Ledger) (b : Broken handle M) where
  abbrev verdict_by : List Test → Option Refusal
  verdict_by tests = verdict (facts_in M) tests

  -- by the last of the tests before 23 it stands
  verdict_broken : (tests us : List Test) → (verdict_by tests ≡ none → not (stands M.expirations handle) ≡ false)
      → verdict_by (tests ++ (sum_differs handle ∷ us)) ≡ first_of (verdict_by tests) (some SumDiffers)
  unfolding verdict
  verdict_broken tests us gone =
      verdict_append (facts_in M) tests (sum_differs handle ∷ us) (some SumDiffers) (λ e. rw (b.differs (not-false _ (gone e))))

  read_stands : (task : ℕ) → verdict_by (standing_tests task handle) ≡ none → not (stands M.expirations handle) ≡ false
  read_stands task e =
      let (exists, (present, (active, (given, (gone, end))))) = passed (facts_in M) (standing_tests task handle) e in gone

  write_stands : (task : ℕ) → verdict_by (writing_tests task handle) ≡ none → not (stands M.expirations handle) ≡ false
  write_stands task e =
      let (exists, (present, (active, (acts, (given, (gone, end)))))) = passed (facts_in M) (writing_tests task handle) e in gone

  refused_reply : (v : Option Refusal) (y : Reply) → reply_by (first_of v (some SumDiffers)) y ≡ reply_by v (plain (Refused SumDiffers))
  refused_reply none y = refl
  refused_reply (some r) y = refl

  refused_after : (v : Option Refusal) (N : Ledger) → after_by (first_of v (some SumDiffers)) N M ≡ M
  refused_after none N = refl
  refused_after (some r) N = refl

  pub use_answered : (request : Request) (new : List ℕ) (tests : List Test) → earlier_tests handle request ≡ some tests
      → reply_to_request M request new ≡ reply_by (verdict_by tests) (plain (Refused SumDiffers))
  unfolding reply tests_of
  use_answered request new tests u =
      by_use handle (λ (ts : List Test) (r : Request). reply_to_request M r new ≡ reply_by (verdict_by ts) (plain (Refused SumDiffers)))
      (λ task. rw (verdict_broken (standing_tests task handle) [] (read_stands task)) (refused_reply (verdict_by (standing_tests task handle)) _))
      (λ task offset. rw (verdict_broken (writing_tests task handle) _ (write_stands task)) (refused_reply (verdict_by (writing_tests task handle)) _))
      tests request u

  pub use_left : (request : Request) (new : List ℕ) (tests : List Test) → earlier_tests handle request ≡ some tests → after_request M request new ≡ M
  unfolding next tests_of
  use_left request new tests u =
      by_use handle (λ (ts : List Test) (r : Request). after_request M r new ≡ M)
      (λ task. rw (verdict_broken (standing_tests task handle) [] (read_stands task)) (refused_after (verdict_by (standing_tests task handle)) _))
      (λ task offset. rw (verdict_broken (writing_tests task handle) _ (write_stands task)) (refused_after (verdict_by (writing_tests task handle)) _))
      tests request u

-- and every other call leaves it so
at_made : (handle : ℕ) (os : List Object) (o : Object) → eqb o.handle handle ≡ false → object_at handle (os ++ (o ∷ [])) ≡ object_at handle os
unfolding object_at
at_made handle [] o d = rw d
at_made handle (p ∷ os) o d = by_test (eqb p.handle handle) (λ e. rw e) (λ e. rw e (at_made handle os o d))

at_written : (handle used offset : ℕ) (new : List ℕ) → eqb used handle ≡ false → (os : List Object)
    → object_at handle (map (written used offset new) os) ≡ object_at handle os
unfolding written
at_written handle used offset new d os =
    at_map handle (written used offset new) (λ o. refl)
    (λ o q. let e : eqb o.handle used ≡ false = rw q (ne_eqb handle used (λ p. eqb-false used handle d (sym p))) in rw e) os

-- what a leave makes of makers leaves bytes and sums
intact_orphaned : (handle task : ℕ) (os : List Object) → is_intact (object_at handle (map (orphaned task) os)) ≡ is_intact (object_at handle os)
unfolding object_at
intact_orphaned handle task [] = refl
intact_orphaned handle task (o ∷ os) = by_test (eqb o.handle handle) (λ e. rw e) (λ e. rw e (intact_orphaned handle task os))

intact_after : (handle : ℕ) (event : Event) (task : ℕ) (os : List Object)
    → is_intact (object_at handle (makers_after event task os)) ≡ is_intact (object_at handle os)
unfolding makers_after
intact_after handle Leave task os = intact_orphaned handle task os
intact_after handle Block task os = refl
intact_after handle Resume task os = refl
intact_after handle View task os = refl
intact_after handle Tick task os = refl

module _ (handle : ℕ) (m : Memory) (xs : List Expiration) (b : Broken handle (record { memory = m; expirations = xs })) where
  stays_broken : (call : Call) (new : List ℕ) → all (stands xs) (sets_on call new) ≡ true → m.given ≤ (memory_after call new m).given
      → is_intact (object_at handle (memory_after call new m).objects) ≡ is_intact (object_at handle m.objects)
      → Broken handle (settled (memory_after call new m) (expirations_after call new m xs))
  stays_broken call new on g same =
      record {
        given = le_trans b.given g;
        differs = λ s.
            rw (at_standing (expirations_after call new m xs) handle (memory_after call new m).objects s, same)
            (b.differs (stood m xs call new on handle b.given s));
      }

  carried_broken : (call : Call) (new : List ℕ) → Passed m xs call new → earlier_tests handle (Use call) ≡ none
      → Broken handle (settled (memory_after call new m) (expirations_after call new m xs))
  unfolding tests_of memory_after
  carried_broken (Join task share) new c d = stays_broken (Join task share) new refl (le_refl _) refl
  carried_broken (Schedule event task) new c d = stays_broken (Schedule event task) new refl (le_refl _) (intact_after handle event task m.objects)
  carried_broken (Make task kind extension size prefix) new c d =
      stays_broken (Make task kind extension size prefix) new refl (omega arith)
      (ap is_intact (at_made handle m.objects _ (ne_eqb (m.given + 1) handle (λ q. omega (arith, q, b.given)))))
  carried_broken (Refresh task kind extension used) new c d =
      let (exists, (present, (active, (acts, (lasts, (short, (given, (gone, (room, end))))))))) = c in
      stays_broken (Refresh task kind extension used) new (rw (not-false (stands xs used) gone)) (le_refl _) refl
  carried_broken (Read task used) new c d = stays_broken (Read task used) new refl (le_refl _) refl
  carried_broken (Write task used offset) new c d =
      stays_broken (Write task used offset) new refl (le_refl _) (ap is_intact (at_written handle used offset new (not_used (eqb used handle) _ d) m.objects))
  carried_broken (Batch task kind extension) new c d =
      let (exists, (present, (active, (acts, (range, (lasts, (short, (given, (gone, (room, end)))))))))) = c in
      stays_broken (Batch task kind extension) new (sym (not_any_not (stands xs) (handles_of new)) ∙ ap not gone) (le_refl _) refl
  carried_broken (Release task used) new c d = stays_broken (Release task used) new refl (le_refl _) refl

pub broken_after : (handle : ℕ) (M : Ledger) → Broken handle M → (request : Request) (new : List ℕ) → earlier_tests handle request ≡ none
    → Broken handle (after_request M request new)
unfolding next
broken_after handle M b Report new d = b
broken_after handle M b (Remaining task used) new d = b
broken_after handle M b (Use call) new d = by (verdict_on M call new) refl
  where
    by : (v : Option Refusal) → verdict_on M call new ≡ v
        → Broken handle (after_by v (settled (memory_after call new M.memory) (expirations_after call new M.memory M.expirations)) M)
    by none e = carried_broken handle M.memory M.expirations b call new (passed (facts_in M) (tests_of call new) e) d
    by (some r) e = b
