-- A byte that is changed from outside is noticed by each read and write of its object, and by nothing else.
use Prim.Native.Nat.{ℕ}
use mathlib.Core.Bool.{true, false, false≢true}
use mathlib.Core.List.{List, [], ◌∷◌, map}
use mathlib.Core.Logic.{◌≢◌}
use mathlib.Core.Option.{Option, none, some}
use mathlib.Core.Path.{◌≡◌, refl, sym, ap, ap₂, ◌∙◌}
use borrow.Author.Tests.{eqb-true, ne_eqb}
use lib.Dec.{eqb}
use lib.ListN.{get_or}
use Rattle.lists.specs.Tests.{any}
use Rattle.lists.proofs.All.{all_left, found}
use Rattle.lists.proofs.Cases.{by_test}
use Rattle.lists.proofs.Sums.{total_differs}
use Rattle.ledger.specs.Objects.{Object, plain, object_at, is_intact, fresh_memory}
use Rattle.ledger.specs.Rules.{memory_after, expirations_after}
use Rattle.ledger.specs.Refusals.{Test, standing_tests, writing_tests, verdict}
use Rattle.ledger.specs.Ledger.{Ledger, facts_in, Sent, fresh, settled, reply_by, after_by, verdict_on, next, reply_to_request, after_request, after_sent, replies, after_all}
use Rattle.ledger.specs.Noticed.{disturbed, Change, changed, earlier_tests, noticed_by, noticed, noticed_in, Notices}
use Rattle.ledger.specs.Numbers.{is_refusal}
use Rattle.ledger.specs.declared.Answer.TheVariants.{Refused}
use Rattle.ledger.specs.declared.Refusal.{Refusal}
use Rattle.ledger.specs.declared.Refusal.TheVariants.{SumDiffers}
use Rattle.ledger.specs.declared.Request.{Request}
use Rattle.ledger.specs.declared.Request.TheVariants.{Use, Report, Remaining}
use Rattle.ledger.proofs.Demand3.{HeapKept}
use Rattle.ledger.proofs.HiddenParts.{hidden_in, unseen_disturbed, unseen_map, answered_alike, left_alike, left_unseen, by_use}
use Rattle.ledger.proofs.Kept.{kept_fresh}
use Rattle.ledger.proofs.Standing.{Standing}
use Rattle.ledger.proofs.Broken.{Broken, use_answered, use_left, broken_after}
use Rattle.ledger.proofs.Spared.{never_from, heap_never}

-- every object stands after any call too: one that is carried out sweeps the others away
standing_after : (L : Ledger) → Standing L → (request : Request) (new : List ℕ) → Standing (after_request L request new)
unfolding next
standing_after L h Report new = h
standing_after L h (Remaining task used) new = h
standing_after L h (Use call) new = by (verdict_on L call new)
  where
    by : (v : Option Refusal) → Standing (after_by v (settled (memory_after call new L.memory) (expirations_after call new L.memory L.expirations)) L)
    by none = all_left _ (memory_after call new L.memory).objects
    by (some r) = h

-- a call is a use of the object, or none
by_use_or : {C : Type 0} (found : Option (List Test)) → ((tests : List Test) → found ≡ some tests → C) → (found ≡ none → C) → C
by_use_or none f g = g refl
by_use_or (some tests) f g = f tests refl

-- The ledger without the change, and the one with it: they are the same but for what is hidden.
record Beside (handle : ℕ) (L M : Ledger) : Type 0 where
  same : hidden_in handle M ≡ hidden_in handle L
  standing : Standing L
  broken : Broken handle M

module _ (handle : ℕ) (L M : Ledger) (k : Beside handle L M) where
  same_given : M.memory.given ≡ L.memory.given
  same_given = ap (λ (N : Ledger). N.memory.given) k.same

  -- and the tests before 23 look at nothing that is
  same_earlier : (request : Request) (tests : List Test) → earlier_tests handle request ≡ some tests
      → verdict (facts_in M) tests ≡ verdict (facts_in L) tests
  unfolding verdict
  same_earlier request tests u =
      by_use handle (λ (ts : List Test) (r : Request). verdict (facts_in M) ts ≡ verdict (facts_in L) ts)
      (λ task. ap (λ (N : Ledger). verdict (facts_in N) (standing_tests task handle)) k.same)
      (λ task offset. ap (λ (N : Ledger). verdict (facts_in N) (writing_tests task handle)) k.same)
      tests request u

  -- one call
  answered : (s : Sent) → reply_to_request M s.request s.bytes ≡ noticed handle L s
  unfolding noticed_by
  answered s =
      by_use_or (earlier_tests handle s.request)
      (λ tests u. rw (u, use_answered handle M k.broken s.request s.bytes tests u, same_earlier s.request tests u))
      (λ u. rw u
      (sym (answered_alike handle M s.request s.bytes u)
      ∙ ap (λ (N : Ledger). reply_to_request N s.request s.bytes) k.same
      ∙ answered_alike handle L s.request s.bytes u))

  beside_after : (s : Sent) → Beside handle (after_sent L s) (after_sent M s)
  beside_after s =
      by_use_or (earlier_tests handle s.request)
      (λ tests u. rw (use_left handle M k.broken s.request s.bytes tests u)
      (record {
        same = k.same ∙ sym (left_unseen handle L k.standing s.request s.bytes tests u);
        standing = standing_after L k.standing s.request s.bytes;
        broken = k.broken;
      }))
      (λ u.
      record {
        same =
            sym (left_alike handle M k.broken.given s.request s.bytes u)
            ∙ ap (λ (N : Ledger). after_request N s.request s.bytes) k.same
            ∙ left_alike handle L (rw (sym same_given) k.broken.given) s.request s.bytes u;
        standing = standing_after L k.standing s.request s.bytes;
        broken = broken_after handle M k.broken s.request s.bytes u;
      })

-- and a list of calls
every_from : (handle : ℕ) (ss : List Sent) (L M : Ledger) → Beside handle L M → replies M ss ≡ noticed_in handle L ss
unfolding replies noticed_in
every_from handle [] L M k = refl
every_from handle (s ∷ ss) L M k =
    ap₂ ◌∷◌ (answered handle L M k s) (every_from handle ss (after_sent L s) (after_sent M s) (beside_after handle L M k s))

-- The change: one byte is another, and so the bytes no longer add up.
at_disturbed : (handle at value : ℕ) (os : List Object) → any (λ (o : Object). eqb o.handle handle) os ≡ true
    → is_intact (object_at handle os) ≡ true → value ≢ get_or (object_at handle os).bytes at 0
    → is_intact (object_at handle (map (disturbed handle at value) os)) ≡ false
unfolding object_at disturbed
at_disturbed handle at value [] l i other = absurd (false≢true l)
at_disturbed handle at value (o ∷ os) l i other =
    by_test (eqb o.handle handle)
    (λ e. rw e (ne_eqb _ _ (λ q. total_differs at value o.bytes (rw e at other) (q ∙ sym (eqb-true _ _ (rw e at i))))))
    (λ e. rw e (at_disturbed handle at value os (rw e at l) (rw e at i) (rw e at other)))

start : (c : Change) → Beside c.handle c.before (changed c)
start c =
    let os = c.before.memory.objects in
    record {
      same = rw (unseen_map c.handle (disturbed c.handle c.at c.value) (unseen_disturbed c.handle c.at c.value) os);
      standing = c.standing;
      broken =
          record {
            given = found (λ (o : Object). eqb o.handle c.handle) (λ o e h. rw (sym (eqb-true o.handle c.handle e)) h) os c.listed c.numbered;
            differs = λ s. at_disturbed c.handle c.at c.value os c.listed c.intact c.other;
          };
    }

-- and after a list of calls they still stand side by side
beside_all : (handle : ℕ) (ss : List Sent) (L M : Ledger) → Beside handle L M → Beside handle (after_all L ss) (after_all M ss)
unfolding after_all
beside_all handle [] L M k = k
beside_all handle (s ∷ ss) L M k = beside_all handle ss (after_sent L s) (after_sent M s) (beside_after handle L M k s)

-- a use of the object is refused, whatever its verdict
refused_by_lem : (v : Option Refusal) → is_refusal (reply_by v (plain (Refused SumDiffers))).answer ≡ true
refused_by_lem none = refl
refused_by_lem (some r) = refl

pub notices : Notices
unfolding noticed_by fresh_memory HeapKept
notices =
    record {
      every = λ c ss. every_from c.handle ss c.before (changed c) (start c);
      refused = λ c ss s tests u.
          let k = beside_all c.handle ss c.before (changed c) (start c) in
          rw (answered c.handle _ _ k s, u) (let L = after_all c.before ss in refused_by_lem (verdict (facts_in L) tests));
      others = λ c ss s u.
          let k = beside_all c.handle ss c.before (changed c) (start c) in
          rw (answered c.handle _ _ k s, u);
      never = λ limits ss. never_from ss (fresh limits) (kept_fresh limits);
      never_heap = λ limits us. heap_never us (fresh_memory limits) tt;
    }
