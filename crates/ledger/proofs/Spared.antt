-- With no change from outside 23 is never met: a law over any list of tests, for ledger and heap.
use Prim.Native.Nat.{ℕ}
use mathlib.Core.Bool.{Bool, true, false, true≢false, not, ◌&&◌, and-eq-true_iff, and-true}
use mathlib.Core.List.{List, [], ◌∷◌}
use mathlib.Core.Logic.{◌≢◌}
use mathlib.Core.Option.{Option, none, some}
use mathlib.Core.Path.{◌≡◌, refl, sym, ap, ◌∙◌}
use borrow.Author.Tests.{not-true}
use lib.Dec.{eqb}
use Rattle.lists.specs.Tests.{All}
use Rattle.lists.proofs.All.{all_imp}
use Rattle.lists.proofs.Cases.{by_test}
use Rattle.ledger.specs.Numbers.{number_of}
use Rattle.ledger.specs.Expirations.{Expiration}
use Rattle.ledger.specs.Objects.{Object, Memory, Reply, plain, is_intact}
use Rattle.ledger.specs.Refusals.{Facts, facts_of, Test, shared, own, refusal_of, is_held, standing_tests, verdict, heap_verdict}
use Rattle.ledger.specs.Rules.{tests_of}
use Rattle.ledger.specs.Ledger.{Ledger, Sent, verdict_on, standing_verdict_on, reply, reply_to_request, after_sent, replies, facts_in}
use Rattle.ledger.specs.Remaining.{remaining_life}
use Rattle.ledger.specs.Kept.{Kept}
use Rattle.ledger.specs.declared.Answer.{Answer}
use Rattle.ledger.specs.declared.Answer.TheVariants.{Refused, Lasts}
use Rattle.ledger.specs.declared.Call.{Call}
use Rattle.ledger.specs.declared.Call.TheVariants.{Join, Schedule, Make, Refresh, Read, Write, Batch, Release}
use Rattle.ledger.specs.declared.Event.TheVariants.{Leave, Block, Resume, Tick, View}
use Rattle.ledger.specs.declared.Refusal.{Refusal}
use Rattle.ledger.specs.declared.Refusal.TheVariants.{SumDiffers}
use Rattle.ledger.specs.declared.Request.{Request}
use Rattle.ledger.specs.declared.Request.TheVariants.{Use, Report, Remaining}
use Rattle.ledger.proofs.Demand3.{intact_at, HeapKept, heap_kept}
use Rattle.ledger.proofs.Kept.{kept_request}
use Rattle.ledger.proofs.Passed.{refusal_in, verdict_told, refusal_told}
use Rattle.ledger.specs.Heap.{heap_verdict_on, heap_reply, heap_next, heap_replies, Used}

-- no test that holds gives the refusal with this number
abbrev pub is_spared : ℕ → Facts → List Test → Bool
is_spared n f [] = true
is_spared n f (t ∷ ts) = not (eqb (number_of (refusal_of t)) n && is_held f t) && is_spared n f ts

abbrev pub is_numbered : ℕ → Option Refusal → Bool
is_numbered n none = false
is_numbered n (some r) = eqb (number_of r) n

pub spared : (n : ℕ) (f : Facts) (ts : List Test) → is_spared n f ts ≡ true → is_numbered n (verdict f ts) ≡ false
unfolding verdict
spared n f [] e = refl
spared n f (t ∷ ts) e =
    let (l, ls) = (and-eq-true_iff (not (eqb (number_of (refusal_of t)) n && is_held f t)) (is_spared n f ts)).0 e in
    by_test (is_held f t) (λ h. rw h (not-true _ (rw (h, and-true) at l))) (λ h. rw h (spared n f ts ls))

-- the heap's verdict is that on the shared tests alone, which spare it too
abbrev shared_of : List Test → List Test
shared_of [] = []
shared_of (shared r holds ∷ ts) = shared r holds ∷ shared_of ts
shared_of (own r holds ∷ ts) = shared_of ts

heap_verdict_lem : (f : Facts) (ts : List Test) → heap_verdict f ts ≡ verdict f (shared_of ts)
unfolding heap_verdict verdict
heap_verdict_lem f [] = refl
heap_verdict_lem f (shared r holds ∷ ts) = by_test (holds f) (λ h. rw h) (λ h. rw h (heap_verdict_lem f ts))
heap_verdict_lem f (own r holds ∷ ts) = heap_verdict_lem f ts

spared_shared : (n : ℕ) (f : Facts) (ts : List Test) → is_spared n f ts ≡ true → is_spared n f (shared_of ts) ≡ true
spared_shared n f [] e = refl
spared_shared n f (shared r holds ∷ ts) e =
    let (l, ls) = (and-eq-true_iff (not (eqb (number_of r) n && holds f)) (is_spared n f ts)).0 e in rw l (spared_shared n f ts ls)
spared_shared n f (own r holds ∷ ts) e =
    spared_shared n f ts ((and-eq-true_iff (not (eqb (number_of r) n && holds f)) (is_spared n f ts)).0 e).1

-- 23 is spared where all objects are intact
intact_spared : (m : Memory) (xs : List Expiration) → All (λ (o : Object). is_intact o ≡ true) m.objects
    → (call : Call) (new : List ℕ) → is_spared 23 (facts_of m xs) (tests_of call new) ≡ true
unfolding tests_of
intact_spared m xs i (Join task share) new = refl
intact_spared m xs i (Schedule Leave task) new = refl
intact_spared m xs i (Schedule Block task) new = refl
intact_spared m xs i (Schedule Resume task) new = refl
intact_spared m xs i (Schedule View task) new = refl
intact_spared m xs i (Schedule Tick task) new = refl
intact_spared m xs i (Make task kind extension size prefix) new = refl
intact_spared m xs i (Refresh task kind extension handle) new = refl
intact_spared m xs i (Read task handle) new = rw (intact_at handle m.objects i)
intact_spared m xs i (Write task handle offset) new = rw (intact_at handle m.objects i)
intact_spared m xs i (Batch task kind extension) new = refl
intact_spared m xs i (Release task handle) new = refl

-- as they are from fresh on
never_23 : (L : Ledger) → Kept L → (request : Request) (new : List ℕ) → is_numbered 23 (refusal_in (reply_to_request L request new).answer) ≡ false
unfolding reply
never_23 L k (Use call) new =
    let intact = all_imp (λ o h. h.intact) L.memory.objects k.objects.each in
    rw (refusal_told (verdict_on L call new) call L.memory)
    (spared 23 (facts_in L) (tests_of call new) (intact_spared L.memory L.expirations intact call new))
never_23 L k Report new = refl
never_23 L k (Remaining task handle) new =
    rw (verdict_told (standing_verdict_on L task handle) (plain (Lasts (remaining_life task handle L.memory.clocks L.expirations))) refl)
    (spared 23 (facts_in L) (standing_tests task handle) refl)

pub never_from : (ss : List Sent) (L : Ledger) → Kept L → All (λ (y : Reply). y.answer ≢ Refused SumDiffers) (replies L ss)
unfolding replies
never_from [] L k = tt
never_from (s ∷ ss) L k = (
  λ q. true≢false (sym (ap (λ (a : Answer). is_numbered 23 (refusal_in a)) q) ∙ never_23 L k s.request s.bytes),
  never_from ss (after_sent L s) (kept_request L k s.request s.bytes),
)

-- and so are the heap's
heap_23 : (m : Memory) → HeapKept m → (call : Call) (new : List ℕ) → is_numbered 23 (refusal_in (heap_reply m call new).answer) ≡ false
unfolding heap_reply HeapKept
heap_23 m k call new =
    let ts = tests_of call new in
    let clear = intact_spared m [] (all_imp (λ o h. h.1) m.objects k) call new in
    rw (refusal_told (heap_verdict_on m call new) call m, heap_verdict_lem (facts_of m []) ts)
    (spared 23 (facts_of m []) (shared_of ts) (spared_shared 23 (facts_of m []) ts clear))

pub heap_never : (us : List Used) (m : Memory) → HeapKept m → All (λ (y : Reply). y.answer ≢ Refused SumDiffers) (heap_replies m us)
unfolding heap_replies
heap_never [] m k = tt
heap_never (u ∷ us) m k = (
  λ q. true≢false (sym (ap (λ (a : Answer). is_numbered 23 (refusal_in a)) q) ∙ heap_23 m k u.call u.bytes),
  heap_never us (heap_next m u.call u.bytes) (heap_kept m u.call u.bytes k),
)
