-- No two pinned expirations name one block: how that stays so when entries change and when one is set.
use Prim.Native.Nat.{ℕ, zero, suc}
use mathlib.Core.Bool.{true, false, false≢true, not, ◌||◌, and-eq-true_iff}
use mathlib.Core.List.{List, [], ◌∷◌, map}
use mathlib.Core.Path.{◌≡◌, refl, sym, ◌∙◌}
use borrow.Author.Tests.{eqb-true, eqb-false, ne_eqb, not-true}
use lib.Dec.{eqb}
use lib.ListN.{get_or, set}
use Rattle.lists.specs.Tests.{any, all}
use Rattle.lists.proofs.All.{all_imp, all_true, All→none, none_set}
use Rattle.lists.proofs.Cases.{by_test, or_false_parts, refuted}
use Rattle.lists.proofs.Counts.{any_map}
use Rattle.lists.proofs.Implied.{any_none}
use Rattle.record.specs.Codes.{due_of, is_dated, is_pinned_due, free_block}
use Rattle.record.specs.Tables.{BlockEntry, ExpirationEntry}
use Rattle.record.specs.WellFormed.{is_used, is_fit_entry, is_pin_on, is_pinned_once}
use Rattle.record.specs.declared.TaskEntry.{TaskEntry}
use Rattle.record.specs.declared.GlobalTime.{GlobalTime}
use Rattle.record.specs.declared.Due.{Due}
use Rattle.record.specs.declared.Due.TheVariants.{Free, Local, Global, Pinned, Unknown}
use Rattle.steps.proofs.Taken.{fit_used}
use Rattle.ledger.specs.declared.Limits.{Limits}

-- entries that stay on their blocks, and of which none becomes pinned
pub once_map : (f : ExpirationEntry → ExpirationEntry) → ((e : ExpirationEntry) → (f e).block ≡ e.block)
    → ((e : ExpirationEntry) → is_pinned_due (due_of (f e)) ≡ true → is_pinned_due (due_of e) ≡ true) → (xs : List ExpirationEntry)
    → is_pinned_once xs ≡ true → is_pinned_once (map f xs) ≡ true
once_map f same pins [] h = refl
once_map f same pins (e ∷ es) h =
    let (new, rest) = (and-eq-true_iff (not (is_pinned_due (due_of e)) || not (any (is_pin_on e.block) es)) _).0 h in
    by_test (is_pinned_due (due_of (f e)))
    (λ p. rw (p, same e, none e.block (not-true _ (rw (pins e p) at new))) (once_map f same pins es rest))
    (λ p. rw p (once_map f same pins es rest))
  where
    none : (block : ℕ) → any (is_pin_on block) es ≡ false → any (is_pin_on block) (map f es) ≡ false
    none block gone =
        any_map (is_pin_on block) f es
        ∙ any_none (λ (x : ExpirationEntry). is_pin_on block (f x)) (is_pin_on block)
        (λ x p. let (pinned, here) = (and-eq-true_iff (is_pinned_due (due_of (f x))) _).0 p in rw (pins x pinned, rw (same x) at here)) es gone

-- one that is set, where it is not pinned or no pinned one names its block
pub once_set : (xs : List ExpirationEntry) (i : ℕ) (e : ExpirationEntry) → (is_pinned_due (due_of e) ≡ true → any (is_pin_on e.block) xs ≡ false)
    → is_pinned_once xs ≡ true → is_pinned_once (set xs i e) ≡ true
once_set [] i e new h = refl
once_set (x ∷ xs) zero e new h =
    let (_, rest) = (and-eq-true_iff (not (is_pinned_due (due_of x)) || not (any (is_pin_on x.block) xs)) _).0 h in
    by_test (is_pinned_due (due_of e))
    (λ p. rw (p, (or_false_parts (is_pin_on e.block x) _ (new p)).1) rest)
    (λ p. rw p rest)
once_set (x ∷ xs) (suc i) e new h =
    let (first, rest) = (and-eq-true_iff (not (is_pinned_due (due_of x)) || not (any (is_pin_on x.block) xs)) _).0 h in
    let later = once_set xs i e (λ p. (or_false_parts (is_pin_on e.block x) _ (new p)).1) rest in
    by_test (is_pinned_due (due_of x))
    (λ p. rw (p, none_set (is_pin_on x.block) xs i e (apart p) (not-true _ (rw p at first))) later)
    (λ p. rw p later)
  where
    apart : is_pinned_due (due_of x) ≡ true → is_pin_on x.block e ≡ false
    apart p =
        by_test (is_pinned_due (due_of e))
        (λ q.
        let other : eqb x.block e.block ≡ false = rw p at (or_false_parts (is_pin_on e.block x) _ (new q)).0 in
        rw (q, ne_eqb e.block x.block (λ s. eqb-false x.block e.block other (sym s))))
        (λ q. rw q)

-- a pinned one is in use
pub pinned_dated : (due : Due) → is_pinned_due due ≡ true → is_dated due ≡ true
pinned_dated Free p = absurd (false≢true p)
pinned_dated (Local setter at) p = refl
pinned_dated (Global setter at) p = refl
pinned_dated (Pinned due) p = refl
pinned_dated Unknown p = absurd (false≢true p)

-- so none names a block that is not
pub none_pinned : (limits : Limits) (tasks : List TaskEntry) (global : GlobalTime) (blocks : List BlockEntry) (xs : List ExpirationEntry) (place : ℕ)
    → is_used (get_or blocks place free_block) ≡ false → all (is_fit_entry limits tasks global blocks) xs ≡ true → any (is_pin_on place) xs ≡ false
none_pinned limits tasks global blocks xs place free fits =
    All→none _ xs
    (all_imp
    (λ e fit. refuted (is_pin_on place e)
    (λ p.
    let (pinned, here) = (and-eq-true_iff (is_pinned_due (due_of e)) _).0 p in
    let used = fit_used limits _ global _ (due_of e) fit (pinned_dated (due_of e) pinned) in
    false≢true (sym free ∙ rw (eqb-true e.block place here) at used)))
    xs (all_true _ xs fits))
