-- What is pinned has a pinned expiration, and but one, after every call as before it.
use Prim.Native.Nat.{ℕ, ◌+◌}
use native.Mathlib.Nat.{le_refl, le_trans}
use mathlib.Core.Bool.{Bool, true, false, not, and-eq-true_iff, and-true, and-false}
use mathlib.Core.List.{List, [], ◌∷◌}
use mathlib.Core.Path.{◌≡◌, refl, subst, sym, ◌∙◌}
use borrow.Author.Tests.{eqb-true, eqb-false, eq-eqb, ne_eqb}
use lib.Dec.{eqb}
use Rattle.lists.specs.Tests.{any, filter, count}
use Rattle.lists.proofs.All.{all_every}
use Rattle.lists.proofs.Cases.{by_test}
use Rattle.lists.proofs.Counts.{any_left, any_map, any_same, count_map, count_same, count_filter}
use Rattle.ledger.specs.Tasks.{Clocks}
use Rattle.ledger.specs.Expirations.{DueTime, by_local, by_global, pinned, Expiration, due_after, is_live, is_set_by, is_pinned, is_of, is_pin_of, put_off, deserted, each_due, still_live, lasting, released, set_on_each}
use Rattle.ledger.specs.Objects.{Memory, pinned_by, unpinned, handles_of}
use Rattle.ledger.specs.Rules.{memory_after, expirations_after}
use Rattle.ledger.specs.Refusals.{is_pinning}
use Rattle.ledger.specs.Kept.{PinsKept, PinnedOnceKept}
use Rattle.ledger.specs.declared.Kind.{Kind}
use Rattle.ledger.specs.declared.Kind.TheVariants.{Local, Global, Pinned}
use Rattle.ledger.specs.declared.Event.{Event}
use Rattle.ledger.specs.declared.Event.TheVariants.{Leave, Block, Resume, Tick, View}
use Rattle.ledger.specs.declared.Call.{Call}
use Rattle.ledger.specs.declared.Call.TheVariants.{Join, Schedule, Make, Refresh, Read, Write, Batch, Release}

abbrev pins : ℕ → List Expiration → Bool
pins handle xs = any (is_pin_of handle) xs

-- an event ends no pinned one: what is put off or deserted is none, nor what is due or the leaver's own
live_pin : (clocks : Clocks) (handle : ℕ) (x : Expiration) → is_pin_of handle x ≡ true → is_live clocks x ≡ true
live_pin clocks handle x e = rw ((and-eq-true_iff (is_of handle x) (is_pinned x.due)).0 e).1

other_pin : (task : ℕ) (due : DueTime) → is_pinned due ≡ true → not (is_set_by task due) ≡ true
other_pin task (by_local setter at) e = cc
other_pin task (by_global setter at) e = refl
other_pin task pinned e = refl

put_pin : (advanced : Bool) (clocks : Clocks) (due : DueTime) → is_pinned (put_off advanced clocks due) ≡ is_pinned due
unfolding put_off
put_pin advanced clocks (by_local setter at) = refl
put_pin advanced clocks (by_global setter at) = refl
put_pin advanced clocks pinned = refl

deserted_pin : (task : ℕ) (due : DueTime) → is_pinned (deserted task due) ≡ is_pinned due
unfolding deserted
deserted_pin task (by_local setter at) = refl
deserted_pin task (by_global setter at) = refl
deserted_pin task pinned = refl

each_pins : (f : DueTime → DueTime) → ((due : DueTime) → is_pinned (f due) ≡ is_pinned due) → (handle : ℕ) (xs : List Expiration)
    → pins handle (each_due f xs) ≡ pins handle xs
each_pins f same handle xs =
    any_map (is_pin_of handle) _ xs ∙ any_same _ (is_pin_of handle) xs (all_every _ (λ x. rw (same x.due)) xs)

live_pins : (advanced : Bool) (clocks : Clocks) (handle : ℕ) (xs : List Expiration) → pins handle (still_live advanced clocks xs) ≡ pins handle xs
live_pins advanced clocks handle xs =
    any_left (is_pin_of handle) (is_live clocks) (live_pin clocks handle) (each_due (put_off advanced clocks) xs) ∙ each_pins (put_off advanced clocks) (put_pin advanced clocks) handle xs

pub lasting_pins : (event : Event) (task : ℕ) (advanced : Bool) (clocks : Clocks) (handle : ℕ) (xs : List Expiration)
    → pins handle (lasting event task advanced clocks xs) ≡ pins handle xs
unfolding lasting
lasting_pins Block task advanced clocks handle xs = live_pins advanced clocks handle xs
lasting_pins Resume task advanced clocks handle xs = refl
lasting_pins View task advanced clocks handle xs = refl
lasting_pins Leave task advanced clocks handle xs =
    let others : List Expiration = filter (λ (x : Expiration). not (is_set_by task x.due)) xs in
    live_pins advanced clocks handle (each_due (deserted task) others) ∙ each_pins (deserted task) (deserted_pin task) handle others
    ∙ any_left (is_pin_of handle) _ (λ x e. other_pin task x.due ((and-eq-true_iff (is_of handle x) (is_pinned x.due)).0 e).1) xs
lasting_pins Tick task advanced clocks handle xs = live_pins advanced clocks handle xs

-- what a filter takes out is not left, and what is another's is
none_after {ℓ} : {A : Type ℓ} (p : A → Bool) (xs : List A) → any p (filter (λ (x : A). not (p x)) xs) ≡ false
none_after p [] = refl
none_after p (x ∷ xs) = by_test (p x) (λ e. rw e (none_after p xs)) (λ e. rw (e, e) (none_after p xs))

pub eqb_swap : (a b : ℕ) → eqb a b ≡ eqb b a
eqb_swap a b = by_test (eqb b a) (λ e. rw (e, eq-eqb a b (sym (eqb-true b a e)))) (λ e. rw (e, ne_eqb a b (λ q. eqb-false b a e (sym q))))

-- a release takes out what it names, of both
released_pins : (handle : ℕ) (handles : List ℕ) (xs : List Expiration) → PinsKept handles xs → PinsKept (unpinned handle handles) (released handle xs)
unfolding released
released_pins handle handles xs k other =
    by_test (eqb other handle)
    (λ e. rw (eqb-true other handle e, none_after (eqb handle) handles, none_after (is_pin_of handle) xs))
    (λ e.
    any_left (eqb other) _ (λ h own. rw (← eqb-true other h own, eqb_swap handle other, e)) handles ∙ k other
    ∙ sym (any_left (is_pin_of other) _ (λ x p. rw (eqb-true x.handle other ((and-eq-true_iff (is_of other x) (is_pinned x.due)).0 p).0, e)) xs))

-- no kind but the pinned one sets a pinned expiration
unpinned_due : (clocks : Clocks) (task extension : ℕ) (kind : Kind) → is_pinned (due_after clocks task kind extension) ≡ is_pinning kind
unfolding due_after
unpinned_due clocks task extension Local = refl
unpinned_due clocks task extension Global = refl
unpinned_due clocks task extension Pinned = refl

made_pins : (kind : Kind) (new : ℕ) (due : DueTime) (handles : List ℕ) (xs : List Expiration) → is_pinned due ≡ is_pinning kind → PinsKept handles xs
    → PinsKept (pinned_by kind new handles) (record { handle = new; due = due } ∷ xs)
made_pins Local new due handles xs e k other = rw (e, and-false) (k other)
made_pins Global new due handles xs e k other = rw (e, and-false) (k other)
made_pins Pinned new due handles xs e k other = rw (e, and-true, k other, eqb_swap other new)

set_pins : (due : DueTime) → is_pinned due ≡ false → (handle : ℕ) (handles : List ℕ) (xs : List Expiration)
    → pins handle (set_on_each due handles xs) ≡ pins handle xs
unfolding set_on_each
set_pins due e handle [] xs = refl
set_pins due e handle (h ∷ hs) xs = set_pins due e handle hs _ ∙ rw (e, and-false)

-- a refresh or batch that is not refused with 21
abbrev pub SetsNoPin : Call → Type 0
SetsNoPin (Join task share) = Unit
SetsNoPin (Schedule event task) = Unit
SetsNoPin (Make task kind extension size prefix) = Unit
SetsNoPin (Refresh task kind extension handle) = is_pinning kind ≡ false
SetsNoPin (Read task handle) = Unit
SetsNoPin (Write task handle offset) = Unit
SetsNoPin (Batch task kind extension) = is_pinning kind ≡ false
SetsNoPin (Release task handle) = Unit

-- a call that is carried out
pub pins_carried : (m : Memory) (xs : List Expiration) (call : Call) (new : List ℕ) → SetsNoPin call → PinsKept m.pinned xs
    → PinsKept (memory_after call new m).pinned (expirations_after call new m xs)
unfolding memory_after expirations_after
pins_carried m xs (Join task share) new s k = k
pins_carried m xs (Schedule event task) new s k = λ handle. k handle ∙ sym (lasting_pins event task _ _ handle xs)
pins_carried m xs (Make task kind extension size prefix) new s k = made_pins kind (m.given + 1) (due_after m.clocks task kind extension) m.pinned xs (unpinned_due m.clocks task extension kind) k
pins_carried m xs (Refresh task kind extension handle) new s k = λ other. rw (unpinned_due m.clocks task extension kind, s, and-false) (k other)
pins_carried m xs (Read task handle) new s k = k
pins_carried m xs (Write task handle offset) new s k = k
pins_carried m xs (Batch task kind extension) new s k =
    λ handle. k handle ∙ sym (set_pins _ (unpinned_due m.clocks task extension kind ∙ s) handle (handles_of new) xs)
pins_carried m xs (Release task handle) new s k = released_pins handle m.pinned xs k

-- no event adds a pinned one: what is put off or deserted is pinned as before, and a filter only takes out
each_count : (f : DueTime → DueTime) → ((due : DueTime) → is_pinned (f due) ≡ is_pinned due) → (handle : ℕ) (xs : List Expiration)
    → count (is_pin_of handle) (each_due f xs) ≡ count (is_pin_of handle) xs
each_count f same handle xs =
    count_map (is_pin_of handle) _ xs ∙ count_same _ (is_pin_of handle) xs (all_every _ (λ x. rw (same x.due)) xs)

each_once : (f : DueTime → DueTime) → ((due : DueTime) → is_pinned (f due) ≡ is_pinned due) → (xs : List Expiration)
    → PinnedOnceKept xs → PinnedOnceKept (each_due f xs)
each_once f same xs k handle = rw (each_count f same handle xs) (k handle)

filter_once : (p : Expiration → Bool) (xs : List Expiration) → PinnedOnceKept xs → PinnedOnceKept (filter p xs)
filter_once p xs k handle = le_trans (count_filter (is_pin_of handle) p xs) (k handle)

live_once : (advanced : Bool) (clocks : Clocks) (xs : List Expiration) → PinnedOnceKept xs → PinnedOnceKept (still_live advanced clocks xs)
live_once advanced clocks xs k = filter_once (is_live clocks) (each_due (put_off advanced clocks) xs) (each_once (put_off advanced clocks) (put_pin advanced clocks) xs k)

lasting_once : (event : Event) (task : ℕ) (advanced : Bool) (clocks : Clocks) (xs : List Expiration) → PinnedOnceKept xs
    → PinnedOnceKept (lasting event task advanced clocks xs)
unfolding lasting
lasting_once Block task advanced clocks xs k = live_once advanced clocks xs k
lasting_once Resume task advanced clocks xs k = k
lasting_once View task advanced clocks xs k = k
lasting_once Leave task advanced clocks xs k =
    let is_others : Expiration → Bool = λ x. not (is_set_by task x.due) in
    live_once advanced clocks (each_due (deserted task) (filter is_others xs)) (each_once (deserted task) (deserted_pin task) (filter is_others xs) (filter_once is_others xs k))
lasting_once Tick task advanced clocks xs k = live_once advanced clocks xs k

-- one is set on an object that has no pinned one
made_once : (x : Expiration) (xs : List Expiration) → count (is_pin_of x.handle) xs ≡ 0 → PinnedOnceKept xs → PinnedOnceKept (x ∷ xs)
made_once x xs none k handle =
    by_test (is_pin_of handle x)
    (λ e.
    let same = eqb-true x.handle handle ((and-eq-true_iff (is_of handle x) (is_pinned x.due)).0 e).0 in
    let no_other : count (is_pin_of handle) xs ≡ 0 = subst (λ (h : ℕ). count (is_pin_of h) xs ≡ 0) same none in
    rw (e, no_other) (le_refl 1))
    (λ e. rw e (k handle))

-- or one that is not pinned
set_once : (due : DueTime) → is_pinned due ≡ false → (handles : List ℕ) (xs : List Expiration) → PinnedOnceKept xs → PinnedOnceKept (set_on_each due handles xs)
unfolding set_on_each
set_once due e [] xs k = k
set_once due e (h ∷ hs) xs k = set_once due e hs (record { handle = h; due = due } ∷ xs) (λ handle. rw (e, and-false) (k handle))

-- a call that is carried out, where no expiration is of the next handle
pub once_carried : (m : Memory) (xs : List Expiration) (call : Call) (new : List ℕ) → SetsNoPin call → count (is_pin_of (m.given + 1)) xs ≡ 0 → PinnedOnceKept xs
    → PinnedOnceKept (expirations_after call new m xs)
unfolding expirations_after released
once_carried m xs (Join task share) new s none k = k
once_carried m xs (Schedule event task) new s none k = lasting_once event task _ _ xs k
once_carried m xs (Make task kind extension size prefix) new s none k =
    made_once (record { handle = m.given + 1; due = due_after m.clocks task kind extension }) xs none k
once_carried m xs (Refresh task kind extension handle) new s none k = λ other. rw (unpinned_due m.clocks task extension kind, s, and-false) (k other)
once_carried m xs (Read task handle) new s none k = k
once_carried m xs (Write task handle offset) new s none k = k
once_carried m xs (Batch task kind extension) new s none k = set_once _ (unpinned_due m.clocks task extension kind ∙ s) (handles_of new) xs k
once_carried m xs (Release task handle) new s none k = filter_once (λ (x : Expiration). not (is_pin_of handle x)) xs k
