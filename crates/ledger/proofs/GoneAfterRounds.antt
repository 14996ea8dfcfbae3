-- Order 7, the second claim: no call puts a global expiration further ahead than it was, and a round in which its setter never waits brings
-- it one nearer.
use Prim.Native.Nat.{ℕ, ◌+◌, ◌-◌, ◌≤◌, ◌<◌}
use native.Mathlib.Omega.{arith}
use mathlib.Core.Bool.{Bool, true, false, cond, not, ◌&&◌, ◌||◌, and-eq-true_iff}
use mathlib.Core.List.{List, [], ◌∷◌, ◌++◌}
use mathlib.Core.Path.{◌≡◌, refl, sym, ap, subst, ◌∙◌}
use borrow.Author.Tests.{ltb-true, not-true}
use lib.Dec.{ltb}
use lib.ListN.{length}
use Rattle.lists.specs.Tests.{all, filter, All}
use Rattle.lists.proofs.All.{all_imp, all_both, all_filter, all_map, all_true}
use Rattle.lists.proofs.Cases.{and₃}
use Rattle.ledger.specs.Tasks.{Clocks, advances, clocks_after, entered}
use Rattle.ledger.specs.Expirations.{DueTime, by_local, by_global, pinned, Expiration, due_after, remaining, is_pinned, is_live, is_set_by, is_pin_of, put_off, deserted, each_due, still_live, lasting, released}
use Rattle.ledger.specs.Ledger.{Ledger, Sent, after_sent, after_all}
use Rattle.ledger.specs.Awaited.{global_of}
use Rattle.ledger.specs.Kept.{Kept}
use Rattle.ledger.specs.Outlives.{Move, neither, joins, happens, releases, move_in, left_by, left_in, followed, setter_waits, never_waits, is_round, Stretch, calls_of, are_rounds, when_set, GoneAfterRounds}
use Rattle.ledger.specs.declared.Event.{Event}
use Rattle.ledger.specs.declared.Event.TheVariants.{Leave, Block, Resume, Tick, View}
use Rattle.ledger.proofs.Kept.{kept_after}
use Rattle.ledger.proofs.Following.{clocks_by, clocks_moved, left_none}
use Rattle.ledger.proofs.Setting.{kept_set, set_now}
use Rattle.ledger.proofs.Rounds.{round_advances}

-- a global one that is due at this time at the latest
abbrev Latest : ℕ → DueTime → Type 0
Latest most (by_local setter at) = ⊥
Latest most (by_global setter at) = at ≤ most
Latest most pinned = ⊥

-- and is still ahead now
abbrev Ends : ℕ → ℕ → DueTime → Type 0
Ends now most (by_local setter at) = ⊥
Ends now most (by_global setter at) = (now < at) × (at ≤ most)
Ends now most pinned = ⊥

ends_latest : (now most : ℕ) (due : DueTime) → Ends now most due → Latest most due
ends_latest now most (by_local setter at) h = h
ends_latest now most (by_global setter at) (ahead, latest) = latest
ends_latest now most pinned h = h

-- the latest time of one that is left by an event: one later where an advance found its setter waiting
abbrev latest_by : Bool → Clocks → ℕ → DueTime → ℕ
latest_by advanced clocks most due = most + cond (advanced && setter_waits clocks due) 1 0

put_latest : (advanced : Bool) (clocks : Clocks) (most : ℕ) (due : DueTime) → Latest most due
    → Latest (latest_by advanced clocks most (put_off advanced clocks due)) (put_off advanced clocks due)
unfolding put_off
put_latest advanced clocks most (by_local setter at) h = h
put_latest advanced clocks most (by_global setter at) h = omega arith
put_latest advanced clocks most pinned h = h

deserted_latest : (task most : ℕ) (due : DueTime) → Latest most due → Latest most (deserted task due)
unfolding deserted
deserted_latest task most (by_local setter at) h = h
deserted_latest task most (by_global setter at) h = h
deserted_latest task most pinned h = h

live_ends : (clocks : Clocks) (most : ℕ) (due : DueTime) → (is_pinned due || ltb 0 (remaining clocks due)) ≡ true → Latest most due → Ends clocks.global most due
unfolding remaining
live_ends clocks most (by_local setter at) e h = h
live_ends clocks most (by_global setter at) e h = (omega (arith, ltb-true 0 (at - clocks.global) e), h)
live_ends clocks most pinned e h = h

same_ends : (now most : ℕ) (due : DueTime) → Ends now most due → Ends now (most + 0) due
same_ends now most (by_local setter at) h = h
same_ends now most (by_global setter at) h = omega (arith, h)
same_ends now most pinned h = h

-- the ones that an advance test leaves
still_ends : (advanced : Bool) (clocks : Clocks) (most : ℕ) (xs : List Expiration) → All (λ (x : Expiration). Latest most x.due) xs
    → All (λ (x : Expiration). Ends clocks.global (latest_by advanced clocks most x.due) x.due) (still_live advanced clocks xs)
still_ends advanced clocks most xs h =
    all_filter {P = λ (x : Expiration). Latest (latest_by advanced clocks most x.due) x.due} (is_live clocks) (λ x e k. live_ends clocks (latest_by advanced clocks most x.due) x.due e k)
    (each_due (put_off advanced clocks) xs)
    (all_map _ _ xs (all_imp (λ x k. put_latest advanced clocks most x.due k) xs h))

lasting_ends : (clocks : Clocks) (task most : ℕ) (event : Event) (xs : List Expiration) → All (λ (x : Expiration). Ends clocks.global most x.due) xs
    → All (λ (x : Expiration). Ends (clocks_after event task clocks).global
    (latest_by (advances event task clocks) (clocks_after event task clocks) most x.due) x.due)
    (lasting event task (advances event task clocks) (clocks_after event task clocks) xs)
unfolding lasting clocks_after advances
lasting_ends clocks task most Resume xs h = all_imp (λ x k. same_ends clocks.global most x.due k) xs h
lasting_ends clocks task most View xs h = all_imp (λ x k. same_ends clocks.global most x.due k) xs h
lasting_ends clocks task most Block xs h = still_ends _ _ most xs (all_imp (λ x k. ends_latest clocks.global most x.due k) xs h)
lasting_ends clocks task most Tick xs h = still_ends _ _ most xs (all_imp (λ x k. ends_latest clocks.global most x.due k) xs h)
lasting_ends clocks task most Leave xs h =
    let others : Expiration → Bool = λ x. not (is_set_by task x.due) in
    still_ends _ _ most (each_due (deserted task) (filter others xs))
    (all_map _ _ (filter others xs)
    (all_filter others (λ x e k. deserted_latest task most x.due (ends_latest clocks.global most x.due k)) xs h))

-- one call, by its event
abbrev advanced_by : Clocks → Move → Bool
advanced_by clocks neither = false
advanced_by clocks (joins task share) = false
advanced_by clocks (happens event task) = advances event task clocks
advanced_by clocks (releases handle) = false

abbrev AllEnd : ℕ → ℕ → List Expiration → Type 0
AllEnd now most xs = All (λ (x : Expiration). Ends now most x.due) xs

left_ends : (clocks : Clocks) (most : ℕ) (v : Move) (xs : List Expiration) → AllEnd clocks.global most xs
    → All (λ (x : Expiration). Ends (clocks_by clocks v).global (latest_by (advanced_by clocks v) (clocks_by clocks v) most x.due) x.due) (left_by clocks v xs)
unfolding released entered
left_ends clocks most neither xs h = all_imp (λ x k. same_ends clocks.global most x.due k) xs h
left_ends clocks most (joins task share) xs h = all_imp (λ x k. same_ends clocks.global most x.due k) xs h
left_ends clocks most (happens event task) xs h = lasting_ends clocks task most event xs h
left_ends clocks most (releases handle) xs h = all_filter (λ (x : Expiration). not (is_pin_of handle x)) (λ x e k. same_ends clocks.global most x.due k) xs h

ends_later : (now most later : ℕ) (due : DueTime) → most ≤ later → Ends now most due → Ends now later due
ends_later now most later (by_local setter at) l h = h
ends_later now most later (by_global setter at) l h = omega (arith, h)
ends_later now most later pinned l h = h

-- no call puts them further ahead,
no_further : (clocks : Clocks) (ahead : ℕ) (v : Move) (held : Bool)
    → clocks.global + ahead + cond (advanced_by clocks v && held) 1 0 ≤ (clocks_by clocks v).global + ahead
unfolding clocks_after entered
no_further clocks ahead neither held = omega arith
no_further clocks ahead (releases handle) held = omega arith
no_further clocks ahead (joins task share) held = omega arith
no_further clocks ahead (happens event task) held = by (advances event task clocks) held
  where
    by : (advanced waits : Bool) → clocks.global + ahead + cond (advanced && waits) 1 0 ≤ cond advanced (clocks.global + 1) clocks.global + ahead
    by true true = omega arith
    by true false = omega arith
    by false waits = omega arith

-- and one after which no setter waits puts none off
not_later : (advanced held : Bool) (most : ℕ) → not held ≡ true → most + cond (advanced && held) 1 0 ≤ most
not_later true held most e = rw (not-true held e) (omega arith)
not_later false held most e = omega arith

-- over every list
ends_on : (ahead : ℕ) (ss : List Sent) (L : Ledger) (xs : List Expiration) → AllEnd (global_of L) (global_of L + ahead) xs
    → AllEnd (global_of (after_all L ss)) (global_of (after_all L ss) + ahead) (followed L ss xs)
unfolding after_all followed
ends_on ahead [] L xs h = h
ends_on ahead (s ∷ ss) L xs h =
    let clocks = L.memory.clocks in
    let v = move_in L s.request s.bytes in
    ends_on ahead ss (after_sent L s) (left_by clocks v xs)
    (subst (λ (c : Clocks). AllEnd c.global (c.global + ahead) (left_by clocks v xs)) (sym (clocks_moved L s.request s.bytes))
    (all_imp (λ x k. ends_later (clocks_by clocks v).global _ _ x.due (no_further clocks ahead v (setter_waits (clocks_by clocks v) x.due)) k) (left_by clocks v xs)
    (left_ends clocks (global_of L + ahead) v xs h)))

ends_free : (most : ℕ) (ss : List Sent) (L : Ledger) (xs : List Expiration) → never_waits L ss xs ≡ true → AllEnd (global_of L) most xs
    → AllEnd (global_of (after_all L ss)) most (followed L ss xs)
unfolding after_all followed never_waits
ends_free most [] L xs e h = h
ends_free most (s ∷ ss) L xs e h =
    let clocks = L.memory.clocks in
    let v = move_in L s.request s.bytes in
    let moved = clocks_moved L s.request s.bytes in
    let left = left_by clocks v xs in
    let (now, later) = (and-eq-true_iff (all (λ (x : Expiration). not (setter_waits (after_sent L s).memory.clocks x.due)) left) (never_waits (after_sent L s) ss left)).0 e in
    let free = subst (λ (c : Clocks). All (λ (x : Expiration). not (setter_waits c x.due) ≡ true) left) moved (all_true _ left now) in
    ends_free most ss (after_sent L s) left later
    (subst (λ (c : Clocks). AllEnd c.global most left) (sym moved)
    (all_both (λ x k f. ends_later (clocks_by clocks v).global _ most x.due (not_later (advanced_by clocks v) (setter_waits (clocks_by clocks v) x.due) most f) k) left
    (left_ends clocks most v xs h) free))

-- none is left of none, and of two lists one after the other the second goes on where the first ended
followed_none : (ss : List Sent) (L : Ledger) → followed L ss [] ≡ []
unfolding followed
followed_none [] L = refl
followed_none (s ∷ ss) L = ap (followed (after_sent L s) ss) (left_none L.memory.clocks (move_in L s.request s.bytes)) ∙ followed_none ss (after_sent L s)

followed_append : (ss more : List Sent) (L : Ledger) (xs : List Expiration) → followed L (ss ++ more) xs ≡ followed (after_all L ss) more (followed L ss xs)
unfolding followed after_all
followed_append [] more L xs = refl
followed_append (s ∷ ss) more L xs = followed_append ss more (after_sent L s) (left_in L s.request s.bytes xs)

-- what is still ahead, and due now at the latest, is nothing
over : (now : ℕ) (xs : List Expiration) → AllEnd now (now + 0) xs → xs ≡ []
over now [] h = refl
over now (x ∷ xs) (h, hs) = absurd (never x.due h)
  where
    never : (due : DueTime) → Ends now (now + 0) due → ⊥
    never (by_local setter at) k = k
    never (by_global setter at) k = omega (arith, k)
    never pinned k = k

gone : (rs : List Stretch) (rest : List Sent) (L : Ledger) (xs : List Expiration) → Kept L → AllEnd (global_of L) (global_of L + length rs) xs → are_rounds L xs rs ≡ true
    → followed L (calls_of rs rest) xs ≡ []
unfolding calls_of are_rounds
gone [] rest L xs k h e = ap (followed L rest) (over (global_of L) xs h) ∙ followed_none rest L
gone (r ∷ rs) rest L xs k h e =
    let start = after_all L r.between in
    let end = after_all start r.round in
    let left = followed L r.between xs in
    let last = followed start r.round left in
    let (round, free, more) = and₃ (is_round start r.round) (never_waits start r.round left) (are_rounds end last rs) e in
    let kept = kept_after r.round start (kept_after r.between L k) in
    let nearer = round_advances start r.round kept round in
    followed_append r.between (r.round ++ calls_of rs rest) L xs ∙ followed_append r.round (calls_of rs rest) start left
    ∙ gone rs rest end last kept
    (all_imp (λ x u. ends_later (global_of end) (global_of start + length (r ∷ rs)) (global_of end + length rs) x.due (omega (arith, nearer)) u) last
    (ends_free _ r.round start left free (ends_on (length (r ∷ rs)) r.between L xs h)))
    more

pub gone_after_rounds : GoneAfterRounds
unfolding due_after
gone_after_rounds d rs rest n e =
    let M = when_set d in
    let now : Ends (global_of M) (global_of M + length rs) d.expiration.due = rw (set_now d).1 (omega (arith, n)) in
    gone rs rest M (d.expiration ∷ []) (kept_set d) (now, tt) e
