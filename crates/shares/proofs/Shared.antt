-- The parts of the test of shares and makers, put together.
use Prim.Native.Nat.{ℕ, suc}
use native.Mathlib.Omega.{arith}
use mathlib.Core.Bool.{Bool, true, false, not, ◌&&◌, ◌||◌, and_assoc, and-false}
use mathlib.Core.List.{List, [], ◌∷◌}
use mathlib.Core.Path.{◌≡◌, refl, sym, ◌∙◌}
use borrow.Author.Tests.{eqb-true, eq-eqb, leb-true, leb-false, lt-ltb, le-ltb}
use lib.Dec.{eqb, leb, ltb}
use lib.ListN.{length, get_or}
use Rattle.lists.specs.Tables.{all_from}
use Rattle.lists.specs.Tests.{all}
use Rattle.lists.proofs.Cases.{by_test}
use Rattle.lists.proofs.Counts.{all_two}
use Rattle.lists.proofs.Implied.{all_from_same}
use Rattle.ledger.specs.Limits.{is_small}
use Rattle.ledger.specs.Shares.{quota_in, blocks_in}
use Rattle.ledger.specs.Tasks.{is_active}
use Rattle.ledger.specs.declared.Limits.{Limits}
use Rattle.ledger.specs.declared.Quota.{Quota}
use Rattle.ledger.specs.declared.Share.{Share}
use Rattle.record.specs.Codes.{state_of, absent_entry}
use Rattle.record.specs.Shares.{is_taken, is_nothing, is_ordered, is_fit_share, is_known, spoken_in, is_within_limit, is_shared_in, is_shared}
use Rattle.record.specs.Tables.{BlockEntry}
use Rattle.record.specs.declared.TaskEntry.{TaskEntry}
use Rattle.shares.specs.Holdings.{Holds}
use Rattle.shares.specs.Quotas.{is_quota_kept, is_clear, is_shared_by}
use Rattle.shares.specs.declared.Holding.{Holding}
use Rattle.shares.proofs.Held.{is_known_in, swapped}

pairs : (a b x y : Bool) → ((a && b) && (x && y)) ≡ ((a && x) && (b && y))
pairs true true x y = refl
pairs true false x y = sym (and-false x)
pairs false b x y = refl

-- two tests with places, made at once
all_from_two {ℓ} : {A : Type ℓ} (p q : ℕ → A → Bool) (i : ℕ) (xs : List A)
    → all_from i (λ (k : ℕ) (x : A). p k x && q k x) xs ≡ (all_from i p xs && all_from i q xs)
all_from_two p q i [] = refl
all_from_two p q i (x ∷ xs) = rw (all_from_two p q (suc i) xs) (pairs (p i x) (q i x) (all_from (suc i) p xs) (all_from (suc i) q xs))

abbrev all_ordered : Bool → List Share → Bool
all_ordered store shares = all_from 0 (λ (k : ℕ) (share : Share). is_ordered (quota_in store share)) shares

-- W20 and W21
clear_so : (quota : Quota) → is_ordered quota ≡ true → is_nothing quota ≡ eqb quota.limit 0
clear_so quota e =
    by_test (eqb quota.limit 0)
    (λ z. rw (z, eq-eqb quota.reserve 0 (omega (arith, leb-true quota.reserve quota.limit e, eqb-true quota.limit 0 z))))
    (λ z. rw (z, and-false))

-- two tests that agree where o and p hold
alike : (a o p : Bool) {n m y z : Bool} → (o ≡ true → n ≡ y) → (p ≡ true → m ≡ z) → ((a || (n && m)) && (o && p)) ≡ ((a || (y && z)) && (o && p))
alike a true true f g = rw (f refl, g refl)
alike a true false {n} {m} {y} {z} f g = and-false (a || (n && m)) ∙ sym (and-false (a || (y && z)))
alike a false p {n} {m} {y} {z} f g = and-false (a || (n && m)) ∙ sym (and-false (a || (y && z)))

fit_share : (tasks : List TaskEntry) (k : ℕ) (share : Share)
    → is_fit_share tasks k share ≡ (is_clear tasks k share && (is_ordered share.small && is_ordered share.large))
fit_share tasks k share =
    alike (is_active (state_of (get_or tasks k absent_entry).state)) (is_ordered share.small) (is_ordered share.large)
    (clear_so share.small) (clear_so share.large)

fit_shares : (tasks : List TaskEntry) (shares : List Share)
    → all_from 0 (is_fit_share tasks) shares ≡ (all_from 0 (is_clear tasks) shares && (all_ordered true shares && all_ordered false shares))
fit_shares tasks shares =
    all_from_same (is_fit_share tasks) _ (length shares) (λ k l share. fit_share tasks k share) 0 shares (omega arith)
    ∙ all_from_two (is_clear tasks) (λ (k : ℕ) (share : Share). is_ordered share.small && is_ordered share.large) 0 shares
    ∙ rw (all_from_two (λ (k : ℕ) (share : Share). is_ordered share.small) (λ (k : ℕ) (share : Share). is_ordered share.large) 0 shares)

-- W22
in_either : (z s n : Bool) → (z || n) ≡ ((not (not z && s) || n) && (not (not z && not s) || n))
in_either true s n = refl
in_either false true true = refl
in_either false true false = refl
in_either false false n = refl

up_to : (m n : ℕ) → leb m n ≡ ltb m (suc n)
up_to m n = by_test (leb m n) (λ e. rw (e, lt-ltb m (suc n) (omega (arith, leb-true m n e)))) (λ e. rw (e, le-ltb m (suc n) (omega (arith, leb-false m n e))))

all_known : (blocks : List BlockEntry) → all is_known blocks ≡ (all (is_known_in true) blocks && all (is_known_in false) blocks)
unfolding is_taken
all_known blocks =
    all_two (is_known_in true) (is_known_in false) is_known
    (λ b. rw (up_to b.maker 16) (in_either (eqb b.handle 0) (is_small b.length) (ltb b.maker 17))) blocks

-- W21, W23 and W24 of one store
shared_in : (store : Bool) (limits : Limits) (shares : List Share) (blocks : List BlockEntry) {holding : Holding} → length shares ≡ 16
    → Holds store shares blocks holding → is_shared_by store limits shares holding ≡ (all_ordered store shares && is_shared_in store limits shares blocks)
unfolding is_shared_in
shared_in store limits shares blocks {holding} n held =
    let within : all_from 0 (is_quota_kept store holding.made) shares ≡ (all_ordered store shares && all_from 0 (is_within_limit store blocks) shares)
    = all_from_same (is_quota_kept store holding.made) _ 16 (λ k l share. rw (held.so k l)) 0 shares (omega arith)
    ∙ all_from_two (λ (k : ℕ) (share : Share). is_ordered (quota_in store share)) (is_within_limit store blocks) 0 shares in
    rw (within, held.spoken)
    (sym (and_assoc (leb (spoken_in store shares blocks) (blocks_in limits store)) _ _)
    ∙ swapped (leb (spoken_in store shares blocks) (blocks_in limits store)) (all_ordered store shares) (all_from 0 (is_within_limit store blocks) shares))

regroup : (a k n o s p t : Bool) → (a && k && n && (o && s) && (p && t)) ≡ (a && (o && p) && (k && n) && s && t)
regroup false k n o s p t = refl
regroup true k n true s true t = refl
regroup true k n true s false t = and-false (k && n && s)
regroup true k n false s p t = rw (and-false (k && n))

-- all of it
pub shared_so : (limits : Limits) (tasks : List TaskEntry) (shares : List Share) (blocks : List BlockEntry) {small large : Holding} → length shares ≡ 16
    → Holds true shares blocks small → Holds false shares blocks large
    → (all_from 0 (is_clear tasks) shares && all (is_known_in true) blocks && all (is_known_in false) blocks && is_shared_by true limits shares small && is_shared_by false limits shares large)
    ≡ is_shared limits tasks shares blocks
unfolding is_shared
shared_so limits tasks shares blocks n s l =
    rw (shared_in true limits shares blocks n s, shared_in false limits shares blocks n l, fit_shares tasks shares, all_known blocks)
    (regroup (all_from 0 (is_clear tasks) shares) _ _ (all_ordered true shares) _ (all_ordered false shares) _)
