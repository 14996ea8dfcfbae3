-- Demands 2 and 3 for a host: each action follows the ledger, and what is told shows the refusals that only the pool gives.
use Prim.Native.Nat.{ℕ}
use native.Mathlib.Omega.{arith}
use mathlib.Core.Bool.{Bool, true, false, ◌||◌}
use mathlib.Core.List.{List, [], ◌∷◌, map, tail}
use mathlib.Core.Logic.{◌↔◌}
use mathlib.Core.Option.{Option, none, some}
use mathlib.Core.Path.{◌≡◌, refl, ap, ap₂, ◌∙◌}
use borrow.Author.Tests.{le-ltb, eq-eqb}
use lib.Dec.{eqb, ltb}
use lib.ListN.{length}
use Rattle.std.specs.Prelude.{Ok, Err}
use Rattle.lists.specs.Columns.{◌⊛◌}
use Rattle.lists.proofs.Cases.{by_test}
use Rattle.ledger.specs.Limits.{task_count, is_allowed}
use Rattle.ledger.specs.Numbers.{answer_number}
use Rattle.ledger.specs.Tasks.{is_tested}
use Rattle.ledger.specs.Objects.{Memory, Reply, plain, fresh_memory}
use Rattle.ledger.specs.Rules.{reply_to}
use Rattle.ledger.specs.Ledger.{Ledger, fresh, reply_by, next, replies, Frame}
use Rattle.ledger.specs.Heap.{Used, sent, heap_next, heap_replies}
use Rattle.ledger.specs.declared.Answer.TheVariants.{Refused}
use Rattle.ledger.specs.declared.Call.{Call}
use Rattle.ledger.specs.declared.Call.TheVariants.{Join, Schedule, Make, Refresh, Read, Write, Batch, Release}
use Rattle.ledger.specs.declared.Limits.{Limits}
use Rattle.ledger.specs.declared.Refusal.{Refusal}
use Rattle.ledger.proofs.Verdicts.{is_own_verdict}
use Rattle.ledger.proofs.Demand3.{demand3_told}
use Rattle.record.specs.Pools.{is_well_formed, Reads}
use Rattle.record.specs.declared.Pool.{Pool}
use Rattle.record.proofs.FreshReads.{fresh_reads, fresh_well_formed}
use Rattle.record.specs.Reading.{fresh_pool, whole_small, whole_large}
use Rattle.stores.specs.Lengths.{are_whole}
use Rattle.steps.proofs.Staying.{limits_stay}
use Rattle.calls.specs.Served.{IsReplyTo}
use Rattle.by_value.specs.Told.{too_short, Loans, lent_numbers, Told, with_number, told_by}
use Rattle.by_value.specs.Entries.{Renews}
use Rattle.ramsummer.specs.Steps.{Asked, entry, line, frame_asked, bytes_asked, is_heard, tells, Gives, Action, asks, renews, awaits, shares, Acts}
use Rattle.ramsummer.specs.Demands.{HostRuns, reply_in, after_in, told_of, after_action, told_of_all, after_actions, IsPoolOf, HostDemand2, Using, calls, no_call, unheard, action_of, calls_in, heap_told_all, HostDemand3}

-- A well-formed record with whole stores that reads as a ledger;
pub record Held (L : Ledger) (p : Pool) (small large : List ℕ) : Type 0 where
  pub fit : is_well_formed p ≡ true
  pub whole : are_whole p.head.limits small large ≡ true
  pub reads : Reads p small large L

-- or a record that is not well-formed.
abbrev pub BesideBy : Option Ledger → Pool → List ℕ → List ℕ → Type 0
BesideBy (some L) p small large = Held L p small large
BesideBy none p small large = is_well_formed p ≡ false

pub record Beside (beside : Option Ledger) (p : Pool) (small large : List ℕ) : Type 0 where
  pub so : BesideBy beside p small large

-- a pool that was made, with stores as long as its blocks need
pub made : (limits : Limits) → is_allowed limits ≡ true → (small large : List ℕ) → length small ≡ whole_small limits → length large ≡ whole_large limits
    → Held (fresh limits) (fresh_pool limits) small large
unfolding fresh_pool
made limits may small large s l =
    record { fit = fresh_well_formed limits may; whole = rw (eq-eqb _ _ s, eq-eqb _ _ l); reads = fresh_reads limits small large }

-- what a frame makes of it
pub framed : (beside : Option Ledger) (frame : Frame) (bytes : List ℕ) {p p' : Pool} {small large small' large' : List ℕ} {y : Reply} → Beside beside p small large
    → IsReplyTo frame bytes p small large y p' small' large' → (y ≡ reply_in beside frame bytes) × Beside (after_in beside frame bytes) p' small' large'
framed (some L) (Ok (request, count)) bytes b o =
    let h = b.so in (
      o.answers (record { fit = h.fit; whole = λ s. h.whole }) L h.reads,
      record {
        so =
            record {
              fit = o.fits h.fit;
              whole = rw (o.sizes.0, o.sizes.1, limits_stay _ _ o.stays) h.whole;
              reads = o.leaves (record { fit = h.fit; whole = λ s. h.whole }) L h.reads;
            };
      },
    )
framed (some L) (Err why) bytes b r = (r.refused, rw (r.same_pool, r.same_small, r.same_large) b)
framed none (Ok (request, count)) bytes b o = let r = o.unfit b.so in (r.refused, record { so = rw r.same_pool b.so })
framed none (Err why) bytes b r = (r.refused, record { so = rw r.same_pool b.so })

asked_follows : (asked : Asked) (loans : Loans) (beside : Option Ledger) {t : Told} {p p' : Pool} {small large small' large' : List ℕ} → Beside beside p small large
    → Gives asked loans p small large t p' small' large'
    → (t ≡ told_of beside (asks asked loans)) × Beside (after_action beside (asks asked loans)) p' small' large'
asked_follows asked loans beside b g =
    by_test (is_heard asked loans)
    (λ h.
    let (y, r, told) = g.heard h in
    let (same, after) = framed beside (frame_asked asked) (bytes_asked asked) b r in
    rw h (told ∙ ap (λ (z : Reply). tells asked z loans) same, after))
    (λ h.
    let told = g.unheard h in
    let (p, s, l) = g.kept (λ z. absurd (omega (arith, z, ap (λ (u : Told). u.number) told))) in
    rw h (told, rw (p, s, l) b))

-- whatever was there before, a pool that is made is fresh, or its record is not well-formed
renewed : (limits : Limits) (new_small new_large : List ℕ)
    (whole : is_allowed limits ≡ true → (length new_small ≡ whole_small limits) × (length new_large ≡ whole_large limits)) (beside : Option Ledger)
    {t : Told} {p' : Pool} {small' large' : List ℕ} → Renews limits t.number p' × (t.loans ≡ lent_numbers []) × (small' ≡ new_small) × (large' ≡ new_large)
    → (t ≡ told_of beside (renews limits new_small new_large whole)) × Beside (after_action beside (renews limits new_small new_large whole)) p' small' large'
renewed limits new_small new_large whole beside (r, shown, a, c) =
    by_test (is_allowed limits)
    (λ may. rw may (ap₂ with_number (rw may at r.told) shown, record { so = rw (r.left, a, c) (made limits may new_small new_large (whole may).0 (whole may).1) }))
    (λ no. rw no (ap₂ with_number (rw no at r.told) shown, record { so = r.fit ∙ no }))

acts : (d : Action) (beside : Option Ledger) {t : Told} {p p' : Pool} {small large small' large' : List ℕ} → Beside beside p small large
    → Acts d p small large t p' small' large' → (t ≡ told_of beside d) × Beside (after_action beside d) p' small' large'
acts (asks asked loans) beside b g = asked_follows asked loans beside b g
acts (renews limits new_small new_large whole) beside b g = renewed limits new_small new_large whole beside g
acts (awaits old) (some L) {small = small} {large} b g =
    let h = b.so in (
      ap₂ with_number (g.awaited.done h.fit) (rw (← g.awaited.tells h.fit small large L h.reads) g.shown),
      rw (g.same_pool, g.same_small, g.same_large) b,
    )
acts (awaits old) none b g =
    let (n, same) = g.awaited.unfit b.so in (ap₂ with_number n (rw (← same) g.shown), rw (g.same_pool, g.same_small, g.same_large) b)
acts (shares task old) (some L) {p' = p'} {small = small} {large} {small' = small'} {large'} b g =
    let h = b.so in
    let kept : Beside (some L) p' small' large' = rw (g.same_pool, g.same_small, g.same_large) b in
    by_test (ltb task task_count)
    (λ k. rw k (ap₂ with_number (g.share.done h.fit k) (rw (← g.share.tells h.fit k small large L h.reads) g.shown), kept))
    (λ k. let (n, same) = g.share.unknown h.fit k in rw k (ap₂ with_number n (rw (← same) g.shown), kept))
acts (shares task old) none b g =
    let (n, same) = g.share.unfit b.so in (ap₂ with_number n (rw (← same) g.shown), rw (g.same_pool, g.same_small, g.same_large) b)

pub runs_follow : {p p' : Pool} {small small' large large' : List ℕ} {ds : List Action} {ts : List Told} → HostRuns p small large ds ts p' small' large'
    → (beside : Option Ledger) → Beside beside p small large → (ts ≡ told_of_all beside ds) × Beside (after_actions beside ds) p' small' large'
unfolding told_of_all after_actions
runs_follow HostRuns.done beside b = (refl, b)
runs_follow (HostRuns.step {d = d} g rest) beside b =
    let (told, after) = acts d beside b g in
    let (others, left) = runs_follow rest (after_action beside d) after in (ap₂ ◌∷◌ told others, left)

pool_of : (beside : Option Ledger) {p : Pool} {small large : List ℕ} → Beside beside p small large → IsPoolOf beside p small large
pool_of (some L) b = (b.so.fit, b.so.reads)
pool_of none b = b.so

pub host_demand2 : HostDemand2
unfolding told_of_all after_actions
host_demand2 limits small large whole more p small₀ large₀ ts p' small' large' (HostRuns.step g rest) =
    let d = renews limits small large whole in
    let (told, after) = renewed limits small large whole none g in
    let (others, left) = runs_follow rest (after_action none d) after in
    (ap₂ ◌∷◌ told others, pool_of (after_actions (after_action none d) more) left)

-- the calls of a list of uses, each with how it is told
record Calling : Type 0 where
  used : Used
  asked : Asked
  loans : Loans

abbrev used_in : Calling → Used
used_in c = c.used

abbrev tell : Calling → Reply → Told
tell c y = tells c.asked y c.loans

callings : List Using → List Calling
callings [] = []
callings (calls asked loans call count h e ∷ us) = record { used = record { call = call; bytes = bytes_asked asked }; asked = asked; loans = loans } ∷ callings us
callings (no_call asked loans why h e ∷ us) = callings us
callings (unheard asked loans h ∷ us) = callings us

calls_are : (us : List Using) → calls_in us ≡ map used_in (callings us)
unfolding calls_in callings
calls_are [] = refl
calls_are (calls asked loans call count h e ∷ us) = ap (λ rest. record { call = call; bytes = bytes_asked asked } ∷ rest) (calls_are us)
calls_are (no_call asked loans why h e ∷ us) = calls_are us
calls_are (unheard asked loans h ∷ us) = calls_are us

-- what is no call is told alike; so ledger and heap tell the same of all where they do so of the calls
heads : {A : Type 0} {x y : A} {xs ys : List A} → x ∷ xs ≡ y ∷ ys → x ≡ y
heads e = cc

of_calls : (us : List Using) (L : Ledger) (m : Memory)
    → (told_of_all (some L) (map action_of us) ≡ heap_told_all m us)
    ↔ ((map tell (callings us) ⊛ replies L (map sent (map used_in (callings us)))) ≡ (map tell (callings us) ⊛ heap_replies m (map used_in (callings us))))
unfolding told_of_all heap_told_all callings replies heap_replies
of_calls [] L m = (λ e. refl, λ e. refl)
of_calls (calls asked loans call count h e ∷ us) L m =
    let (to, from) = of_calls us (next L call (bytes_asked asked)) (heap_next m call (bytes_asked asked)) in
    rw (h, e) (λ q. ap₂ ◌∷◌ (heads q) (to (ap tail q)), λ q. ap₂ ◌∷◌ (heads q) (from (ap tail q)))
of_calls (no_call asked loans why h e ∷ us) L m =
    let (to, from) = of_calls us L m in rw (h, e) (λ q. to (ap tail q), λ q. ap (λ ts. tells asked (plain (Refused why)) loans ∷ ts) (from q))
of_calls (unheard asked loans h ∷ us) L m =
    let (to, from) = of_calls us L m in rw h (λ q. to (ap tail q), λ q. ap (λ ts. with_number too_short loans ∷ ts) (from q))

-- a refusal of the pool's own is told by its number, and nothing else is told by that number
is_own_told : Told → Bool
is_own_told t = eqb t.number 9 || eqb t.number 10 || eqb t.number 12 || eqb t.number 25 || eqb t.number 26

accepted : (call : Call) (m : Memory) → answer_number (reply_to call m).answer ≡ 0
unfolding reply_to
accepted (Join task share) m = refl
accepted (Schedule event task) m = by_test (is_tested event) (λ e. rw e) (λ e. rw e)
accepted (Make task kind extension size prefix) m = refl
accepted (Refresh task kind extension handle) m = refl
accepted (Read task handle) m = refl
accepted (Write task handle offset) m = refl
accepted (Batch task kind extension) m = refl
accepted (Release task handle) m = refl

not_own : (y : Reply) (loans : Loans) → answer_number y.answer ≡ 0 → is_own_told (told_by y loans) ≡ false
unfolding is_own_told
not_own y loans z = by_test (ltb (length loans.buffer) (length y.bytes)) (λ e. rw e) (λ e. rw (e, z))

shows_by : (asked : Asked) (loans : Loans) (v : Option Refusal) (call : Call) (m : Memory) → is_own_told (tells asked (reply_by v (reply_to call m)) loans) ≡ is_own_verdict v
unfolding is_own_told
shows_by (entry request bytes) loans none call m = not_own (reply_to call m) loans (accepted call m)
shows_by (entry request bytes) loans (some r) call m = rw (le-ltb (length loans.buffer) 0 (omega arith))
shows_by (line text) loans none call m = rw (accepted call m)
shows_by (line text) loans (some r) call m = refl

pub host_demand3 : HostDemand3
host_demand3 limits may small large s l us ts p' small' large' runs =
    let (alike, parted) = of_calls us (fresh limits) (fresh_memory limits) in
    let (in-time, back) = demand3_told used_in tell is_own_told (λ c v call m. shows_by c.asked c.loans v call m) limits (callings us) in
    rw ((runs_follow runs (some (fresh limits)) (record { so = made limits may small large s l })).0, calls_are us) (λ q. in-time (alike q), λ f. parted (back f))
