-- A run: the channels join one after the other, and then a step leads to the next.
use Prim.Native.Nat.{ℕ, zero, suc, ◌+◌, ◌≤◌, ◌<◌}
use native.Mathlib.Nat.{not-suc-le-zero, le_of_suc-le-suc}
use native.Mathlib.Numerals.{add-one}
use native.Mathlib.Omega.{arith}
use mathlib.Core.Bool.{true, and-eq-true_iff}
use mathlib.Core.List.{List, [], ◌∷◌, ◌++◌, map}
use mathlib.Core.Path.{◌≡◌, refl, sym, ap, subst, ◌∙◌}
use lib.ListN.{length, get_or, take, drop}
use lib.Seq.{take-suc, take_all, take-length, take-append-le}
use Rattle.std.specs.List.{refill}
use Rattle.lists.specs.Tests.{all, All}
use Rattle.lists.proofs.All.{all_imp}
use Rattle.ledger.specs.Limits.{task_count, is_within, standard}
use Rattle.ledger.specs.Ledger.{Ledger, Sent, fresh, after_all}
use Rattle.ledger.specs.Rows.{join_with}
use Rattle.ledger.specs.Plans.{plan_share, joins, ready, after_step, stepped, run}
use Rattle.ledger.specs.declared.Answer.{Answer}
use Rattle.ledger.specs.declared.Call.TheVariants.{Join}
use Rattle.ledger.specs.declared.plans.Channel.{Channel}
use Rattle.ledger.specs.declared.plans.Track.{Track}
use Rattle.ledger.proofs.Appended.{after_append}
use Rattle.plan_text.specs.Texts.{is_channel, is_plan}
use Rattle.plan_text.proofs.Complete.{within}
use Rattle.planned.specs.Bounds.{step_count, Bounded}
use Rattle.planned.specs.Planned.{ReadsAs, Sends, Steps}
use Rattle.planned.specs.declared.site.Site.{Site}
use Rattle.planned.proofs.Bounding.{wider, run_bounded}

-- all is written over
pub refilled : {A : Type 0} (xs ys : List A) → length ys ≡ length xs → refill (length xs) xs ys ≡ ys
refilled xs ys e = rw (sym e) (take-append-le (length ys) ys (drop (length ys) xs) (omega arith) ∙ take-length ys)

-- a plan has a channel for each task at most
pub plan_length : (plan : List Channel) → is_plan plan ≡ true → length plan ≤ 16
unfolding is_plan
plan_length plan e =
    (within 1 task_count (length plan) ((and-eq-true_iff (is_within 1 task_count (length plan)) (all is_channel plan)).0 e).0).1

-- one more
joins_more : (plan : List Channel) (task i : ℕ) → i < length plan
    → joins task (take (suc i) plan) ≡ joins task (take i plan) ++ (join_with (task + i) plan_share ∷ [])
unfolding joins
joins_more [] task i l = absurd (not-suc-le-zero l)
joins_more (c ∷ plan) task zero l = ap (λ (k : ℕ). join_with k plan_share ∷ []) (omega arith)
joins_more (c ∷ plan) task (suc i) l =
    ap (λ (ss : List Sent). join_with task plan_share ∷ ss)
    (joins_more plan (suc task) i (le_of_suc-le-suc l)
    ∙ ap (λ (k : ℕ). joins (suc task) (take i plan) ++ (join_with k plan_share ∷ [])) (omega arith))

-- from any ledger on
pub joins_next : (L : Ledger) (plan : List Channel) (i : ℕ) → i < length plan → (s : Site) → {s' : Site} {answer : Answer}
    → ReadsAs s (after_all L (joins 0 (take i plan))) → Sends (Join i plan_share) [] s answer s'
    → ReadsAs s' (after_all L (joins 0 (take (i + 1) plan)))
unfolding after_all
joins_next L plan i l s {s' = s'} reads o =
    let more : joins 0 (take (i + 1) plan) ≡ joins 0 (take i plan) ++ (join_with i plan_share ∷ []) =
    ap (λ (k : ℕ). joins 0 (take k plan)) (add-one i) ∙ joins_more plan 0 i l
    ∙ ap (λ (k : ℕ). joins 0 (take i plan) ++ (join_with k plan_share ∷ [])) (omega arith) in
    subst (ReadsAs s')
    (sym (ap (after_all L) more ∙ after_append (joins 0 (take i plan)) (join_with i plan_share ∷ []) L))
    (o.leaves _ reads)

map_snoc {ℓ} : {A B : Type ℓ} (f : A → B) (xs : List A) (a : A) → map f (xs ++ (a ∷ [])) ≡ map f xs ++ (f a ∷ [])
map_snoc f [] a = refl
map_snoc f (x ∷ xs) a = ap (λ ys. f x ∷ ys) (map_snoc f xs a)

pub ready_next : (plan : List Channel) (i : ℕ) (d : Channel) → i < length plan
    → map ready (take i plan) ++ (ready (get_or plan i d) ∷ []) ≡ map ready (take (i + 1) plan)
ready_next plan i d l =
    sym (ap (λ (k : ℕ). map ready (take k plan)) (add-one i) ∙ ap (map ready) (take-suc plan i d l)
    ∙ map_snoc ready (take i plan) (get_or plan i d))

pub joined : (plan : List Channel) (i : ℕ) → length plan ≤ i → (s : Site)
    → ReadsAs s (after_all (fresh standard) (joins 0 (take i plan))) → ReadsAs s (run standard plan 0).ledger
unfolding run
joined plan i l s reads = subst (λ (p : List Channel). ReadsAs s (after_all (fresh standard) (joins 0 p))) (take_all i plan l) reads

pub all_ready : (plan : List Channel) (i : ℕ) → length plan ≤ i → map ready (take i plan) ≡ (run standard plan 0).tracks
unfolding run
all_ready plan i l = ap (map ready) (take_all i plan l)

module _ (plan : List Channel) (step : ℕ) where
  pub still_bounded : is_plan plan ≡ true → step ≤ step_count → All (Bounded step_count) (run standard plan step).tracks
  still_bounded e l = all_imp (wider l) (run standard plan step).tracks (run_bounded standard plan e step)

  module _ {ts ts' : List Track} {s s' : Site} (same : ts ≡ (run standard plan step).tracks) (o : Steps step ts s ts' s')
      (reads : ReadsAs s (run standard plan step).ledger) where
    pub reads_next : ReadsAs s' (run standard plan (step + 1)).ledger
    unfolding run stepped
    reads_next = rw (add-one step) (rw same at (o.leaves _ reads))

    pub tracks_next : ts' ≡ (run standard plan (step + 1)).tracks
    unfolding run stepped
    tracks_next = rw (add-one step) (o.told _ reads ∙ ap (after_step (run standard plan step).ledger step 0) same)
