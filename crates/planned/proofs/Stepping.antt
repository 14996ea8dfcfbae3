-- A step channel by channel: what holds before each turn, what a turn makes of it, and what is left at the end.
use Prim.Native.Nat.{ℕ, zero, suc, ◌+◌, ◌≤◌, ◌<◌}
use native.Mathlib.Nat.{not-suc-le-zero, le_of_suc-le-suc}
use native.Mathlib.Numerals.{add-one}
use native.Mathlib.Omega.{arith}
use mathlib.Core.List.{List, [], ◌∷◌, ◌++◌, append_assoc, append-nil}
use mathlib.Core.Path.{◌≡◌, refl, sym, ap, subst, ◌∙◌}
use lib.ListN.{length, get_or, set, take, drop, length-set, drop_of_length-le}
use lib.Seq.{drop-cons, take-suc-set, take_all}
use Rattle.lists.specs.Tests.{All}
use Rattle.ledger.specs.Ledger.{Ledger, after_all}
use Rattle.ledger.specs.Plans.{calls_of_turn, step_calls, after_step}
use Rattle.ledger.specs.declared.plans.Track.{Track}
use Rattle.ledger.proofs.Appended.{after_append}
use Rattle.planned.specs.Bounds.{Bounded}
use Rattle.planned.specs.Planned.{ReadsAs, Takes, Steps}
use Rattle.planned.specs.declared.site.Site.{Site}

pub all_at {ℓ} : {A : Type ℓ} (P : A → Type 0) (d : A) (xs : List A) → All P xs → (i : ℕ) → i < length xs → P (get_or xs i d)
all_at P d [] h i l = absurd (not-suc-le-zero l)
all_at P d (x ∷ xs) (h, hs) zero l = h
all_at P d (x ∷ xs) (h, hs) (suc i) l = all_at P d xs hs i (le_of_suc-le-suc l)

drop_stored {ℓ} : {A : Type ℓ} (xs : List A) (i : ℕ) (a : A) → drop (suc i) (set xs i a) ≡ drop (suc i) xs
drop_stored [] i a = refl
drop_stored (x ∷ xs) zero a = refl
drop_stored (x ∷ xs) (suc i) a = drop_stored xs i a

parts {ℓ} : {A : Type ℓ} {x y : A} {us vs : List A} → x ∷ us ≡ y ∷ vs → (x ≡ y) × (us ≡ vs)
parts e = (cc, cc)

-- the first of what is left, and the others, where two lists have the same left
same_left {ℓ} : {A : Type ℓ} (xs ys : List A) (i : ℕ) (d : A) → i < length xs → i < length ys → drop i xs ≡ drop i ys
    → (get_or xs i d ≡ get_or ys i d) × (drop (suc i) xs ≡ drop (suc i) ys)
same_left xs ys i d l m e = parts (sym (drop-cons xs i d l) ∙ e ∙ drop-cons ys i d m)

-- from a ledger on, at the turn of channel i
record Now (step i : ℕ) (ts : List Track) (L₀ : Ledger) (out : List Track) (s : Site) : Type 0 where
  ledger : Ledger
  reads : ReadsAs s ledger
  calls : after_all L₀ (step_calls L₀ step 0 ts) ≡ after_all ledger (step_calls ledger step i (drop i ts))
  tracks : after_step L₀ step 0 ts ≡ take i out ++ after_step ledger step i (drop i ts)

pub record Stepping (step : ℕ) (ts₀ : List Track) (s₀ : Site) (i : ℕ) (out : List Track) (s : Site) : Type 0 where
  pub size : length out ≡ length ts₀
  pub rest : drop i out ≡ drop i ts₀
  so : (L₀ : Ledger) → ReadsAs s₀ L₀ → Now step i ts₀ L₀ out s

pub step_starts : (step : ℕ) (ts : List Track) (s : Site) → Stepping step ts s 0 ts s
step_starts step ts s =
    record { size = refl; rest = refl; so = λ L reads. record { ledger = L; reads = reads; calls = refl; tracks = refl } }

module _ {step : ℕ} {ts₀ : List Track} {s₀ : Site} {i : ℕ} {out : List Track} {s : Site} (g : Stepping step ts₀ s₀ i out s) where
  now_at : (d : Track) → i < length ts₀ → get_or out i d ≡ get_or ts₀ i d
  now_at d l = (same_left out ts₀ i d (omega (arith, l, g.size)) l g.rest).0

  pub bounded_at : {most : ℕ} → All (Bounded most) ts₀ → (d : Track) → i < length ts₀ → Bounded most (get_or out i d)
  bounded_at {most} b d l = subst (Bounded most) (sym (now_at d l)) (all_at (Bounded most) d ts₀ b i l)

  module _ (d : Track) (l : i < length ts₀) {t' : Track} {s' : Site} (b : Takes step i (get_or out i d) s t' s') where
    next_now : (L₀ : Ledger) → Now step i ts₀ L₀ out s → Now step (i + 1) ts₀ L₀ (set out i t') s'
    unfolding step_calls after_step
    next_now L₀ n =
        let t = get_or out i d in
        let left : drop i ts₀ ≡ t ∷ drop (suc i) ts₀ =
        drop-cons ts₀ i d l ∙ ap (λ (x : Track). x ∷ drop (suc i) ts₀) (sym (now_at d l)) in
        let L = n.ledger in
        let calls = calls_of_turn L step i t in
        let M = after_all L calls in
        record {
          ledger = M;
          reads = b.leaves L n.reads;
          calls =
              n.calls ∙ ap (λ (xs : List Track). after_all L (step_calls L step i xs)) left
              ∙ after_append calls (step_calls M step (suc i) (drop (suc i) ts₀)) L
              ∙ ap (λ (k : ℕ). after_all M (step_calls M step k (drop k ts₀))) (sym (add-one i));
          tracks =
              n.tracks ∙ ap (λ (xs : List Track). take i out ++ after_step L step i xs) left
              ∙ ap (λ (x : Track). take i out ++ (x ∷ after_step M step (suc i) (drop (suc i) ts₀))) (sym (b.told L n.reads))
              ∙ sym (append_assoc (take i out) (t' ∷ []) (after_step M step (suc i) (drop (suc i) ts₀)))
              ∙ ap (λ (xs : List Track). xs ++ after_step M step (suc i) (drop (suc i) ts₀)) (sym (take-suc-set out i t' (omega (arith, l, g.size))))
              ∙ ap (λ (k : ℕ). take k (set out i t') ++ after_step M step k (drop k ts₀)) (sym (add-one i));
        }

    pub step_turns : Stepping step ts₀ s₀ (i + 1) (set out i t') s'
    step_turns =
        let (now, later) = same_left out ts₀ i d (omega (arith, l, g.size)) l g.rest in
        record {
          size = rw length-set g.size;
          rest = rw (add-one i) (drop_stored out i t' ∙ later);
          so = λ L₀ reads. next_now L₀ (g.so L₀ reads);
        }

  pub step_ends : length ts₀ ≤ i → Steps step ts₀ s₀ out s
  unfolding step_calls after_step after_all
  step_ends l =
      let none : drop i ts₀ ≡ [] = drop_of_length-le ts₀ {i = i} l in
      record {
        leaves = λ L₀ reads.
            let n = g.so L₀ reads in
            let L = n.ledger in
            subst (ReadsAs s) (sym (n.calls ∙ ap (λ (xs : List Track). after_all L (step_calls L step i xs)) none)) n.reads;
        told = λ L₀ reads.
            let n = g.so L₀ reads in
            sym (n.tracks ∙ ap (λ (xs : List Track). take i out ++ after_step n.ledger step i xs) none ∙ append-nil (take i out)
            ∙ take_all i out (omega (arith, l, g.size)));
      }
