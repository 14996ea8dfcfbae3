-- Laws of what is ended by a test of place and clock: place by place, group by group, one test after another.
use Rattle.std.proofs.Common.{◌≡◌, ℕ, ◌+◌, ◌<◌, ◌≤◌, Bool, true, false, cond, ◌||◌, List, length, get_or, set, refl, ◌∙◌, arith}
use Rattle.lists.proofs.Cases.{by_test, cond_same, or_false_parts}
use Rattle.endings.specs.Ending.{EndedBy}
use Rattle.expirations.specs.Places.{SomeBetween}
use Rattle.expirations.proofs.Places.{asked_start, asked_turn, asked_join, asked_same, asked_end, changed_none, changed_start, changed_turn, changed_same, changed_join, changed_end}

module _ (p : ℕ → ℕ → Bool) where
  pub ended_start : (a : ℕ) (xs : List ℕ) → EndedBy p a a xs xs false
  ended_start a xs = record { changed = changed_start a xs; asked = asked_start (λ k. p k (get_or xs k 0)) a }

  -- where none passes
  pub ended_none : {a b : ℕ} (xs : List ℕ) → SomeBetween (λ k. p k (get_or xs k 0)) a b false → EndedBy p a b xs xs false
  ended_none xs s = record { changed = changed_none xs s.ordered (λ k l m. rw (s.none refl k l m)); asked = s }

module _ {p : ℕ → ℕ → Bool} {a b : ℕ} {xs ys : List ℕ} {r : Bool} (s : EndedBy p a b xs ys r) where
  -- one more
  pub ended_turn : {v : Bool} {clock : ℕ} → b < length xs → v ≡ p b (get_or ys b 0) → clock ≡ cond v 0 (get_or ys b 0) → EndedBy p a (b + 1) xs (set ys b clock) (r || v)
  ended_turn h e f =
      record {
        changed = changed_turn s.changed (omega (arith, s.changed.size)) (f ∙ rw e refl);
        asked = asked_turn s.asked (e ∙ rw (s.changed.after b (omega arith)));
      }

  -- the places after them
  pub ended_join : {c : ℕ} {zs : List ℕ} {r' : Bool} → EndedBy p b c ys zs r' → EndedBy p a c xs zs (r || r')
  ended_join z =
      record {
        changed = changed_join s.changed z.changed;
        asked = asked_join s.asked (asked_same z.asked (λ k l m. rw (s.changed.after k l)));
      }

  pub ended_end : {c : ℕ} → b ≤ c → c ≤ b → EndedBy p a c xs ys r
  ended_end h k = record { changed = changed_end s.changed h k; asked = asked_end s.asked h k }

  module _ {q : ℕ → ℕ → Bool} where
    -- the same by another test
    pub ended_same : ((k clock : ℕ) → p k clock ≡ q k clock) → EndedBy q a b xs ys r
    ended_same e =
        record { changed = changed_same s.changed (λ k l m. rw (e k (get_or xs k 0))); asked = asked_same s.asked (λ k l m. e k (get_or xs k 0)) }

    -- Another test after it, on the same places: what passes either is ended. What the first has ended is free, and stays so; what it has
    -- left, the second judges as it was.
    pub ended_then : {zs : List ℕ} {r' : Bool} → EndedBy q a b ys zs r' → EndedBy (λ k clock. p k clock || q k clock) a b xs zs (r || r')
    ended_then {r' = r'} z =
        record {
          changed = record {
            ordered = s.changed.ordered;
            size = z.changed.size ∙ s.changed.size;
            before = λ k l. z.changed.before k l ∙ s.changed.before k l;
            inside = λ k l m. rw (z.changed.inside k l m, s.changed.inside k l m) (twice (p k (get_or xs k 0)) (q k) (get_or xs k 0));
            after = λ k l. z.changed.after k l ∙ s.changed.after k l;
          };
          asked = record {
            ordered = s.changed.ordered;
            some = λ e.
                by_test r
                (λ t. let (k, l, m, h) = s.asked.some t in (k, l, m, rw h))
                (λ t.
                let (k, l, m, h) = z.asked.some (rw t at e) in
                (k, l, m, found (p k (get_or xs k 0)) (λ n. rw (s.changed.inside k l m, n) at h)));
            none = λ e k l m.
                let (f, g) = or_false_parts r r' e in
                let first = s.asked.none f k l m in
                rw (first, ← unended k l m first) (z.asked.none g k l m);
          };
        }
      where
        -- what is ended twice
        twice : (b : Bool) (f : ℕ → Bool) (x : ℕ) → cond (f (cond b 0 x)) 0 (cond b 0 x) ≡ cond (b || f x) 0 x
        twice true f x = cond_same (f 0) 0
        twice false f x = refl

        found : (b : Bool) {c : Bool} → (b ≡ false → c ≡ true) → (b || c) ≡ true
        found true f = refl
        found false f = f refl

        unended : (k : ℕ) → a ≤ k → k < b → p k (get_or xs k 0) ≡ false → get_or ys k 0 ≡ get_or xs k 0
        unended k l m e = s.changed.inside k l m ∙ rw e
