-- The text of a plan is read as that plan.
use Rattle.std.specs.Prelude.{Option, Some, None}
use Prim.Native.Nat.{ℕ, zero, suc, ◌+◌, ◌-◌, ◌*◌, ◌/◌, ◌%◌, ◌≤◌, ◌<◌}
use native.Mathlib.Omega.{arith}
use mathlib.Core.Bool.{true, false, ◌&&◌, and-eq-true_iff}
use mathlib.Core.List.{List, [], ◌∷◌, ◌++◌, append_assoc, append-nil}
use mathlib.Core.Path.{◌≡◌, refl, ap, ◌∙◌}
use borrow.Author.Tests.{lt-ltb, le-ltb, le-leb, ltb-false, ltb-true, leb-true, ne_eqb}
use lib.Dec.{eqb, leb, ltb}
use lib.ListN.{length, length-append}
use Rattle.lists.specs.Tests.{all}
use Rattle.lists.proofs.Cases.{by_test}
use Rattle.ledger.specs.Limits.{task_count, is_within}
use Rattle.ledger.specs.declared.plans.Channel.{Channel}
use Rattle.text.specs.Decimals.{numeral_of, numeral, number_line}
use Rattle.plan_text.specs.Texts.{numbers_of, text_of, is_channel, is_plan}
use Rattle.plan_text.specs.Reading.{new_line, read_from, plan_of}
use Rattle.plan_text.specs.declared.Line.{Line}
use Rattle.plan_text.proofs.Numerals.{ten}

abbrev line_at : (ended a b c d : ℕ) → Option ℕ → Line
line_at ended a b c d number = record { ended = ended; first = a; second = b; third = c; fourth = d; number = number }

module _ (plan : List Channel) (n a b c d : ℕ) where
  abbrev empty : List ℕ → Option (List Channel)
  empty text = read_from (line_at n a b c d None) plan text

  abbrev holding : ℕ → List ℕ → Option (List Channel)
  holding v text = read_from (line_at n a b c d (Some v)) plan text

  first_digit : (v : ℕ) (text : List ℕ) → v < 10 → empty ((48 + v) ∷ text) ≡ holding v text
  unfolding read_from
  first_digit v text h =
      let low : 48 + v - 48 ≡ v = omega arith in
      rw (
        ne_eqb (48 + v) 10 (λ q. omega (arith, q)),
        ne_eqb (48 + v) 32 (λ q. omega (arith, q)),
        le-leb 48 (48 + v) (omega arith),
        le-leb (48 + v) 57 (omega (arith, h)),
        low,
      )

  next_digit : (v e : ℕ) (text : List ℕ) → 1 ≤ v → e < 10 → 10 * v + e ≤ 65535
      → holding v ((48 + e) ∷ text) ≡ holding (10 * v + e) text
  unfolding read_from
  next_digit v e text l h k =
      let low : 48 + e - 48 ≡ e = omega arith in
      rw (
        ne_eqb (48 + e) 10 (λ q. omega (arith, q)),
        ne_eqb (48 + e) 32 (λ q. omega (arith, q)),
        le-leb 48 (48 + e) (omega arith),
        le-leb (48 + e) 57 (omega (arith, h)),
        low,
        ne_eqb v 0 (λ q. omega (arith, q, l)),
        le-ltb 65535 (10 * v + e) k,
      )

  read_numeral : (k v : ℕ) (text : List ℕ) → v ≤ 65535 → v < ten (suc k) → empty (numeral_of (suc k) v ++ text) ≡ holding v text
  unfolding ten numeral_of
  read_numeral zero v text h l = rw (lt-ltb v 10 (omega (arith, l))) (first_digit v text (omega (arith, l)))
  read_numeral (suc k) v text h l =
      by_test (ltb v 10)
      (λ e. rw e (first_digit v text (ltb-true v 10 e)))
      (λ e.
      let whole : 10 * (v / 10) + v % 10 ≡ v = omega arith in
      rw (e, append_assoc (numeral_of (suc k) (v / 10)) ((48 + v % 10) ∷ []) text)
      (read_numeral k (v / 10) ((48 + v % 10) ∷ text) (omega (arith, h)) (omega (arith, l))
      ∙ next_digit (v / 10) (v % 10) text (omega (arith, ltb-false v 10 e)) (omega arith) (omega (arith, h))
      ∙ ap (λ (m : ℕ). holding m text) whole))

  read_word : (v : ℕ) (text : List ℕ) → v ≤ 65535 → leb 4 n ≡ false → (ltb n 2 && eqb v 0) ≡ false
      → empty (numeral v ++ (32 ∷ text)) ≡ read_from (line_at (n + 1) b c d v None) plan text
  unfolding ten read_from
  read_word v text h room least = read_numeral 4 v (32 ∷ text) h (omega (arith, h)) ∙ rw (room, least)

-- the numbers of a channel are in their ranges
pub record Ranges (c : Channel) : Type 0 where
  pub period : (1 ≤ c.period) × (c.period ≤ 65535)
  pub reply : (1 ≤ c.reply) × (c.reply ≤ 65535)
  pub silent : c.silent ≤ 65535
  pub wait : c.wait ≤ 65535
  pub extension : c.extension ≤ 30

pub within : (least most figure : ℕ) → is_within least most figure ≡ true → (least ≤ figure) × (figure ≤ most)
within least most figure h =
    let (low, high) = (and-eq-true_iff (leb least figure) (leb figure most)).0 h in
    (leb-true least figure low, leb-true figure most high)

pub ranges : (c : Channel) → is_channel c ≡ true → Ranges c
unfolding is_channel
ranges c h =
    let p = is_within 1 65535 c.period in
    let r = is_within 1 65535 c.reply in
    let s = leb c.silent 65535 in
    let w = leb c.wait 65535 in
    let e = leb c.extension 30 in
    let (h1, he) = (and-eq-true_iff (p && r && s && w) e).0 h in
    let (h2, hw) = (and-eq-true_iff (p && r && s) w).0 h1 in
    let (h3, hs) = (and-eq-true_iff (p && r) s).0 h2 in
    let (hp, hr) = (and-eq-true_iff p r).0 h3 in
    record {
      period = within 1 65535 c.period hp;
      reply = within 1 65535 c.reply hr;
      silent = leb-true c.silent 65535 hs;
      wait = leb-true c.wait 65535 hw;
      extension = leb-true c.extension 30 he;
    }

pub ranged : (c : Channel) → Ranges c → is_channel c ≡ true
unfolding is_channel
ranged c h =
    rw (
      le-leb 1 c.period h.period.0,
      le-leb c.period 65535 h.period.1,
      le-leb 1 c.reply h.reply.0,
      le-leb c.reply 65535 h.reply.1,
      le-leb c.silent 65535 h.silent,
      le-leb c.wait 65535 h.wait,
      le-leb c.extension 30 h.extension,
    )

module _ (plan : List Channel) (room : length plan < 16) where
  read_last : (a b c d e : ℕ) (text : List ℕ) → e ≤ 30
      → read_from (line_at 4 a b c d None) plan (numeral e ++ (10 ∷ text))
      ≡ read_from new_line (plan ++ ((record { period = a; reply = b; silent = c; wait = d; extension = e }) ∷ [])) text
  unfolding ten read_from
  read_last a b c d e text h =
      read_numeral plan 4 a b c d 4 e (10 ∷ text) (omega (arith, h)) (omega (arith, h))
      ∙ rw (le-leb e 30 h, lt-ltb (length plan) 16 room)

  read_line : (c : Channel) (text : List ℕ) → Ranges c
      → read_from new_line plan (number_line (numbers_of c) ++ text) ≡ read_from new_line (plan ++ (c ∷ [])) text
  unfolding number_line
  read_line c text h =
      simp append_assoc
      (read_word plan 0 0 0 0 0 c.period _ h.period.1 refl (ne_eqb c.period 0 (λ q. omega (arith, q, h.period.0)))
      ∙ read_word plan 1 0 0 0 c.period c.reply _ h.reply.1 refl (ne_eqb c.reply 0 (λ q. omega (arith, q, h.reply.0)))
      ∙ read_word plan 2 0 0 c.period c.reply c.silent _ h.silent refl refl
      ∙ read_word plan 3 0 c.period c.reply c.silent c.wait _ h.wait refl refl
      ∙ read_last c.period c.reply c.silent c.wait c.extension text h.extension)

read_plan : (before plan : List Channel) → 1 ≤ length before + length plan → length before + length plan ≤ 16
    → all is_channel plan ≡ true → read_from new_line before (text_of plan) ≡ Some (before ++ plan)
unfolding text_of read_from
read_plan before [] least most each = rw (le-leb 1 (length before) (omega (arith, least)), append-nil before)
read_plan before (c ∷ plan) least most each =
    let (this, others) = (and-eq-true_iff (is_channel c) (all is_channel plan)).0 each in
    let longer : length (before ++ (c ∷ [])) ≡ length before + 1 = length-append before (c ∷ []) in
    read_line before (omega (arith, most)) c (text_of plan) (ranges c this)
    ∙ read_plan (before ++ (c ∷ [])) plan (omega (arith, longer)) (omega (arith, longer, most)) others
    ∙ ap (λ (xs : List Channel). Some xs) (append_assoc before (c ∷ []) plan)

pub complete : (plan : List Channel) → is_plan plan ≡ true → plan_of (text_of plan) ≡ Some plan
unfolding is_plan plan_of
complete plan h =
    let (short, each) = (and-eq-true_iff (is_within 1 task_count (length plan)) (all is_channel plan)).0 h in
    let (least, most) = within 1 task_count (length plan) short in
    read_plan [] plan (omega (arith, least)) (omega (arith, most)) each
