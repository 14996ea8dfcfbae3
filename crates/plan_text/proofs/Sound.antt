-- What is read as a plan is the text of that plan: what has been read so far is the text of the lines that have ended and of the one under
-- way.
use Rattle.std.specs.Prelude.{Option, Some, None, is_none, option_map, option_and_then}
use Prim.Native.Nat.{ℕ, zero, suc, ◌+◌, ◌-◌, ◌*◌, ◌≤◌, ◌<◌}
use native.Mathlib.Numerals.{add-one}
use native.Mathlib.Omega.{arith}
use mathlib.Core.Bool.{Bool, true, false, cond, ◌&&◌, ◌||◌, and-eq-true_iff}
use mathlib.Core.List.{List, [], ◌∷◌, ◌++◌, append_assoc, append-nil}
use mathlib.Core.Path.{◌≡◌, refl, sym, ap, ◌∙◌}
use borrow.Author.Tests.{le-leb, ltb-true, leb-true, leb-false, ltb-false, eqb-true, eqb-false}
use lib.Dec.{eqb, leb, ltb}
use lib.ListN.{length, length-append}
use Rattle.lists.specs.Tests.{all}
use Rattle.lists.proofs.Cases.{by_test, or_false_parts}
use Rattle.ledger.specs.Limits.{task_count}
use Rattle.ledger.specs.declared.plans.Channel.{Channel}
use Rattle.text.specs.Decimals.{numeral, number_line}
use Rattle.plan_text.specs.Texts.{numbers_of, text_of, is_channel, is_plan}
use Rattle.plan_text.specs.Reading.{new_line, number_with, with_digit, number_ended, with_blank, channel_with, channel_of, is_digit, moved, with_channel, read_from, plan_of}
use Rattle.plan_text.specs.declared.Line.{Line}
use Rattle.plan_text.proofs.Numerals.{numeral_snoc, numeral_digit}
use Rattle.plan_text.proofs.Complete.{ranged}

-- what a value that is there came from
mapped : {T U : Type 0} (f : T → U) (o : Option T) (y : U) → option_map f o ≡ Some y → (x : T) × (o ≡ Some x) × (f x ≡ y)
mapped f None y e = cc
mapped f (Some x) y e = (x, refl, cc)

chained : {T U : Type 0} (f : T → Option U) (o : Option T) (y : U) → option_and_then f o ≡ Some y
    → (x : T) × (o ≡ Some x) × (f x ≡ Some y)
chained f None y e = cc
chained f (Some x) y e = (x, refl, e)

where_true : {T : Type 0} (b : Bool) (x y : T) → cond b (Some x) None ≡ Some y → (b ≡ true) × (x ≡ y)
where_true true x y e = (refl, cc)
where_true false x y e = cc

where_false : {T : Type 0} (b : Bool) (x y : T) → cond b None (Some x) ≡ Some y → (b ≡ false) × (x ≡ y)
where_false true x y e = cc
where_false false x y e = (refl, cc)

-- the numbers that have ended, each with its blank
abbrev finished : (ended a b c d : ℕ) → List ℕ
finished zero a b c d = []
finished (suc n) a b c d = finished n 0 a b c ++ (numeral d ++ (32 ∷ []))

abbrev current : Option ℕ → List ℕ
current None = []
current (Some value) = numeral value

abbrev line_so_far : Line → List ℕ
line_so_far l = finished l.ended l.first l.second l.third l.fourth ++ current l.number

-- only the last of the four count
last_ones : (n a x b c d : ℕ) → n < 4 → finished n x b c d ≡ finished n a b c d
last_ones zero a x b c d h = refl
last_ones (suc zero) a x b c d h = refl
last_ones (suc (suc zero)) a x b c d h = refl
last_ones (suc (suc (suc zero))) a x b c d h = refl
last_ones (suc (suc (suc (suc n)))) a x b c d h = absurd (omega (arith, h))

-- the first two numbers are at least 1
abbrev Fine : (ended a b c d : ℕ) → Type 0
Fine zero a b c d = Unit
Fine (suc zero) a b c d = 1 ≤ d
Fine (suc (suc zero)) a b c d = (1 ≤ c) × (1 ≤ d)
Fine (suc (suc (suc zero))) a b c d = (1 ≤ b) × (1 ≤ c)
Fine (suc (suc (suc (suc zero)))) a b c d = (1 ≤ a) × (1 ≤ b)
Fine (suc (suc (suc (suc (suc n))))) a b c d = ⊥

fine_next : (n a b c d v : ℕ) → Fine n a b c d → n < 4 → (ltb n 2 && eqb v 0) ≡ false → Fine (suc n) b c d v
fine_next zero a b c d v f l h = omega (arith, eqb-false v 0 h)
fine_next (suc zero) a b c d v f l h = (f, omega (arith, eqb-false v 0 h))
fine_next (suc (suc zero)) a b c d v f l h = f
fine_next (suc (suc (suc zero))) a b c d v f l h = f
fine_next (suc (suc (suc (suc n)))) a b c d v f l h = absurd (omega (arith, l))

abbrev Short : Option ℕ → Type 0
Short None = Unit
Short (Some value) = value ≤ 65535

record LineFine (l : Line) : Type 0 where
  fine : Fine l.ended l.first l.second l.third l.fourth
  small : (l.first ≤ 65535) × (l.second ≤ 65535) × (l.third ≤ 65535) × (l.fourth ≤ 65535)
  short : Short l.number

record Grown (l m : Line) (byte : ℕ) : Type 0 where
  fine : LineFine m
  text : line_so_far m ≡ line_so_far l ++ (byte ∷ [])

word_added : (xs ys ds : List ℕ) → xs ≡ ys → (xs ++ (ds ++ (32 ∷ []))) ++ [] ≡ (ys ++ ds) ++ (32 ∷ [])
word_added xs ys ds e = append-nil (xs ++ (ds ++ (32 ∷ []))) ∙ ap (λ (zs : List ℕ). zs ++ (ds ++ (32 ∷ []))) e ∙ sym
    (append_assoc ys ds (32 ∷ []))

blank_text : (l : Line) (v : ℕ) → l.number ≡ Some v → l.ended < 4
    → finished (l.ended + 1) l.second l.third l.fourth v ++ [] ≡ line_so_far l ++ (32 ∷ [])
blank_text l v number room =
    rw (add-one l.ended, number)
    (word_added (finished l.ended 0 l.second l.third l.fourth) (finished l.ended l.first l.second l.third l.fourth) (numeral v)
    (last_ones l.ended l.first 0 l.second l.third l.fourth room))

blank_grown : (l m : Line) → LineFine l → with_blank l ≡ Some m → Grown l m 32
blank_grown l m f h =
    let (v, number, ends) = chained (number_ended l) l.number m h in
    let (e, is) = where_false (leb 4 l.ended || (ltb l.ended 2 && eqb v 0)) _ m ends in
    let (full, least) = or_false_parts (leb 4 l.ended) (ltb l.ended 2 && eqb v 0) e in
    let room = leb-false 4 l.ended full in
    let (a, b, c, d) = f.small in
    let short : v ≤ 65535 = rw number at f.short in
    rw (← is) (record {
      fine = record {
        fine = rw (add-one l.ended) (fine_next l.ended l.first l.second l.third l.fourth v f.fine room least);
        small = (b, c, d, short);
        short = tt;
      };
      text = blank_text l v number room;
    })

-- a digit
number_grown : (number : Option ℕ) (d n : ℕ) → d < 10 → number_with number d ≡ Some n → Short number
    → (n ≤ 65535) × (numeral n ≡ current number ++ ((48 + d) ∷ []))
number_grown None d n k h s = let is : d ≡ n = cc in rw (← is) (omega (arith, k), numeral_digit d k)
number_grown (Some v) d n k h s =
    let (e, is) = where_false (eqb v 0 || ltb 65535 (10 * v + d)) (10 * v + d) n h in
    let (leading, over) = or_false_parts (eqb v 0) (ltb 65535 (10 * v + d)) e in
    let most = ltb-false 65535 (10 * v + d) over in
    rw (← is) (most, numeral_snoc v d (omega (arith, eqb-false v 0 leading)) (omega (arith, most)) k)

digit_grown : (l m : Line) (d : ℕ) → d < 10 → LineFine l → with_digit l d ≡ Some m → Grown l m (48 + d)
digit_grown l m d k f h =
    let (n, number, is) = mapped (λ (n : ℕ). record l { number = Some n }) (number_with l.number d) m h in
    let (most, text) = number_grown l.number d n k number f.short in
    let before = finished l.ended l.first l.second l.third l.fourth in
    rw (← is) (record {
      fine = record { fine = f.fine; small = f.small; short = most };
      text = ap (λ (xs : List ℕ). before ++ xs) text ∙ sym (append_assoc before (current l.number) ((48 + d) ∷ []));
    })

moved_grown : (l m : Line) (byte : ℕ) → LineFine l → moved l byte ≡ Some m → Grown l m byte
moved_grown l m byte f h =
    by_test (eqb byte 32)
    (λ e. let is : byte ≡ 32 = eqb-true byte 32 e in rw is (blank_grown l m f (rw is at h)))
    (λ e.
    by_test (is_digit byte)
    (λ d.
    let (low, high) = (and-eq-true_iff (leb 48 byte) (leb byte 57)).0 d in
    let least = leb-true 48 byte low in
    let most = leb-true byte 57 high in
    let is : 48 + (byte - 48) ≡ byte = omega (arith, least) in
    rw is at (digit_grown l m (byte - 48) (omega (arith, least, most)) f (rw (e, d) at h)))
    (λ d. let gone : None ≡ Some m = rw (e, d) at h in cc))

-- the five numbers of a line that has ended
words : (a b c d e : List ℕ)
    → (((((([] ++ (a ++ (32 ∷ []))) ++ (b ++ (32 ∷ []))) ++ (c ++ (32 ∷ []))) ++ (d ++ (32 ∷ []))) ++ e) ++ (10 ∷ []))
    ≡ a ++ (32 ∷ (b ++ (32 ∷ (c ++ (32 ∷ (d ++ (32 ∷ (e ++ (10 ∷ [])))))))))
words a b c d e = simp append_assoc

record Ended (l : Line) (c : Channel) : Type 0 where
  fine : is_channel c ≡ true
  text : line_so_far l ++ (10 ∷ []) ≡ number_line (numbers_of c)

fine_four : (n a b c d : ℕ) → n ≡ 4 → Fine n a b c d → (1 ≤ a) × (1 ≤ b)
fine_four n a b c d e f = rw e at f

line_text : (l : Line) (v : ℕ) → l.number ≡ Some v → l.ended ≡ 4
    → line_so_far l ++ (10 ∷ []) ≡ number_line (l.first ∷ l.second ∷ l.third ∷ l.fourth ∷ v ∷ [])
unfolding number_line
line_text l v number four =
    rw (four, number) (words (numeral l.first) (numeral l.second) (numeral l.third) (numeral l.fourth) (numeral v))

line_ended : (l : Line) (channel : Channel) → LineFine l → channel_of l ≡ Some channel → Ended l channel
line_ended l channel f h =
    let (v, number, whole) = chained (channel_with l) l.number channel h in
    let (tests, is) = where_true (eqb l.ended 4 && leb v 30) _ channel whole in
    let (at_four, most) = (and-eq-true_iff (eqb l.ended 4) (leb v 30)).0 tests in
    let four = eqb-true l.ended 4 at_four in
    let (p, r) = fine_four l.ended l.first l.second l.third l.fourth four f.fine in
    let (a, b, c, d) = f.small in
    rw (← is) (record {
      fine = ranged _ (record { period = (p, a); reply = (r, b); silent = c; wait = d; extension = leb-true v 30 most });
      text = line_text l v number four;
    })

text_append : (xs ys : List Channel) → text_of (xs ++ ys) ≡ text_of xs ++ text_of ys
unfolding text_of
text_append [] ys = refl
text_append (c ∷ xs) ys = ap (λ (zs : List ℕ). number_line (numbers_of c) ++ zs) (text_append xs ys) ∙ sym
    (append_assoc (number_line (numbers_of c)) (text_of xs) (text_of ys))

text_one : (c : Channel) → text_of (c ∷ []) ≡ number_line (numbers_of c)
unfolding text_of
text_one c = append-nil (number_line (numbers_of c))

all_snoc {ℓ} : {A : Type ℓ} (p : A → Bool) (xs : List A) (a : A) → all p xs ≡ true → p a ≡ true → all p (xs ++ (a ∷ [])) ≡ true
all_snoc p [] a h k = rw k
all_snoc p (x ∷ xs) a h k = let (this, others) = (and-eq-true_iff (p x) (all p xs)).0 h in rw this (all_snoc p xs a others k)

record Good (l : Line) (plan : List Channel) : Type 0 where
  line : LineFine l
  most : length plan ≤ 16
  each : all is_channel plan ≡ true

new_fine : LineFine new_line
new_fine = record { fine = tt; small = (omega arith, omega arith, omega arith, omega arith); short = tt }

-- the text of all that was read and of what is left
abbrev whole_text : Line → List Channel → List ℕ → List ℕ
whole_text l plan text = text_of plan ++ (line_so_far l ++ text)

grown_text : (xs ys zs text : List ℕ) (byte : ℕ) → zs ≡ ys ++ (byte ∷ []) → xs ++ (zs ++ text) ≡ xs ++ (ys ++ (byte ∷ text))
grown_text xs ys zs text byte e = rw e (ap (λ (ws : List ℕ). xs ++ ws) (append_assoc ys (byte ∷ []) text))

ended_text : (l : Line) (c : Channel) (plan : List Channel) (text : List ℕ) → Ended l c
    → whole_text new_line (plan ++ (c ∷ [])) text ≡ whole_text l plan (10 ∷ text)
ended_text l c plan text e =
    ap (λ (xs : List ℕ). xs ++ text) (text_append plan (c ∷ []) ∙ ap (λ (xs : List ℕ). text_of plan ++ xs) (text_one c ∙ sym e.text))
    ∙ append_assoc (text_of plan) (line_so_far l ++ (10 ∷ [])) text
    ∙ ap (λ (xs : List ℕ). text_of plan ++ xs) (append_assoc (line_so_far l) (10 ∷ []) text)

at_end : (l : Line) (plan : List Channel) → (eqb l.ended 0 && is_none l.number) ≡ true → text_of plan ≡ whole_text l plan []
at_end l plan h =
    let (none_ended, none_begun) = (and-eq-true_iff (eqb l.ended 0) (is_none l.number)).0 h in
    rw (eqb-true l.ended 0 none_ended) (by l.number none_begun)
  where
    by : (number : Option ℕ) → is_none number ≡ true → text_of plan ≡ text_of plan ++ (current number ++ [])
    by None h = sym (append-nil (text_of plan))
    by (Some v) h = cc

read_sound : (text : List ℕ) (l : Line) (plan out : List Channel) → read_from l plan text ≡ Some out → Good l plan
    → (is_plan out ≡ true) × (whole_text l plan text ≡ text_of out)
unfolding read_from is_plan
read_sound [] l plan out h g =
    let (tests, is) = where_true (eqb l.ended 0 && is_none l.number && leb 1 (length plan)) plan out h in
    let (none_begun, least) = (and-eq-true_iff (eqb l.ended 0 && is_none l.number) (leb 1 (length plan))).0 tests in
    rw (← is) (rw (least, le-leb (length plan) 16 g.most, g.each), sym (at_end l plan none_begun))
read_sound (byte ∷ text) l plan out h g =
    by_test (eqb byte 10)
    (λ e.
    let is : byte ≡ 10 = eqb-true byte 10 e in
    let (more, ends, rest) = chained (λ (more : List Channel). read_from new_line more text) _ out (rw e at h) in
    let (c, whole, stored) = chained (with_channel plan) (channel_of l) more ends in
    let (room, longer) = where_true (ltb (length plan) task_count) (plan ++ (c ∷ [])) more stored in
    let ended = line_ended l c g.line whole in
    let size : length (plan ++ (c ∷ [])) ≡ length plan + 1 = length-append plan (c ∷ []) in
    let (good, told) = read_sound text new_line (plan ++ (c ∷ [])) out (rw (← longer) at rest)
    (record { line = new_fine; most = omega (arith, size, ltb-true (length plan) 16 room); each = all_snoc is_channel plan c g.each ended.fine }) in
    (good, rw is (sym (ended_text l c plan text ended) ∙ told)))
    (λ e.
    let (m, moves, rest) = chained (λ (next : Line). read_from next plan text) (moved l byte) out (rw e at h) in
    let grown = moved_grown l m byte g.line moves in
    let (good, told) = read_sound text m plan out rest (record { line = grown.fine; most = g.most; each = g.each }) in
    (good, sym (grown_text (text_of plan) (line_so_far l) (line_so_far m) text byte grown.text) ∙ told))

pub sound : (text : List ℕ) (plan : List Channel) → plan_of text ≡ Some plan → (is_plan plan ≡ true) × (text ≡ text_of plan)
unfolding plan_of text_of
sound text plan h = read_sound text new_line [] plan h (record { line = new_fine; most = omega arith; each = refl })
