-- The claims of a plan's text.
use Rattle.std.specs.Prelude.{Option, Some, None, is_none}
use Prim.Native.Nat.{ℕ, ◌*◌, ◌/◌, ◌≤◌}
use native.Mathlib.Omega.{arith}
use mathlib.Core.Bool.{true, and-eq-true_iff}
use mathlib.Core.List.{List, [], ◌∷◌}
use mathlib.Core.Path.{◌≡◌, refl}
use borrow.Author.Tests.{lt-ltb}
use lib.Dec.{ltb, T}
use lib.ListN.{length, length-append}
use Rattle.lists.specs.Tests.{all}
use Rattle.lists.proofs.Cases.{by_test}
use Rattle.lists.proofs.Tests.{all→All}
use Rattle.ledger.specs.Limits.{task_count, is_within}
use Rattle.ledger.specs.declared.plans.Channel.{Channel}
use Rattle.text.specs.Decimals.{numeral_of, numeral, number_line}
use Rattle.plan_text.specs.Texts.{numbers_of, text_of, is_channel, is_plan}
use Rattle.plan_text.specs.Reading.{read_from, plan_of}
use Rattle.plan_text.specs.PlanTexts.{bad_texts, PlanTexts}
use Rattle.plan_text.proofs.Numerals.{numeral_length}
use Rattle.plan_text.proofs.Complete.{within, ranges, complete}
use Rattle.plan_text.proofs.Sound.{sound}

-- of a number below 100
short_numeral : (n : ℕ) → n ≤ 30 → length (numeral n) ≤ 2
unfolding numeral_of
short_numeral n h = by_test (ltb n 10) (λ e. rw e (omega arith)) (λ e. rw (e, lt-ltb (n / 10) 10 (omega (arith, h))) (omega arith))

line_length : (c : Channel) → is_channel c ≡ true → length (number_line (numbers_of c)) ≤ 27
unfolding number_line
line_length c h =
    rw (length-append, length-append, length-append, length-append, length-append)
    (omega (
      arith,
      numeral_length 5 c.period,
      numeral_length 5 c.reply,
      numeral_length 5 c.silent,
      numeral_length 5 c.wait,
      short_numeral c.extension (ranges c h).extension,
    ))

text_length : (plan : List Channel) → all is_channel plan ≡ true → length (text_of plan) ≤ 27 * length plan
unfolding text_of
text_length [] h = omega arith
text_length (c ∷ plan) h =
    let (this, others) = (and-eq-true_iff (is_channel c) (all is_channel plan)).0 h in
    rw length-append (omega (arith, line_length c this, text_length plan others))

short : (plan : List Channel) → is_plan plan ≡ true → length (text_of plan) ≤ 432
unfolding is_plan
short plan h =
    let (sized, each) = (and-eq-true_iff (is_within 1 task_count (length plan)) (all is_channel plan)).0 h in
    omega (arith, text_length plan each, (within 1 task_count (length plan) sized).1)

none_told : (o : Option (List Channel)) → T (is_none o) → o ≡ None
none_told None t = refl
none_told (Some plan) t = absurd t

all_bad : T (all (λ (text : List ℕ). is_none (plan_of text)) bad_texts)
unfolding bad_texts plan_of read_from text_of number_line numeral_of
all_bad = tt

pub plan_texts : PlanTexts
plan_texts =
    record {
      read = complete;
      only = sound;
      short = short;
      bad = all→All (λ (text : List ℕ). is_none (plan_of text)) (λ text t. record { told = none_told (plan_of text) t }) bad_texts all_bad;
    }
