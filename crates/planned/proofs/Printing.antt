-- Lines of numbers put into a buffer.
use Rattle.std.specs.Prelude.{Option, Some, None, is_some, is_none, true}
use Prim.Native.Nat.{ℕ, ◌+◌, ◌*◌, ◌≤◌, ◌<◌}
use native.Mathlib.Numerals.{add-one}
use native.Mathlib.Omega.{arith}
use mathlib.Core.List.{List, [], ◌∷◌, ◌++◌, append_assoc, append-nil}
use mathlib.Core.Path.{◌≡◌, refl, sym, ap, subst, ◌∙◌}
use mathlib.Core.Bool.{Bool, cond}
use mir.Val.{bool_byte}
use lib.ListN.{length, get_or, take, length-append}
use lib.Seq.{take-suc, take_all}
use Rattle.lists.proofs.Blocks.{length_overwritten, overwritten_nothing, take_new}
use Rattle.ledger.specs.Limits.{task_count, standard}
use Rattle.ledger.specs.Plans.{run, figures}
use Rattle.ledger.specs.declared.plans.Channel.{Channel}
use Rattle.ledger.specs.declared.plans.Poll.{Poll}
use Rattle.ledger.specs.declared.plans.Track.{Track}
use Rattle.text.specs.Decimals.{places, numeral, number_line}
use Rattle.text.specs.Hex.{Puts}
use Rattle.text.proofs.Numerals.{numeral_length}
use Rattle.text.proofs.Puts.{puts_on}
use Rattle.plan_text.specs.Texts.{is_plan}
use Rattle.plan_text.specs.Reading.{plan_of}
use Rattle.plan_text.proofs.Sound.{sound}
use Rattle.planned.specs.Bounds.{step_count}
use Rattle.planned.specs.Output.{longest_line, lines_of, output_by, output_of, Shows}

-- what is put moves the place on by its length, and the buffer stays as long
pub room_after : {at end : ℕ} {new old after : List ℕ} (most : ℕ) → Puts at new old after end → length new ≤ most → at + most ≤ length old
    → (end ≤ at + most) × (length after ≡ length old)
room_after {at} {new = new} {old} most p short room =
    (omega (arith, p.next, short), rw p.bytes (length_overwritten at new old (omega (arith, short, room))))

-- a number with the character after it
word_length : (n after : ℕ) → length (numeral n ++ (after ∷ [])) ≤ places + 1
word_length n after = rw length-append (omega (arith, numeral_length places n))

pub word_room : {at end : ℕ} (n after : ℕ) {old new : List ℕ} → Puts at (numeral n ++ (after ∷ [])) old new end
    → at + (places + 1) ≤ length old
    → (end ≤ at + (places + 1)) × (length new ≡ length old)
word_room n after p room = room_after (places + 1) p (word_length n after) room

four_words : (a b c d : List ℕ) → (a ++ (32 ∷ [])) ++ ((b ++ (32 ∷ [])) ++ ((c ++ (32 ∷ [])) ++ (d ++ (10 ∷ []))))
    ≡ a ++ (32 ∷ (b ++ (32 ∷ (c ++ (32 ∷ (d ++ (10 ∷ [])))))))
four_words a b c d = simp append_assoc

line_length : (a b c d : ℕ) → length (number_line (a ∷ b ∷ c ∷ d ∷ [])) ≤ longest_line
unfolding number_line
line_length a b c d =
    rw (length-append, length-append, length-append, length-append)
    (omega (arith, numeral_length places a, numeral_length places b, numeral_length places c, numeral_length places d))

-- and there is room for the rest
pub word_next : {at end : ℕ} (n after rest : ℕ) {old new : List ℕ} → Puts at (numeral n ++ (after ∷ [])) old new end
    → at + (places + 1 + rest) ≤ length old → end + rest ≤ length new
word_next n after rest p room =
    let (on, same) = word_room n after p (omega (arith, room)) in
    omega (arith, on, same, room)

pub line_put : (a b c d m : ℕ) {at p₁ p₂ p₃ end : ℕ} {o₀ o₁ o₂ o₃ o₄ : List ℕ} → at + longest_line ≤ length o₀
    → Puts at (numeral a ++ (32 ∷ [])) o₀ o₁ p₁ → Puts p₁ (numeral b ++ (32 ∷ [])) o₁ o₂ p₂ → Puts p₂ (numeral c ++ (32 ∷ [])) o₂ o₃ p₃
    → m ≡ d → Puts p₃ (numeral m ++ (10 ∷ [])) o₃ o₄ end → Puts at (number_line (a ∷ b ∷ c ∷ d ∷ [])) o₀ o₄ end
unfolding number_line
line_put a b c d m {at} {p₁} {p₂} {p₃} {end} {o₀} {o₁} {o₂} {o₃} {o₄} room w x y e v =
    let z : Puts p₃ (numeral d ++ (10 ∷ [])) o₃ o₄ end = rw (← e) v in
    let (l₁, s₁) = word_room a 32 w (omega (arith, room)) in
    let (l₂, s₂) = word_room b 32 x (omega (arith, room, l₁, s₁)) in
    let k = word_length d 10 in
    let last = puts_on y z (omega (arith, room, l₁, l₂, s₁, s₂, word_length c 32, k)) in
    let more = puts_on x last (rw (length-append (numeral c ++ (32 ∷ [])) (numeral d ++ (10 ∷ [])))
    (omega (arith, room, l₁, s₁, word_length b 32, word_length c 32, k))) in
    let sum : length ((numeral b ++ (32 ∷ [])) ++ ((numeral c ++ (32 ∷ [])) ++ (numeral d ++ (10 ∷ [])))) ≤ 18 =
    rw (
      length-append (numeral b ++ (32 ∷ [])) ((numeral c ++ (32 ∷ [])) ++ (numeral d ++ (10 ∷ []))),
      length-append
          (numeral c ++ (32 ∷ [])) (numeral d ++ (10 ∷ [])),
    )
    (omega (arith, word_length b 32, word_length c 32, k)) in
    subst (λ (new : List ℕ). Puts at new o₀ o₄ end) (four_words (numeral a) (numeral b) (numeral c) (numeral d))
    (puts_on w more (omega (arith, room, word_length a 32, sum)))

track_length : (t : Track) → length (number_line (figures t)) ≤ longest_line
track_length t = line_length t.replies t.quits t.refusals _

-- whether a poll is open, as a figure
pub open_figure : (poll : Option Poll) {b : Bool} → b ≡ is_some poll → {n : ℕ} → n ≡ bool_byte b → n ≡ cond (is_none poll) 0 1
open_figure None e f = f ∙ ap bool_byte e
open_figure (Some poll) e f = f ∙ ap bool_byte e

-- the lines of the first i channels
pub record Printed (ts : List Track) (old : List ℕ) (i at : ℕ) (out : List ℕ) : Type 0 where
  put : Puts 0 (lines_of (take i ts)) old out at
  pub far : at ≤ i * longest_line
  pub size : length out ≡ length old

pub print_starts : (ts : List Track) (old : List ℕ) → Printed ts old 0 0 old
unfolding lines_of
print_starts ts old = record { put = record { bytes = sym (overwritten_nothing 0 old); next = refl }; far = omega arith; size = refl }

lines_more : (ts : List Track) (t : Track) → lines_of (ts ++ (t ∷ [])) ≡ lines_of ts ++ number_line (figures t)
unfolding lines_of
lines_more [] t = append-nil (number_line (figures t))
lines_more (s ∷ ts) t =
    ap (λ (xs : List ℕ). number_line (figures s) ++ xs) (lines_more ts t)
    ∙ sym (append_assoc (number_line (figures s)) (lines_of ts) (number_line (figures t)))

pub print_room : {ts : List Track} {old : List ℕ} {i at : ℕ} {out : List ℕ} → Printed ts old i at out → i < task_count
    → task_count * longest_line ≤ length old → at + longest_line ≤ length out
print_room g k room = omega (arith, g.far, g.size, k, room)

pub print_turns : {ts : List Track} {old : List ℕ} {i at next : ℕ} {out after : List ℕ} (d : Track) → Printed ts old i at out
    → i < length ts
    → i < task_count → task_count * longest_line ≤ length old → Puts at (number_line (figures (get_or ts i d))) out after next
    → Printed ts old (i + 1) next after
print_turns {ts} {old} {i} {at} {next} {out} {after} d g l k room p =
    let t = get_or ts i d in
    let short = track_length t in
    let (on, same) = room_after longest_line p short (omega (arith, g.far, g.size, k, room)) in
    let first : lines_of (take (i + 1) ts) ≡ lines_of (take i ts) ++ number_line (figures t) =
    ap (λ (n : ℕ). lines_of (take n ts)) (add-one i) ∙ ap lines_of (take-suc ts i d l) ∙ lines_more (take i ts) t in
    record {
      put = rw first (puts_on g.put p (omega (arith, g.put.next, g.far, short, k, room)));
      far = omega (arith, on, g.far);
      size = same ∙ g.size;
    }

pub print_ends : {ts : List Track} {old : List ℕ} {i at : ℕ} {out : List ℕ} → Printed ts old i at out → length ts ≤ i → length ts ≤ task_count
    → i ≤ length ts → task_count * longest_line ≤ length old → Puts 0 (lines_of ts) old out at × (at ≤ length out)
print_ends {ts} {old} {i} {at} {out} g l most m room = (
  subst (λ (xs : List Track). Puts 0 (lines_of xs) old out at) (take_all i ts l) g.put,
  omega (arith, g.far, g.size, m, most, room),
)

-- a text that is a plan, and what is shown of it
module _ (text : List ℕ) {plan : List Channel} (e : Some plan ≡ plan_of text) where
  pub planned : is_plan plan ≡ true
  planned = (sound text plan (sym e)).0

  pub shows_lines : {ts : List Track} {old new : List ℕ} {end : ℕ} → ts ≡ (run standard plan step_count).tracks
      → Puts 0 (lines_of ts) old new end × (end ≤ length new) → Shows (output_of text) (record { bytes = new; count = end })
  shows_lines {ts} {old} {new} {end} same put =
      let lines = lines_of ts in
      let at_end : end ≡ length lines = omega (arith, put.0.next) in
      record {
        bytes =
            rw (put.0.bytes, at_end) (take_new (length lines) lines old (omega arith) ∙ take_all (length lines) lines (omega arith))
            ∙ ap lines_of same ∙ ap output_by e;
        most = put.1;
      }
