-- The number, and the values by the answer.
use native.Mathlib.Omega.{arith}
use mathlib.Core.Path.{sym, ap, ◌∙◌}
use Rattle.std.proofs.Common.{⊎_elim}
use Rattle.answers.specs.Answers.{values_in}
use Rattle.answers.proofs.AnswerLines.{head_one, advanced_values, handle_values, room_after_number, puts_values, puts_number}
use Rattle.answers.proofs.put_head.Goals as goal

pub put_byte-next-requires : goal.put_byte-next-requires
put_byte-next-requires c = omega (arith, c.requires, head_one c.args.answer)

pub put_byte-requires : goal.put_byte-requires
put_byte-requires c = room_after_number c.args.answer c.requires c.from.ensures c.put_byte-next.ensures (advanced_values c.in-Advanced.is)

pub put_word-requires : goal.put_word-requires
put_word-requires c = room_after_number c.args.answer c.requires c.from.ensures c.put_byte-next.ensures (handle_values c.in-Handle.is)

pub put_hex-requires : goal.put_hex-requires
put_hex-requires c = room_after_number c.args.answer c.requires c.from.ensures c.put_byte-next.ensures (c.counts.ensures ∙ sym (ap values_in c.in-Counted.is))

pub put_hex-requires-in-Lasts : goal.put_hex-requires-in-Lasts
put_hex-requires-in-Lasts c = room_after_number c.args.answer c.requires c.from.ensures c.put_byte-next.ensures (c.lasts.ensures ∙ sym (ap values_in c.in-Lasts.is))

pub returns-in-Advanced : goal.returns-in-Advanced
returns-in-Advanced c =
    puts_values c.args.answer c.requires c.from.ensures c.put_byte-next.ensures (advanced_values c.in-Advanced.is) c.put_byte.ensures

pub returns-in-Handle : goal.returns-in-Handle
returns-in-Handle c = puts_values c.args.answer c.requires c.from.ensures c.put_byte-next.ensures (handle_values c.in-Handle.is) c.put_word.ensures

pub returns-in-Counted : goal.returns-in-Counted
returns-in-Counted c =
    puts_values c.args.answer c.requires c.from.ensures c.put_byte-next.ensures (c.counts.ensures ∙ sym (ap values_in c.in-Counted.is)) c.put_hex.ensures

pub returns-in-Lasts : goal.returns-in-Lasts
returns-in-Lasts c =
    puts_values c.args.answer c.requires c.from.ensures c.put_byte-next.ensures (c.lasts.ensures ∙ sym (ap values_in c.in-Lasts.is)) c.put_hex-in-Lasts.ensures

pub returns-in-Refused : goal.returns-in-Refused
unfolding values_in
returns-in-Refused c =
    puts_number c.args.answer c.requires c.from.ensures c.put_byte-next.ensures
    (⊎_elim (λ x. rw x.1) (⊎_elim (λ x. rw x) (λ x. rw x)) c.in-Refused.is)
