-- Each arm by its own calls.
use Rattle.std.proofs.Common.{arith}
use Rattle.std.proofs.lemmas.Grind.{common_steps}
use Rattle.planned.proofs.Turning.{rests, begins, replies, quits}
use Rattle.planned.proofs.turns.take_turn.Goals as goal

pub returns-in-Rests : goal.returns-in-Rests
returns-in-Rests c = rests _ _ _ c.turn_of.ensures _ c.in-Rests.is

pub returns-in-Begins : goal.returns-in-Begins
returns-in-Begins c =
    begins _ _ _ c.turn_of.ensures c.in-Begins.is c.made_by.ensures c.send-answer.ensures c.opened_by-track.ensures c.closing.ensures
    c.schedule.ensures (grind (arith, common_steps))

pub returns-in-Replied : goal.returns-in-Replied
returns-in-Replied c =
    replies _ _ _ c.turn_of.ensures c.in-Replied.is c.schedule-in-Replied.ensures c.send.ensures c.schedule-in-Replied-2.ensures

pub returns-in-Quits : goal.returns-in-Quits
returns-in-Quits c = quits _ _ _ c.turn_of.ensures c.in-Quits.is c.schedule-in-Quits.ensures c.schedule-in-Quits-2.ensures
