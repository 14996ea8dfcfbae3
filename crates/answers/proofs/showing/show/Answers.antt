-- No bytes, or those of a block: the line has room.
use Rattle.answers.proofs.Shown.{shows_none}
use Rattle.answers.proofs.showing.show.Goals as goal

pub put_answer-requires : goal.put_answer-requires
put_answer-requires c = rw c.no_part.ensures (rw (shows_none _ _ _ c.if-count-eq0.true) at c.requires.room)

pub returns-then-count-eq0 : goal.returns-then-count-eq0
returns-then-count-eq0 c = rw (shows_none _ _ _ c.if-count-eq0.true, ← c.no_part.ensures) c.put_answer.ensures
