-- The line goes to the part from the place on.
use Rattle.answers.proofs.Shown.{puts_from}
use Rattle.answers.proofs.showing.put_answer.Goals as goal

pub returns : goal.returns
returns c = puts_from _ c.encode_answer-length.ensures
