-- The pair at the byte's place spells it.
use Rattle.text.proofs.Pairs.{pair_spelled}
use Rattle.text.proofs.hex.byte_at.Goals as goal

pub returns : goal.returns
returns c = rw (c.spelled.ensures, c.paired.ensures) (pair_spelled _ _ c.requires)
