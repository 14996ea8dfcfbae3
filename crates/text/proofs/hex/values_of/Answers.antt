-- By the bits of both characters.
use Rattle.text.proofs.Pairs.{pair_bits}
use Rattle.text.proofs.hex.values_of.Goals as goal

pub returns : goal.returns
returns c = pair_bits _ c.requires
