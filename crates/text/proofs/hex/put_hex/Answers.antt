-- The part that comes back is the digits.
use Rattle.lists.proofs.Blocks.{put_back}
use Rattle.text.proofs.Digits.{length_hex}
use Rattle.text.proofs.hex.put_hex.Goals as goal

pub returns : goal.returns
returns c = record { bytes = put_back _ _ _ _ _ c.spell_out.ensures (rw length_hex); next = rw length_hex }
