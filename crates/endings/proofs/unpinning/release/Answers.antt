-- Its clock first, then its block.
use Rattle.std.proofs.Common.{rules}
use Rattle.endings.proofs.Unpins.{releases}
use Rattle.endings.proofs.unpinning.release.Goals as goal

pub returns : goal.returns
returns c = releases (search rules) (search rules) c.unpin.ensures c.requires.0 (search rules) c.requires.1 c.is_named.ensures c.kept_handle.ensures
