-- What the ledger needs, the pool needs: it answers as the ledger does.
use mathlib.Core.List.{List, map}
use mathlib.Core.Logic.{◌↔◌}
use mathlib.Core.Path.{sym, subst}
use Rattle.lists.specs.Tests.{All}
use Rattle.ledger.specs.Objects.{Reply}
use Rattle.ledger.specs.Room.{as_read, peaks, Fits, HasRoom}
use Rattle.ledger.proofs.Room.{peaks_fit}
use Rattle.demands.specs.Room.{PoolHasRoom}
use Rattle.demands.proofs.Demands.{demand2}

pub pool_has_room : PoolHasRoom
pool_has_room limits may small large s l ss ys p' small' large' runs =
    let same = (demand2 limits may small large s l (map as_read ss) ys p' small' large' runs).0 in
    subst (λ (zs : List Reply). All HasRoom zs ↔ Fits limits (peaks limits ss)) (sym same) (peaks_fit limits may ss)
