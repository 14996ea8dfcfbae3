-- By what was found: refused with nothing changed, or one expiration more.
use mathlib.Core.Path.{refl}
use Rattle.record.proofs.Types.{head_typed}
use Rattle.calls.proofs.Lent.{lent_fits}
use Rattle.calls.proofs.RefreshLent.{refresh_kept, refresh_set, refresh_may_set}
use Rattle.calls.proofs.refresh.Goals as goal

pub find_for_refresh-requires : goal.find_for_refresh-requires
find_for_refresh-requires c = (c.requires.0, lent_fits _ _ _ c.requires.1)

pub set-requires : goal.set-requires
set-requires c = let a = c.args in
    let (room, known, block) = refresh_may_set (head_typed _ _ c.well_formed.0) c.requires.0 a.task a.kind a.extension
    a.handle _ c.find_for_refresh.ensures c.in-Ok.is c.requires.1 in
    (c.requires.0.entries, room, known, block)

pub returns-in-Err : goal.returns-in-Err
returns-in-Err c = let a = c.args in
    rw c.refused.ensures (c.requires.0.entries, refresh_kept (head_typed _ _ c.well_formed.0) c.requires.0 a.task a.kind a.extension a.handle _ c.find_for_refresh.ensures c.requires.1 c.in-Err.is, refl)

pub returns : goal.returns
returns c = let a = c.args in
    rw c.answered.ensures (c.set.ensures.sized, refresh_set (head_typed _ _ c.well_formed.0) c.requires.0 a.task a.kind a.extension a.handle _ c.find_for_refresh.ensures c.in-Ok.is c.requires.1 c.set.ensures, refl)
