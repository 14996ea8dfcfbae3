-- By what was found: refused with nothing changed, or the pinned expiration ended.
use mathlib.Core.Path.{refl}
use Rattle.record.proofs.Types.{head_typed}
use Rattle.endings.proofs.Unpins.{well_named}
use Rattle.calls.proofs.Lent.{lent_fits}
use Rattle.calls.proofs.ReleaseLent.{release_kept, release_known, release_carried}
use Rattle.calls.proofs.release.Goals as goal

pub find_for_release-requires : goal.find_for_release-requires
find_for_release-requires c = (c.requires.0, lent_fits _ _ _ c.requires.1)

pub release-requires : goal.release-requires
release-requires c = let sized = c.requires.0 in
    let known = release_known (head_typed _ _ c.well_formed.0) sized c.args.task c.args.handle _ c.find_for_release.ensures c.in-Ok.is in
    (known, well_named _ sized (lent_fits _ _ _ c.requires.1))

pub returns-in-Err : goal.returns-in-Err
returns-in-Err c = let kept = release_kept (head_typed _ _ c.well_formed.0) c.requires.0 c.args.task c.args.handle _ c.find_for_release.ensures c.requires.1 c.in-Err.is in
    rw c.refused.ensures (kept.0, kept.1, refl, refl, refl, refl)

pub returns-in-Ok : goal.returns-in-Ok
returns-in-Ok c = let carried = release_carried (head_typed _ _ c.well_formed.0) c.requires.0 c.args.task c.args.handle _ c.find_for_release.ensures c.in-Ok.is c.requires.1 c.release.ensures in
    rw c.answered.ensures (carried.0, carried.1, refl, refl, refl, refl)
