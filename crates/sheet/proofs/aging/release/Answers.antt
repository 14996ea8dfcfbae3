-- The pass, then the sweep.
use Rattle.sheet.proofs.Swept.{release_sweepable, release_passes}
use Rattle.sheet.proofs.aging.release.Goals as goal

pub sweep-requires : goal.sweep-requires
sweep-requires c = release_sweepable c.args.place c.requires c.unpin.ensures

pub returns : goal.returns
returns c = release_passes c.args.place c.requires c.unpin.ensures c.sweep.ensures
