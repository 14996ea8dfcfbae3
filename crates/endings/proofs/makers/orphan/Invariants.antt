-- Eight by eight, each by its own maker.
use Rattle.std.proofs.Common.{◌*◌, ◌≤◌}
use Rattle.record.specs.Tables.{block_entries}
use Rattle.endings.specs.Makers.{orphaned_by}
use Rattle.expirations.specs.Places.{Changed}
use Rattle.endings.proofs.makers.orphan.Given as goal

abbrev pub invariant-loop-g : goal.invariant-loop-g
invariant-loop-g l = (l.g * 8 ≤ block_entries) × Changed 0 (orphaned_by l.t.task l.before) 0 (l.g * 8) l.before l.extents

abbrev pub invariant-loop-block : goal.invariant-loop-block
invariant-loop-block l = (l.block ≤ l.block-end) × Changed 0 (orphaned_by l.t.task l.before) 0 l.block l.before l.extents
