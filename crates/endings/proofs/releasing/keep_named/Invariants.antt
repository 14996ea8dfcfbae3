-- Every handle left or given up in its place, by its flag.
use Rattle.std.proofs.Common.{◌≤◌}
use Rattle.record.specs.Tables.{block_entries}
use Rattle.expirations.specs.Places.{Changed}
use Rattle.endings.specs.Releasing.{kept_by_flag}
use Rattle.endings.proofs.releasing.keep_named.Given as goal

abbrev pub invariant-loop-block : goal.invariant-loop-block
invariant-loop-block l = (l.block ≤ block_entries) × Changed 0 (kept_by_flag l.flags) 0 l.block l.initial.handles l.handles
