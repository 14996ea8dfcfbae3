-- Every entry made anew in its place.
use Rattle.std.proofs.Common.{refl, rules}
use Rattle.lists.proofs.Loops.{mapped_turn}
use Rattle.record.specs.Codes.{absent_entry}
use Rattle.tasks.proofs.moves.all_unticked.Goals as goal

pub loop-task-preserved : goal.loop-task-preserved
loop-task-preserved c = mapped_turn absent_entry _ c.loop-task.invariant (search rules) refl
