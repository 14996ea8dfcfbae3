-- None does where none has its number; else entry by entry.
use Rattle.std.proofs.Common.{arith}
use Rattle.record.specs.Tables.{group_size}
use Rattle.endings.proofs.Groups.{asked_named}
use Rattle.endings.proofs.unpinning.names_in.Goals as goal

pub returns : goal.returns
returns c = asked_named c.args.from group_size c.args.block _ _ (omega arith) (omega arith) c.any_names.ensures
