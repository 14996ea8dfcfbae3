-- None is it where no clock is a pinned one's; else by what the fold of the test gave.
use Rattle.std.proofs.Common.{◌+◌, arith, rules}
use Rattle.record.specs.Tables.{group_size}
use Rattle.expirations.specs.Pinning.{is_pin_by}
use Rattle.expirations.proofs.Places.{asked_zip}
use Rattle.expirations.proofs.pinning.any_pin.Goals as goal

pub returns : goal.returns
returns c = let a = c.args in
    asked_zip (is_pin_by a.block) a.from (a.from + group_size) a.clocks.now a.named.now _ (omega arith) (search rules) (search rules) c.is_among.ensures
