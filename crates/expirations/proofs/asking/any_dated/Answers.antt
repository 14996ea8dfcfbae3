-- By what the fold of the test gave.
use Rattle.std.proofs.Common.{◌+◌, arith, rules}
use Rattle.record.specs.Tables.{group_size}
use Rattle.expirations.specs.Standing.{is_dated_clock}
use Rattle.expirations.proofs.Places.{asked_fold}
use Rattle.expirations.proofs.asking.any_dated.Goals as goal

pub returns : goal.returns
returns c = let a = c.args in
    asked_fold is_dated_clock a.from (a.from + group_size) a.clocks.now c.any_in.result (omega arith) (search rules)
    (c.any_in.ensures is_dated_clock (λ x r e. search rules))
