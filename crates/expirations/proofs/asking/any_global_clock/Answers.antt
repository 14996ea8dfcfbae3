-- By what the fold of the test gave.
use Rattle.std.proofs.Common.{◌+◌, arith, rules}
use Rattle.record.specs.Tables.{group_size}
use Rattle.record.specs.Codes.{is_global_clock}
use Rattle.expirations.proofs.Places.{asked_fold}
use Rattle.expirations.proofs.asking.any_global_clock.Goals as goal

pub returns : goal.returns
returns c = let a = c.args in
    asked_fold is_global_clock a.from (a.from + group_size) a.clocks.now c.any_in.result (omega arith) (search rules)
    (c.any_in.ensures is_global_clock (λ x r e. search rules))
