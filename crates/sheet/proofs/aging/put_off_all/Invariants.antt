-- Task by task.
use Rattle.sheet.proofs.PutOff.{PutOff}
use Rattle.sheet.proofs.aging.put_off_all.Given as goal

abbrev pub invariant-loop-task : goal.invariant-loop-task
invariant-loop-task l = PutOff l.e-items l.clocks l.initial.units l.task l.units
