-- The next times of the first tasks stand at their codes.
use Rattle.std.proofs.Common.{arith, rules}
use Rattle.lists.proofs.Filling.{laid_turn}
use Rattle.fitness.specs.Checks.{no_time}
use Rattle.fitness.proofs.Within.{next_of, firsts_end}
use Rattle.fitness.proofs.times.firsts.Goals as goal

pub loop-i-preserved : goal.loop-i-preserved
loop-i-preserved c = let l = c.before.before.before in
    rw c.next_local-first.ensures (laid_turn no_time (next_of l.args.tasks) 16 16 l.loop-i.invariant (search rules) (omega (arith, c.loop-i-test.true)))

pub returns : goal.returns
returns c = firsts_end c.next_global-last.result c.next_global-last.ensures c.loop-i.invariant (search rules)
