-- 15, 1, or what the task made and may have.
use Rattle.by_value_tasks.proofs.ShareTold.{none_shared, unknown_shared, known_shared}
use Rattle.by_value_tasks.proofs.share.Goals as goal

pub returns-in_default : goal.returns-in_default
returns-in_default c = none_shared c.args.p c.fitness_of.ensures c.in_default.is c.from.ensures

pub returns-then-task-ge-TASK_COUNT : goal.returns-then-task-ge-TASK_COUNT
returns-then-task-ge-TASK_COUNT c = unknown_shared c.args.p c.fitness_of.ensures c.in-Some.is c.if-task-ge-TASK_COUNT.true c.from-then-task-ge-TASK_COUNT.ensures

pub returns : goal.returns
returns c = known_shared c.args.p c.fitness_of.ensures c.in-Some.is c.if-task-ge-TASK_COUNT.false
