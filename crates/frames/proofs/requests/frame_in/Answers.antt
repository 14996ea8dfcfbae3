-- By the number of the operation.
use mathlib.Core.Path.{◌∙◌}
use Rattle.frames.proofs.Frames.{by_number, unknown_operation, no_operation}
use Rattle.frames.proofs.requests.frame_in.Goals as goal

pub returns-then-line-eq0 : goal.returns-then-line-eq0
returns-then-line-eq0 c = no_operation c.args.line.now c.if-line-eq0.true

pub returns-in-1 : goal.returns-in-1
returns-in-1 c = c.join.ensures ∙ by_number _ 1 c.byte_at.ensures c.in-1.is

pub returns-in-2 : goal.returns-in-2
returns-in-2 c = c.schedule.ensures ∙ by_number _ 2 c.byte_at.ensures c.in-2.is

pub returns-in-3 : goal.returns-in-3
returns-in-3 c = c.schedule-in-3.ensures ∙ by_number _ 3 c.byte_at.ensures c.in-3.is

pub returns-in-4 : goal.returns-in-4
returns-in-4 c = c.schedule-in-4.ensures ∙ by_number _ 4 c.byte_at.ensures c.in-4.is

pub returns-in-5 : goal.returns-in-5
returns-in-5 c = c.schedule-in-5.ensures ∙ by_number _ 5 c.byte_at.ensures c.in-5.is

pub returns-in-6 : goal.returns-in-6
returns-in-6 c = c.make.ensures ∙ by_number _ 6 c.byte_at.ensures c.in-6.is

pub returns-in-7 : goal.returns-in-7
returns-in-7 c = c.refresh.ensures ∙ by_number _ 7 c.byte_at.ensures c.in-7.is

pub returns-in-8 : goal.returns-in-8
returns-in-8 c = c.read.ensures ∙ by_number _ 8 c.byte_at.ensures c.in-8.is

pub returns-in-9 : goal.returns-in-9
returns-in-9 c = c.write.ensures ∙ by_number _ 9 c.byte_at.ensures c.in-9.is

pub returns-in-10 : goal.returns-in-10
returns-in-10 c = c.report.ensures ∙ by_number _ 10 c.byte_at.ensures c.in-10.is

pub returns-in-11 : goal.returns-in-11
returns-in-11 c = c.remaining.ensures ∙ by_number _ 11 c.byte_at.ensures c.in-11.is

pub returns-in-12 : goal.returns-in-12
returns-in-12 c = c.batch.ensures ∙ by_number _ 12 c.byte_at.ensures c.in-12.is

pub returns-in-13 : goal.returns-in-13
returns-in-13 c = c.release.ensures ∙ by_number _ 13 c.byte_at.ensures c.in-13.is

pub returns-in-14 : goal.returns-in-14
returns-in-14 c = c.schedule-in-14.ensures ∙ by_number _ 14 c.byte_at.ensures c.in-14.is

pub returns-in_default : goal.returns-in_default
returns-in_default c =
    let r = c.in_default.in_default-own.rest in
    unknown_operation _ c.byte_at.ensures
    (r.0.0.0.0.0.0.0.0.0.0.0.0.0.1, (r.0.0.0.0.0.0.0.0.0.0.0.0.1, (r.0.0.0.0.0.0.0.0.0.0.0.1, (r.0.0.0.0.0.0.0.0.0.0.1, (r.0.0.0.0.0.0.0.0.0.1, (r.0.0.0.0.0.0.0.0.1, (r.0.0.0.0.0.0.0.1, (r.0.0.0.0.0.0.1, (r.0.0.0.0.0.1, (r.0.0.0.0.1, (r.0.0.0.1, (r.0.0.1, (r.0.1, (r.1, tt))))))))))))))
