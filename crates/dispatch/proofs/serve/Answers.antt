-- Each arm by what its call promises.
use mathlib.Core.Path.{refl, ap}
use Rattle.ledger.specs.declared.Request.TheVariants.{Use}
use Rattle.record.proofs.Types.{head_typed}
use Rattle.calls.proofs.Lent.{lent_fits}
use Rattle.calls.proofs.Meets.{halves}
use Rattle.dispatch.proofs.Arms.{ready_for, join_arm, schedule_arm, refresh_arm, make_arm, read_arm, write_arm, batch_arm, release_arm}
use Rattle.dispatch.proofs.serve.Goals as goal

pub find_for_read-requires : goal.find_for_read-requires
find_for_read-requires c =
    let (small_whole, large_whole) = halves c.args.h.limits c.args.small.now c.args.large.now ((ready_for c.requires.1 (ap Use c.in-Read.is)).whole refl) in
    (c.requires.0, lent_fits _ _ _ c.requires.1.fit, small_whole, large_whole)

pub returns-in-Schedule : goal.returns-in-Schedule
returns-in-Schedule c =
    schedule_arm _ c.requires.0 c.requires.1 c.in-Schedule.is c.schedule.ensures.0 c.schedule.ensures.1

pub returns-in-Make : goal.returns-in-Make
returns-in-Make c =
    let m = c.make.ensures in
    make_arm _ c.requires.0 c.requires.1 c.in-Make.is (m.0, m.1) m.2

pub returns-in-Refresh : goal.returns-in-Refresh
returns-in-Refresh c =
    let m = c.refresh.ensures in
    refresh_arm _ c.requires.0 c.requires.1 c.in-Refresh.is (m.0, m.1) m.2

pub returns-in-Read : goal.returns-in-Read
returns-in-Read c =
    read_arm _ c.requires.0 c.requires.1 (head_typed _ _ c.well_formed.0) c.in-Read.is c.find_for_read.ensures c.where_found.ensures

pub returns-in-Write : goal.returns-in-Write
returns-in-Write c =
    write_arm _ c.requires.0 c.requires.1 c.in-Write.is c.write.ensures c.answered.ensures

pub returns-in-Batch : goal.returns-in-Batch
returns-in-Batch c =
    let m = c.batch.ensures in
    batch_arm _ c.requires.0 c.requires.1 c.in-Batch.is (m.0, m.1) m.2

pub returns-in-Release : goal.returns-in-Release
returns-in-Release c =
    let m = c.release.ensures in
    release_arm _ c.requires.0 c.requires.1 c.in-Release.is (m.0, m.1) m.2

pub returns-in-Join : goal.returns-in-Join
returns-in-Join c =
    join_arm _ c.requires.0 c.requires.1 c.in-Join.is c.requires.2 c.join.ensures.0 c.join.ensures.1
