-- Blocks are released where anything has ended.
use Rattle.std.proofs.Common.{rules}
use Rattle.record.specs.Tables.{SizedEntries}
use Rattle.endings.proofs.PutOff.{late_table}
use Rattle.endings.proofs.Tables.{ends_some, ends_none}
use Rattle.endings.proofs.end.Goals as goal

pub returns-then-end_due : goal.returns-then-end_due
returns-then-end_due c =
    let tables : SizedEntries c.args.clocks.now c.args.named.now c.args.dues.now = record { of_clocks = search rules; of_named = search rules; of_dues = search rules } in
    let (sized, late) = late_table c.args.t c.args.tasks tables c.desert.ensures c.put_off.ensures in
    ends_some c.args.t c.end_due.ensures sized late (search rules) c.if-end_due.true c.flags_of.ensures c.keep_named.ensures

pub returns-else-end_due : goal.returns-else-end_due
returns-else-end_due c =
    let tables : SizedEntries c.args.clocks.now c.args.named.now c.args.dues.now = record { of_clocks = search rules; of_named = search rules; of_dues = search rules } in
    let (sized, late) = late_table c.args.t c.args.tasks tables c.desert.ensures c.put_off.ensures in
    ends_none c.args.t c.end_due.ensures sized late (search rules) c.if-end_due.false
