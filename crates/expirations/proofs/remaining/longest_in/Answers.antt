-- Nothing is added where none names the block; else entry by entry.
use Rattle.std.proofs.Common.{◌<◌, arith}
use Rattle.record.specs.Tables.{group_size}
use Rattle.expirations.proofs.Longest.{longest_start, longest_turn, longest_past}
use Rattle.expirations.proofs.remaining.longest_in.Goals as goal

pub returns-then-not-has_byte : goal.returns-then-not-has_byte
returns-then-not-has_byte c = longest_past c.args.q c.requires.0 _ _ group_size c.requires.1 (c.has_byte.ensures.none c.if-not-has_byte.true)

pub loop-i-init : goal.loop-i-init
loop-i-init c = longest_start c.requires.0 _ (omega arith)

pub loop-i-preserved : goal.loop-i-preserved
loop-i-preserved c = let i = c.loop-i.i in
    let more : i < group_size = c.loop-i-test.true in
    longest_turn c.requires.0 c.requires.2 c.loop-i.invariant more
    (c.lefts-locals.ensures.so i more) c.counted.ensures c.max-local.ensures
    (c.lefts-globals.ensures.so i more) c.is_global.ensures c.counted-in-loop-i.ensures c.max-global.ensures
