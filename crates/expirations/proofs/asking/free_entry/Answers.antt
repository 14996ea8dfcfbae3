-- Sixteen at a time while none of them is free, then the search from there.
use Rattle.std.proofs.Common.{rules}
use Rattle.lists.specs.Tables.{first_from}
use Rattle.lists.proofs.Loops.{scanned_start}
use Rattle.record.specs.Tables.{expiration_entries}
use Rattle.expirations.proofs.Counting.{is_free}
use Rattle.expirations.proofs.Places.{first_past, first_beyond}
use Rattle.expirations.proofs.asking.free_entry.Goals as goal

pub loop-n-init : goal.loop-n-init
loop-n-init c = scanned_start (first_from 0 is_free) _ expiration_entries (search rules)

pub loop-n-preserved : goal.loop-n-preserved
loop-n-preserved c = first_past is_free 0 16 _ c.loop-n.invariant (search rules) (c.has_byte.ensures.none c.if-not-has_byte.true)

pub free_from-requires : goal.free_from-requires
free_from-requires c = first_beyond is_free c.loop-n.invariant
