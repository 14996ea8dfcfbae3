-- Why the bytes may not be written; or the bytes in their block, and their sum in its entry.
use Prim.Native.Nat.{◌<◌}
use mathlib.Core.Path.{refl}
use borrow.Author.Rules.{rules}
use Rattle.record.proofs.Types.{head_typed}
use Rattle.record.specs.Tables.{block_entries}
use Rattle.calls.proofs.Lent.{lent_fits}
use Rattle.calls.proofs.Meets.{halves}
use Rattle.calls.proofs.WriteLent.{write_refused_lent, write_listed, write_within, write_agrees, write_done_lent}
use Rattle.calls.proofs.write.Goals as goal

pub find_for_write-requires : goal.find_for_write-requires
find_for_write-requires c =
    let (small_whole_lem, large_whole_lem) = halves c.args.h.limits c.args.small.now c.args.large.now (c.requires.1.whole refl) in
    (c.requires.0, lent_fits _ _ _ c.requires.1.fit, small_whole_lem, large_whole_lem)

pub sum_after-after-requires : goal.sum_after-after-requires
sum_after-after-requires c =
    let types = head_typed _ _ c.well_formed.0 in (
      write_within types c.requires.0 _ _ _ c.args.bytes.now c.requires.1 _ (c.find_for_write.ensures c.args.bytes.now refl) c.in-Ok.is,
      write_agrees types c.requires.0 _ _ _ c.args.bytes.now c.requires.1 _ (c.find_for_write.ensures c.args.bytes.now refl) c.in-Ok.is,
    )

pub write_place-requires : goal.write_place-requires
write_place-requires c =
    write_within (head_typed _ _ c.well_formed.0) c.requires.0 _ _ _ c.args.bytes.now c.requires.1 _
    (c.find_for_write.ensures c.args.bytes.now refl) c.in-Ok.is

-- the block has an entry
pub offset_bounds-blocks-block : goal.offset_bounds-blocks-block
offset_bounds-blocks-block c =
    let h : c.in-Ok.part.block < block_entries = write_listed (head_typed _ _ c.well_formed.0) c.requires.0 _ _ _ c.args.bytes.now c.requires.1 _ (c.find_for_write.ensures c.args.bytes.now refl) c.in-Ok.is in
    search rules

pub bounds-blocks-block : goal.bounds-blocks-block
bounds-blocks-block c =
    let h : c.in-Ok.part.block < block_entries = write_listed (head_typed _ _ c.well_formed.0) c.requires.0 _ _ _ c.args.bytes.now c.requires.1 _ (c.find_for_write.ensures c.args.bytes.now refl) c.in-Ok.is in
    search rules

pub offset_bounds-blocks-block-in-Ok : goal.offset_bounds-blocks-block-in-Ok
offset_bounds-blocks-block-in-Ok c =
    let h : c.in-Ok.part.block < block_entries = write_listed (head_typed _ _ c.well_formed.0) c.requires.0 _ _ _ c.args.bytes.now c.requires.1 _ (c.find_for_write.ensures c.args.bytes.now refl) c.in-Ok.is in
    search rules

pub bounds-blocks-block-in-Ok : goal.bounds-blocks-block-in-Ok
bounds-blocks-block-in-Ok c =
    let h : c.in-Ok.part.block < block_entries = write_listed (head_typed _ _ c.well_formed.0) c.requires.0 _ _ _ c.args.bytes.now c.requires.1 _ (c.find_for_write.ensures c.args.bytes.now refl) c.in-Ok.is in
    search rules

pub returns-in-Err : goal.returns-in-Err
returns-in-Err c = (
  c.requires.0.blocks,
  write_refused_lent (head_typed _ _ c.well_formed.0) c.requires.0 _ _ _ c.args.bytes.now c.requires.1 _
      (c.find_for_write.ensures c.args.bytes.now refl) c.in-Err.is,
)

pub returns-in-Ok : goal.returns-in-Ok
returns-in-Ok c =
    rw c.with_sum.ensures
    (write_done_lent (head_typed _ _ c.well_formed.0) c.requires.0 _ _ _ c.args.bytes.now c.requires.1 _
    (c.find_for_write.ensures c.args.bytes.now refl) c.in-Ok.is _
    c.sum_after-after.ensures c.write_place.ensures.0 c.write_place.ensures.1)
