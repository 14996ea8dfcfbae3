-- The tests of all blocks, put together.
use Rattle.std.proofs.Common.{◌≡◌, get_or, rules}
use Rattle.lists.specs.Filled.{Filled}
use Rattle.record.specs.Tables.{length_in, prefix_in}
use Rattle.fitness.proofs.Columns.{given_by, named_by, by_columns}
use Rattle.fitness.proofs.blocks.check_blocks.Goals as goal

pub returns : goal.returns
returns c = let extents = c.args.blocks.now.extents in
    let lengths : Filled 0 (λ k x. x ≡ length_in (get_or extents k 0)) 96 96 c.of_all.result
    = record { size = c.of_all.ensures.size; so = λ k l. let e = c.of_all.ensures.so k l in search rules } in
    let prefixes : Filled 0 (λ k x. x ≡ prefix_in (get_or extents k 0)) 96 96 c.of_all-2.result
    = record { size = c.of_all-2.ensures.size; so = λ k l. let e = c.of_all-2.ensures.so k l in search rules } in
    rw (
      given_by c.args.given c.args.blocks.now.handles _ c.all_given.ensures,
      named_by c.args.flags c.shaped-shaped.result c.args.used _ (search rules) (search rules) c.all_named.ensures,
    )
    (by_columns c.args.given c.args.flags (record { of_handles = search rules; of_extents = search rules }) c.requires lengths prefixes c.shaped-shaped.ensures)
