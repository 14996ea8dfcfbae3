-- The three ranges, each of a column.
use Rattle.std.proofs.Common.{drop, ◌∙◌, arith, rules}
use Rattle.ledger.proofs.Figures.{allowed}
use Rattle.lists.proofs.Folds.{fold_all, all_part}
use Rattle.fitness.specs.Checks.{is_none}
use Rattle.fitness.proofs.PastFigures.{bounds_by}
use Rattle.fitness.proofs.bounds.is_bounded.Goals as goal

pub all_free-requires : goal.all_free-requires
all_free-requires c = (omega (arith, (allowed c.args.limits c.requires).most_small), omega arith)

pub all_free-requires-2 : goal.all_free-requires-2
all_free-requires-2 c = (omega (arith, (allowed c.args.limits c.requires).most_large), omega arith)

pub all_unset-requires : goal.all_unset-requires
all_unset-requires c = omega (arith, (allowed c.args.limits c.requires).most_expirations)

pub returns : goal.returns
returns c =
    let hs = c.args.handles.now in
    let small = allowed c.args.limits c.requires in
    rw (
      c.all_unset.ensures ∙ fold_all is_none (drop c.args.limits.expirations c.args.clocks.now),
      all_part is_none _ _ hs _ (omega (arith, small.most_large)) c.all_free-2.ensures,
      all_part is_none _ _ hs _ (omega (arith, small.most_small)) c.all_free.ensures,
    )
    (bounds_by c.args.limits c.args.handles.now c.args.clocks.now (search rules) (search rules))
