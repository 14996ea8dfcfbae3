-- By the counts.
use native.Mathlib.Omega.{arith}
use mathlib.Core.Path.{sym, ◌∙◌}
use borrow.Author.Tests.{ltb-true}
use Rattle.lists.proofs.Searches.{passes_within}
use Rattle.handles.specs.Handles.{is_few}
use Rattle.handles.proofs.Counting.{few_distinct}
use Rattle.handles.proofs.few_each.Goals as goal

pub returns : goal.returns
returns c = let counted = c.counts in
    λ few.
    few_distinct c.args.handles.now
    (λ k l.
    rw (← counted.ensures.so k l)
    (ltb-true _ 2 (passes_within is_few counted.result k 0 (sym c.all_few.ensures ∙ few) (omega (arith, counted.ensures.size)))))
