-- One pass over the handles.
use native.Mathlib.Omega.{arith}
use borrow.Author.Rules.{rules}
use Rattle.lists.proofs.Searches.{first_most}
use Rattle.ledger.proofs.Batches.{handles_count}
use Rattle.refusals.proofs.Batches.{passed_start, passed_turn, passed_end}
use Rattle.refusals.proofs.Searching.{is_of}
use Rattle.refusals.proofs.batch.find_batch.Goals as goal

pub loop-i-init : goal.loop-i-init
loop-i-init c = passed_start _ _ _ _ (handles_count _)

-- a place is at most the count of blocks
pub overflow_cast-blocks : goal.overflow_cast-blocks
overflow_cast-blocks c = let a = c.args in
    omega (arith, c.locate_by-place.ensures, first_most (is_of c.handle_at-handle.result) 0 a.handles.now)

pub loop-i-preserved : goal.loop-i-preserved
loop-i-preserved c = passed_turn _ _ _ _ c.loop-i.invariant (search rules) (search rules) c.handle_at-handle.ensures c.is_ungiven-ungiven.ensures c.locate_by-place.ensures

pub returns : goal.returns
returns c = passed_end _ _ _ _ c.loop-i.invariant (search rules) (handles_count _) (search rules)
