-- By what a write makes of a block's sum.
use native.Mathlib.Omega.{arith}
use borrow.Author.Rules.{rules}
use Rattle.stores.proofs.Places.{most_bytes}
use Rattle.stores.proofs.Totals.{sum_changed}
use Rattle.stores.proofs.sums.sum_after.Goals as goal

pub sum_of-new-requires : goal.sum_of-new-requires
sum_of-new-requires c = omega (arith, c.requires.0.within, most_bytes c.args.block)

pub overflow_sub-result : goal.overflow_sub-result
overflow_sub-result c =
    let a = c.args in
    let changed = sum_changed a.offset a.bytes.now c.requires.0 (search rules) (search rules) (search rules) in
    omega (arith, changed, c.requires.1, c.part_sum-old.ensures, c.sum_of-new.ensures)

pub overflow_add-result : goal.overflow_add-result
overflow_add-result c =
    let a = c.args in
    let changed = sum_changed a.offset a.bytes.now c.requires.0 (search rules) (search rules) (search rules) in
    omega (arith, changed, c.requires.1, c.part_sum-old.ensures, c.sum_of-new.ensures)

pub overflow_cast-result-2 : goal.overflow_cast-result-2
overflow_cast-result-2 c =
    let a = c.args in
    let changed = sum_changed a.offset a.bytes.now c.requires.0 (search rules) (search rules) (search rules) in
    omega (arith, changed, c.requires.1, c.part_sum-old.ensures, c.sum_of-new.ensures)

pub returns : goal.returns
returns c =
    let a = c.args in
    let changed = sum_changed a.offset a.bytes.now c.requires.0 (search rules) (search rules) (search rules) in
    omega (arith, changed, c.requires.1, c.part_sum-old.ensures, c.sum_of-new.ensures)
