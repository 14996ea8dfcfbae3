use Rattle.std.proofs.Common.{sym}
use Rattle.std.proofs.lemmas.List.{length-take-le}
use Rattle.plan.proofs.Whole.{output_written}
use Rattle.plan.proofs.run.Goals as goal

pub slice_bounds-write_all-end : goal.slice_bounds-write_all-end
slice_bounds-write_all-end g c = sym (length-take-le _ _ c.output_of-shown.ensures.most)

pub returns : goal.returns
returns g c =
    output_written c.write_all.result _ _ _ _ _ c.in_ok-count.ensures.first c.output_of-shown.ensures.bytes c.write_all.ensures.bytes
