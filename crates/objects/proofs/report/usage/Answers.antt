-- By what the counts ensure; the large store's blocks are the last.
use Rattle.std.proofs.Common.{drop, length-drop, ◌∙◌, ap, arith}
use lib.Seq.{take_all}
use Rattle.ledger.specs.Limits.{capacity}
use Rattle.lists.specs.Tests.{count}
use Rattle.objects.specs.Usage.{is_given, usage_in}
use Rattle.objects.proofs.report.usage.Goals as goal

pub returns : goal.returns
unfolding usage_in
returns c =
    let hs = c.args.handles.now in
    let large = take_all capacity.large (drop capacity.small hs) (omega (arith, length-drop capacity.small hs)) in
    rw (c.used_blocks.ensures, c.used_blocks-2.ensures ∙ ap (count is_given) large)
