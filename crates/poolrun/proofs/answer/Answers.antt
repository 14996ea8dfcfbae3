use Rattle.std.proofs.Common.{rules, sym, subst, ◌∙◌, ◌++◌, []}
use Rattle.std.proofs.lemmas.List.{length-take-le}
use Rattle.std.specs.Io.KnownBytes.{Appends}
use Rattle.std.proofs.KnownBytes.{Appends-nil, Appends-trans}
use Rattle.ledger.specs.Limits.{standard}
use Rattle.script.specs.Output.{answer_lines}
use Rattle.text.proofs.Puts.{puts_within}
use Rattle.poolrun.proofs.Answering.{goes_from_fresh, goes_further, taken, begins, ends}
use Rattle.poolrun.proofs.answer.Goals as goal

pub loop-at-init : goal.loop-at-init
unfolding standard
loop-at-init g c =
    (begins _ _ _ _ c.fresh-p.ensures (search rules) (search rules), search rules, [], goes_from_fresh _ _ _ _ c.fresh-p.ensures, Appends-nil _)

pub slice_bounds-write_all-end : goal.slice_bounds-write_all-end
slice_bounds-write_all-end g c = sym (length-take-le _ _ (puts_within c.run_on-ran.ensures.put))

pub loop-at-preserved : goal.loop-at-preserved
loop-at-preserved g c =
    let (runnable, long, so_far, goes, wrote) = c.loop-at.invariant in
    let r = c.run_on-ran.ensures in (
      r.runnable,
      c.run_on-ran.auto.out ∙ long,
      so_far ++ answer_lines r.replies,
      goes_further goes r,
      Appends-trans _ _ _ _ _ wrote (subst (Appends _ _) (taken r.put) c.in_ok-write_all.ensures.bytes),
    )

pub returns : goal.returns
returns g c =
    let (runnable, long, so_far, goes, wrote) = c.loop-at.invariant in
    subst (Appends _ _) (ends (search rules) (search rules) goes c.loop-at-test.false) wrote
