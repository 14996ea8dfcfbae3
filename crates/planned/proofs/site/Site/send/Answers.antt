-- A call that meets its contract, on a record that is fit.
use Rattle.std.proofs.Common.{rules, ap, ◌∙◌}
use Rattle.ledger.specs.Objects.{Reply}
use Rattle.steps.proofs.Staying.{limits_stay}
use Rattle.planned.proofs.Sending.{placed, ready, whole}
use Rattle.planned.proofs.site.Site.send.Goals as goal

pub holdings_for-holdings-requires : goal.holdings_for-holdings-requires
holdings_for-holdings-requires c = (c.args.self.now.sized.blocks, placed _ c.args.self.now.fit)

pub call-step-requires : goal.call-step-requires
call-step-requires c = (
  c.args.self.now.sized,
  ready _ c.args.self.now.fit (whole c.args.self.now.figures _ _ (search rules) (search rules)),
  c.holdings_for-holdings.ensures,
)

pub invariant_of-self : goal.invariant_of-self
invariant_of-self c =
    let o = c.call-step.ensures.1.obeys in
    record { sized = c.call-step.ensures.0; fit = o.fits c.args.self.now.fit; figures = limits_stay _ _ o.stays ∙ c.args.self.now.figures }

pub returns : goal.returns
returns c =
    let o = c.call-step.ensures.1.obeys in
    let r = ready _ c.args.self.now.fit (whole c.args.self.now.figures _ _ (search rules) (search rules)) in
    record { leaves = λ L reads. o.leaves r L reads; told = λ L reads. ap (λ (y : Reply). y.answer) (o.answers r L reads) }
