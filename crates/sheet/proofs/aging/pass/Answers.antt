-- The passes, then the sweep.
use mathlib.Core.Path.{ap, ◌∙◌}
use borrow.Author.Rules.{rules}
use Rattle.sheet.specs.Aged.{passing_of, aged_clocks, aged_units}
use Rattle.sheet.specs.declared.aging.Passing.{Passing}
use Rattle.sheet.proofs.Columns.{fit_units}
use Rattle.sheet.proofs.Swept.{event_sweepable, event_passes}
use Rattle.sheet.proofs.aging.pass.Goals as goal

pub age-requires : goal.age-requires
unfolding passing_of
age-requires c =
    let t = c.requires.2 in
    (rw c.passing_of.ensures c.requires.1, t.clocked, fit_units _ c.args.places.now _ t.clocked t.placed t.fit)

pub sweep-requires : goal.sweep-requires
sweep-requires c =
    let a = c.args in
    event_sweepable a.event a.task a.advanced a.tasks c.requires.0 c.requires.1 (search rules) c.requires.2
    (c.age.ensures.0 ∙ ap (λ (p : Passing). aged_clocks p a.clocks.now) c.passing_of.ensures)
    (c.age.ensures.1 ∙ ap (λ (p : Passing). aged_units p a.tasks a.clocks.now a.units.now) c.passing_of.ensures)

pub returns : goal.returns
returns c =
    let a = c.args in
    event_passes a.event a.task a.advanced a.tasks c.requires.0 c.requires.1 (search rules) c.requires.2
    (c.age.ensures.0 ∙ ap (λ (p : Passing). aged_clocks p a.clocks.now) c.passing_of.ensures)
    (c.age.ensures.1 ∙ ap (λ (p : Passing). aged_units p a.tasks a.clocks.now a.units.now) c.passing_of.ensures)
    c.sweep.ensures
