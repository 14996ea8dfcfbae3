-- The life of what stands.
use mathlib.Core.Path.{sym, ap, ◌∙◌}
use Rattle.objects.specs.Outcomes.{life_of}
use Rattle.objects.proofs.finding.find_life.Goals as goal

pub returns : goal.returns
returns c = sym (ap life_of (sym c.find_standing.ensures ∙ c.in_ok-find_standing.was))
