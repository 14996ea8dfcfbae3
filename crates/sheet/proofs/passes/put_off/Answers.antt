-- What the closure computes.
use Rattle.std.proofs.Common.{rules}
use Rattle.sheet.specs.Passes.{put_off_of}
use Rattle.sheet.proofs.passes.put_off.Goals as goal

pub returns : goal.returns
returns c = c.remake.ensures (put_off_of c.args.code) (λ clock units r h k e. search rules)
