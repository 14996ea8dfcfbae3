-- By the tables, entry by entry.
use Rattle.std.proofs.Common.{◌∙◌}
use Rattle.record.specs.Tables.{entries_of}
use Rattle.record.proofs.Types.{head_typed}
use Rattle.fitness.proofs.Within.{all_timely, dues_below}
use Rattle.fitness.proofs.times.all_timely.Goals as goal

pub returns : goal.returns
returns c = let units = c.before in
    let firsts = units.before in
    let s = firsts.before.before in
    record {
      so = λ named n.
          c.all_within.ensures.so named n
          ∙ all_timely (head_typed s.args.h _ s.well_formed.0) firsts.firsts-firsts.ensures units.units-units.ensures s.requires.1
          (entries_of s.args.clocks.now named s.args.dues.now)
          (dues_below s.args.clocks.now named s.args.dues.now s.requires.0.codes.size n s.requires.0.of_dues c.all_within.ensures.below);
    }
