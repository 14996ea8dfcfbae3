-- By the counts of the store's places.
use borrow.Author.Rules.{rules}
use Rattle.shares.proofs.Held.{told_by_lem, holds}
use Rattle.shares.proofs.holding_of.Goals as goal

pub returns : goal.returns
returns c =
    let from = c.of_store-from.ensures in
    let to = c.of_store-to.ensures in
    record {
      so = λ handles u placed.
          holds (told_by_lem u (search rules)) placed c.args.small (rw (from, to) at c.tally.ensures) c.first-made.ensures
          (rw (from, to) at c.count.ensures) c.args.shares c.holding_by.ensures;
    }
