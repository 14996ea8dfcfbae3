-- A test of all tasks.
use mathlib.Core.Bool.{◌&&◌}
use mathlib.Core.Path.{ap, ◌∙◌}
use borrow.Author.Rules.{rules}
use lib.Dec.{leb}
use lib.ListN.{get_or}
use Rattle.lists.specs.Tables.{all_from}
use Rattle.lists.proofs.Loops.{scanned_start, kept_turn, kept_end}
use Rattle.ledger.specs.Objects.{no_share}
use Rattle.ledger.specs.declared.Quota.{Quota}
use Rattle.record.specs.Shares.{is_ordered}
use Rattle.shares.specs.Quotas.{is_quota_kept}
use Rattle.shares.proofs.quotas.all_within.Goals as goal

pub loop-i-init : goal.loop-i-init
loop-i-init c = scanned_start (all_from 0 (is_quota_kept c.args.small c.args.made)) _ 16 (search rules)

pub loop-i-preserved : goal.loop-i-preserved
loop-i-preserved c =
    kept_turn (is_quota_kept c.args.small c.args.made) no_share c.loop-i.fit c.loop-i.invariant (search rules)
    (c.is_within-fit.ensures ∙ ap (λ (q : Quota). is_ordered q && leb (get_or c.args.made c.loop-i.i 0) q.limit) c.of_store.ensures)

pub returns : goal.returns
returns c = kept_end (is_quota_kept c.args.small c.args.made) _ c.loop-i.invariant (search rules)
