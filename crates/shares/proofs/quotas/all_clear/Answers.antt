-- A test of all tasks.
use mathlib.Core.Path.{refl}
use borrow.Author.Rules.{rules}
use lib.Dec.{eqb}
use lib.ListN.{get_or}
use Rattle.lists.specs.Tables.{all_from}
use Rattle.lists.proofs.Loops.{scanned_start, kept_turn, kept_end}
use Rattle.ledger.specs.Objects.{no_share}
use Rattle.ledger.specs.Tasks.{is_active}
use Rattle.record.specs.Codes.{state_of, absent_entry}
use Rattle.shares.specs.Quotas.{is_clear}
use Rattle.shares.proofs.Clear.{fit_state, none_over}
use Rattle.shares.proofs.quotas.all_clear.Goals as goal

pub loop-i-init : goal.loop-i-init
loop-i-init c = scanned_start (all_from 0 (is_clear c.args.tasks)) _ 16 (search rules)

pub is_idle-requires : goal.is_idle-requires
is_idle-requires c = fit_state c.args.tasks c.loop-i.i c.requires

pub loop-i-preserved : goal.loop-i-preserved
loop-i-preserved c =
    let share = get_or c.args.shares c.loop-i.i no_share in
    let active = is_active (state_of (get_or c.args.tasks c.loop-i.i absent_entry).state) in
    rw (c.is_idle.ensures, none_over c.loop-i.over share.small.limit share.large.limit active)
    (kept_turn (is_clear c.args.tasks) no_share (eqb c.loop-i.over 0) c.loop-i.invariant (search rules) refl)

pub returns : goal.returns
returns c = kept_end (is_clear c.args.tasks) _ c.loop-i.invariant (search rules)
