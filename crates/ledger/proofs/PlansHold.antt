-- The claims of a plan, and its rows: the checker steps each plan.
use mathlib.Core.Bool.{Bool}
use mathlib.Core.List.{map}
use lib.Dec.{T, eqb, eqb→eq}
use Rattle.lists.specs.Sums.{total, sum_below}
use Rattle.lists.specs.Blocks.{overwritten}
use Rattle.lists.specs.Tests.{all}
use Rattle.lists.proofs.Tests.{same_by, same_by→eq, all→All}
use Rattle.ledger.specs.Limits.{counter_range, standard, last_handle}
use Rattle.ledger.specs.Tasks.{fresh_clocks, moved, all_ticked, tasks_after, advances, clocks_after, entered}
use Rattle.ledger.specs.Expirations.{due_after, remaining, put_off, lasting}
use Rattle.ledger.specs.Objects.{fresh_memory, object_at, written as writtenObject, makers_after, shares_after}
use Rattle.ledger.specs.Shares.{made, unmet, is_full, is_short, is_at_limit}
use Rattle.ledger.specs.Refusals.{verdict}
use Rattle.ledger.specs.Rules.{reply_to, memory_after, expirations_after, tests_of}
use Rattle.ledger.specs.Ledger.{fresh, reply, next, after_all}
use Rattle.ledger.specs.Plans.{turn_of, turn_calls, track_after, step_calls, after_step, joins, stepped, run, figures}
use Rattle.ledger.specs.PlansClaim.{PlanRow, PlanRowHolds, plan_rows, Plans}
use Rattle.ledger.proofs.PlanFigures.{run_from, counted}
use Rattle.ledger.proofs.PlanCalls.{run_carried, written}

unfoldable passes : PlanRow → Bool
passes row = same_by (same_by eqb) (map figures (run row.limits row.plan row.steps).tracks) row.figures

passing_holds : (row : PlanRow) → T (passes row) → PlanRowHolds row
unfolding passes
passing_holds row t = record {
  told = same_by→eq (same_by eqb) (same_by→eq eqb eqb→eq) (map figures
      (run row.limits row.plan row.steps).tracks) row.figures t;
}

all_pass : T (all passes plan_rows)
unfolding passes plan_rows fresh reply next after_all tests_of verdict
    fresh_memory object_at writtenObject overwritten total reply_to memory_after expirations_after due_after remaining put_off lasting
    fresh_clocks moved all_ticked tasks_after advances clocks_after entered makers_after shares_after sum_below made unmet is_full is_short
    is_at_limit
    turn_of turn_calls track_after step_calls after_step joins stepped run
    standard last_handle counter_range
all_pass = tt

pub plans : Plans
plans =
    record {
      from = run_from;
      counted = counted;
      written = λ limits plan l steps. written _ _ (run_carried limits plan l steps).0;
      accepted = λ limits plan l steps. (run_carried limits plan l steps).0;
      rows = all→All passes passing_holds plan_rows all_pass;
    }
