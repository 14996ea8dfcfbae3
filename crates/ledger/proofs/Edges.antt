-- The thirteen edges hold, and the rows beside them: the checker computes one test over each table, and what passes it holds.
use mathlib.Core.Bool.{Bool, ◌&&◌}
use mathlib.Core.Path.{refl}
use lib.Dec.{T, eqb, eqb→eq}
use Rattle.lists.specs.Sums.{total, sum_below}
use Rattle.lists.specs.Blocks.{overwritten}
use Rattle.lists.specs.Tests.{all, All}
use Rattle.lists.proofs.Tests.{both, same_by, same_by→eq, all→All}
use Rattle.ledger.specs.Limits.{counter_range, standard, last_handle}
use Rattle.ledger.specs.Tasks.{fresh_clocks, moved, all_ticked, tasks_after, advances, clocks_after, entered}
use Rattle.ledger.specs.Expirations.{due_after, remaining, put_off, deserted, lasting, released, set_on_each}
use Rattle.ledger.specs.Objects.{fresh_memory, object_at, written, makers_after, shares_after, handles_of, usage}
use Rattle.ledger.specs.Shares.{made, unmet, is_full, is_short, is_at_limit}
use Rattle.ledger.specs.Refusals.{verdict}
use Rattle.ledger.specs.Rules.{reply_to, memory_after, expirations_after, tests_of}
use Rattle.ledger.specs.Remaining.{remaining_life}
use Rattle.ledger.specs.Ledger.{fresh, reply, next, replies, after_all}
use Rattle.ledger.specs.Rows.{Row, answered, expected, clock_after, RowHolds}
use Rattle.ledger.specs.Edges.{edges, EdgesHold}
use Rattle.ledger.specs.MoreEdges.{more_edges, MoreEdgesHold}
use Rattle.ledger.specs.PutOff.{waiting_edges}
use Rattle.ledger.specs.Pinned.{pinned_edges}
use Rattle.ledger.specs.Reserves.{share_edges}

-- a row's two equations as a test
unfoldable pub passes : Row → Bool
passes row = same_by (same_by eqb) (answered row) (expected row) && eqb (clock_after row) row.clock

pub passing_holds : (row : Row) → T (passes row) → RowHolds row
unfolding passes
passing_holds row t =
    let (answers, clock) = both (same_by (same_by eqb) (answered row) (expected row)) (eqb (clock_after row) row.clock) t in
    record {
      answers = same_by→eq (same_by eqb) (same_by→eq eqb eqb→eq) (answered row) (expected row) answers;
      clock = eqb→eq (clock_after row) row.clock clock;
    }

-- the checker runs all calls of the tables
all_pass : T (all passes edges) × T (all passes more_edges) × T (all passes waiting_edges) × T (all passes pinned_edges) × T (all passes share_edges)
unfolding passes edges more_edges waiting_edges pinned_edges share_edges fresh reply next replies after_all tests_of verdict
    fresh_memory object_at written overwritten total reply_to memory_after expirations_after handles_of set_on_each usage due_after remaining remaining_life put_off deserted lasting released
    fresh_clocks moved all_ticked tasks_after advances clocks_after entered makers_after shares_after sum_below made unmet is_full is_short is_at_limit
    standard last_handle counter_range
all_pass = (tt, tt, tt, tt, tt)

pub edges_hold : EdgesHold
unfolding edges
edges_hold = record { thirteen = refl; rows = all→All passes passing_holds edges all_pass.0 }

pub more_edges_hold : MoreEdgesHold
more_edges_hold = all→All passes passing_holds more_edges all_pass.1

pub waiting_edges_hold : All RowHolds waiting_edges
waiting_edges_hold = all→All passes passing_holds waiting_edges all_pass.2

pub pinned_edges_hold : All RowHolds pinned_edges
pinned_edges_hold = all→All passes passing_holds pinned_edges all_pass.3

pub share_edges_hold : All RowHolds share_edges
share_edges_hold = all→All passes passing_holds share_edges all_pass.4
