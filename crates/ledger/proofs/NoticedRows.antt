-- The rows of order 6 hold: the checker computes one test over the table, and what passes it holds.
use native.Mathlib.Omega.{arith}
use mathlib.Core.Path.{refl}
use lib.Dec.{T}
use Rattle.lists.specs.Sums.{total, sum_below}
use Rattle.lists.specs.Blocks.{overwritten}
use Rattle.lists.specs.Tests.{all}
use Rattle.lists.proofs.Tests.{all→All}
use Rattle.ledger.specs.Limits.{counter_range, standard, last_handle}
use Rattle.ledger.specs.Tasks.{fresh_clocks, moved, all_ticked, tasks_after, advances, clocks_after, entered}
use Rattle.ledger.specs.Expirations.{due_after, remaining, put_off, lasting, released, set_on_each}
use Rattle.ledger.specs.Objects.{fresh_memory, object_at, written, makers_after, shares_after, handles_of, usage}
use Rattle.ledger.specs.Shares.{made, unmet, is_full, is_short, is_at_limit}
use Rattle.ledger.specs.Refusals.{verdict}
use Rattle.ledger.specs.Rules.{reply_to, memory_after, expirations_after, tests_of}
use Rattle.ledger.specs.Remaining.{remaining_life}
use Rattle.ledger.specs.Ledger.{fresh, reply, next, replies, after_all}
use Rattle.ledger.specs.Noticed.{Change, disturbed}
use Rattle.ledger.specs.NoticedRows.{three_objects, noticed_edges, NoticedRows}
use Rattle.ledger.proofs.Edges.{passes, passing_holds}

all_pass : T (all passes noticed_edges)
unfolding passes noticed_edges three_objects disturbed fresh reply next replies after_all tests_of verdict
    fresh_memory object_at written overwritten total reply_to memory_after expirations_after handles_of set_on_each usage due_after remaining remaining_life put_off lasting released
    fresh_clocks moved all_ticked tasks_after advances clocks_after entered makers_after shares_after sum_below made unmet is_full is_short is_at_limit
    standard last_handle counter_range
all_pass = tt

-- the first of them is such a change
one : Change
unfolding three_objects fresh next after_all tests_of verdict
    fresh_memory object_at written overwritten total memory_after expirations_after handles_of set_on_each due_after lasting released
    fresh_clocks moved all_ticked tasks_after advances clocks_after entered makers_after shares_after sum_below made unmet is_full is_short is_at_limit
    standard last_handle
one =
    record {
      before = three_objects;
      handle = 1;
      at = 0;
      value = 9;
      numbered = (omega arith, (omega arith, (omega arith, tt)));
      standing = (refl, (refl, (refl, tt)));
      listed = refl;
      intact = refl;
      inside = omega arith;
      other = λ q. omega (arith, q);
    }

pub noticed_rows : NoticedRows
unfolding noticed_edges
noticed_rows = record { six = refl; rows = all→All passes passing_holds noticed_edges all_pass; applies = one }
