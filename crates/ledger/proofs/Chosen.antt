-- No call changes the figures, and what the rows say of them.
use Prim.Native.Nat.{ℕ}
use mathlib.Core.List.{List, [], ◌∷◌}
use mathlib.Core.Option.{Option, none, some}
use mathlib.Core.Path.{◌≡◌, refl, ◌∙◌}
use lib.Dec.{T}
use Rattle.lists.specs.Sums.{total, sum_below}
use Rattle.lists.specs.Blocks.{overwritten}
use Rattle.lists.specs.Tests.{all}
use Rattle.lists.proofs.Tests.{all→All}
use Rattle.ledger.specs.Limits.{counter_range, standard, is_allowed, last_handle}
use Rattle.ledger.specs.Tasks.{fresh_clocks, moved, all_ticked, tasks_after, advances, clocks_after, entered}
use Rattle.ledger.specs.Expirations.{due_after, remaining, put_off, lasting, released, set_on_each}
use Rattle.ledger.specs.Objects.{Memory, fresh_memory, object_at, written, makers_after, shares_after, handles_of, usage}
use Rattle.ledger.specs.Shares.{made, unmet, is_full, is_short, is_at_limit}
use Rattle.ledger.specs.Refusals.{verdict}
use Rattle.ledger.specs.Rules.{reply_to, memory_after, expirations_after, tests_of}
use Rattle.ledger.specs.Ledger.{Ledger, Sent, settled, fresh, after_by, verdict_on, reply, next, replies, after_request, after_sent, after_all}
use Rattle.ledger.specs.Heap.{Used, heap_verdict_on, heap_next, heap_after_all}
use Rattle.ledger.specs.Chosen.{chosen_edges, ChosenClaim}
use Rattle.ledger.specs.declared.Call.{Call}
use Rattle.ledger.specs.declared.Call.TheVariants.{Join, Schedule, Make, Refresh, Read, Write, Batch, Release}
use Rattle.ledger.specs.declared.Refusal.{Refusal}
use Rattle.ledger.specs.declared.Request.{Request}
use Rattle.ledger.specs.declared.Request.TheVariants.{Use, Report, Remaining}
use Rattle.ledger.proofs.Edges.{passes, passing_holds}

carried : (call : Call) (new : List ℕ) (m : Memory) → (memory_after call new m).limits ≡ m.limits
unfolding memory_after
carried (Join task share) new m = refl
carried (Schedule event task) new m = refl
carried (Make task kind extension size prefix) new m = refl
carried (Refresh task kind extension handle) new m = refl
carried (Read task handle) new m = refl
carried (Write task handle offset) new m = refl
carried (Batch task kind extension) new m = refl
carried (Release task handle) new m = refl

fixed_heap_lem : (m : Memory) (call : Call) (new : List ℕ) → (heap_next m call new).limits ≡ m.limits
unfolding heap_next
fixed_heap_lem m call new = by (heap_verdict_on m call new)
  where
    by : (v : Option Refusal) → (after_by v (memory_after call new m) m).limits ≡ m.limits
    by none = carried call new m
    by (some r) = refl

fixed_heap_all : (m : Memory) (us : List Used) → (heap_after_all m us).limits ≡ m.limits
unfolding heap_after_all
fixed_heap_all m [] = refl
fixed_heap_all m (u ∷ us) = fixed_heap_all (heap_next m u.call u.bytes) us ∙ fixed_heap_lem m u.call u.bytes

pub limits_sent : (L : Ledger) (request : Request) (new : List ℕ) → (after_request L request new).memory.limits ≡ L.memory.limits
unfolding next
limits_sent L Report new = refl
limits_sent L (Remaining task handle) new = refl
limits_sent L (Use call) new = by (verdict_on L call new)
  where
    by : (v : Option Refusal)
        → (after_by v (settled (memory_after call new L.memory) (expirations_after call new L.memory L.expirations)) L).memory.limits ≡ L.memory.limits
    by none = carried call new L.memory
    by (some r) = refl

pub fixed : (L : Ledger) (ss : List Sent) → (after_all L ss).memory.limits ≡ L.memory.limits
unfolding after_all
fixed L [] = refl
fixed L (s ∷ ss) = fixed (after_sent L s) ss ∙ limits_sent L s.request s.bytes

all_pass : T (all passes chosen_edges)
unfolding passes chosen_edges fresh reply next replies after_all tests_of verdict
    fresh_memory object_at written overwritten total reply_to memory_after expirations_after handles_of set_on_each usage due_after remaining put_off lasting released
    fresh_clocks moved all_ticked tasks_after advances clocks_after entered makers_after shares_after sum_below made unmet is_full is_short is_at_limit
    standard last_handle counter_range
all_pass = tt

pub chosen_claim : ChosenClaim
unfolding is_allowed standard
chosen_claim =
    record {
      fixed = fixed;
      fixed_heap = fixed_heap_all;
      rows = all→All passes passing_holds chosen_edges all_pass;
      inside = (record { told = refl }, (record { told = refl }, (record { told = refl }, (record { told = refl }, tt))));
      outside =
          (record { told = refl }, (record { told = refl }, (record { told = refl }, (record { told = refl }, (record { told = refl }, (record { told = refl }, (record { told = refl }, tt)))))));
    }
